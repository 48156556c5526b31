-- What a profile means, after the routing profiles of the developers guide; the order of evaluation and its
-- faults are this project's own.
use Rattle.std.specs.Prelude.{ℕ, Bool, true, false, not, ◌||◌, List, [], ◌∷◌, ◌++◌, length, map, slice_index_or, ℤ, pos, negsuc, zero, suc, int_lt, Option, Some, None, Result, Ok, Err, ◌==◌, if◌then◌else◌, option_map}
use Rattle.std.specs.Int.{int_max, int_min}
use Rattle.std.specs.Ordering.{int_eq}
use Rattle.std.specs.Map.{lookup}
use Rattle.std.specs.Option.{option_or}
use Rattle.std.specs.Str.{bytes_eq}
use lib.Chars.{codes}
pub use Rattle.item_list.specs.Answer.{and_then}
use Rattle.fixed_num.specs.Arithmetic.{sum_of, difference_of, product_of, quotient_of}
use Rattle.fixed_num.specs.declared.arithmetic.Arith.{Arith}
use Rattle.lookup_table.specs.First.{TagTable, rows_of}
use Rattle.lookup_table.specs.Tag.{TagRow, number_in, place_of, empty_tag}
use Rattle.lookup_table.specs.declared.part.Part.{Part}
use Rattle.lookup_table.specs.declared.part.Part.TheVariants.{Way, Node}
use Rattle.profile_text.specs.declared.expr.Op.{Op}
use Rattle.profile_text.specs.declared.expr.Op.TheVariants.{Or, And, Xor, Multiply, Divide, Add, Sub, Max, Min, Equal, Greater, Lesser}
use Rattle.profile_text.specs.Tree.{Tree, Constant, Variable, TagLook, Negation, Operation, Choice, Assignment, Sections}

-- why an expression has no value: it names a variable, a tag or a value that isn't known, on this line; or a
-- fault of arithmetic
pub data Fault : Type 0 where
  Unknown : ℕ → Fault
  Faulty : Arith → Fault

-- ---- Numbers

-- the number of a truth
abbrev pub truth : Bool → ℤ
truth true = pos 1000000
truth false = pos 0

-- zero is false, all else true
abbrev pub is_true : ℤ → Bool
is_true (pos zero) = false
is_true (pos (suc n)) = true
is_true (negsuc n) = true

-- what an operator comes to where its first operand decides: `and` where it is zero, `or` where it isn't
abbrev pub decided_by : Op → ℤ → Option ℤ
decided_by And a = if is_true a then None else Some (truth false)
decided_by Or a = if is_true a then Some (truth true) else None
decided_by op a = None

-- what an operator makes of two operands, where the first doesn't decide
abbrev pub result_of : Op → ℤ → ℤ → Result ℤ Arith
result_of Or a b = Ok (truth (is_true b))
result_of And a b = Ok (truth (is_true b))
result_of Xor a b = Ok (truth (if is_true a then not (is_true b) else is_true b))
result_of Multiply a b = product_of a b
result_of Divide a b = quotient_of a b
result_of Add a b = sum_of a b
result_of Sub a b = difference_of a b
result_of Max a b = Ok (int_max a b)
result_of Min a b = Ok (int_min a b)
result_of Equal a b = Ok (truth (int_eq a b))
result_of Greater a b = Ok (truth (int_lt b a))
result_of Lesser a b = Ok (truth (int_lt a b))

-- a result of arithmetic as that of an expression
abbrev pub arithmetic : Result ℤ Arith → Result ℤ Fault
arithmetic (Ok n) = Ok n
arithmetic (Err kind) = Err (Faulty kind)

-- ---- Expressions

-- what a variable or a look is known to be, or that it isn't known
abbrev pub known : {A : Type 0} → ℕ → Option A → Result A Fault
known line (Some a) = Ok a
known line None = Err (Unknown line)

-- what an operator comes to, its first operand being known: the second is looked at where the first doesn't
-- decide
abbrev pub operation : Op → ℤ → Option ℤ → Result ℤ Fault → Result ℤ Fault
operation op a (Some decided) b = Ok decided
operation op a None b = and_then b (λ n. arithmetic (result_of op a n))

-- the value of an expression, where variables and looks have these values; operands are looked at from the
-- left, and the arm alone that a choice picks
abbrev pub value_of : (variables : List ℕ → Option ℤ) (looks : List ℕ → List (List ℕ) → Option Bool)
    → Tree → Result ℤ Fault
value_of variables looks (Constant n) = Ok n
value_of variables looks (Variable name line) = known line (variables name)
value_of variables looks (TagLook tag values line) =
    and_then (known line (looks tag values)) (λ found. Ok (truth found))
value_of variables looks (Negation a) =
    and_then (value_of variables looks a) (λ n. Ok (truth (not (is_true n))))
value_of variables looks (Operation op a b) =
    and_then (value_of variables looks a) (λ n. operation op n (decided_by op n) (value_of variables looks b))
value_of variables looks (Choice a b c) =
    and_then (value_of variables looks a)
    (λ n. if is_true n then value_of variables looks b else value_of variables looks c)

-- ---- Looks

-- the number that a value of a look stands for: `unknown` is number 1 whatever the tag lists
abbrev pub look_number : TagRow → List ℕ → Option ℕ
look_number row value = if bytes_eq value (codes "unknown") then Some 1 else number_in row.numbers value

-- one more number at the front of others, where both are known
abbrev pub with_number : Option ℕ → Option (List ℕ) → Option (List ℕ)
with_number None numbers = None
with_number (Some n) None = None
with_number (Some n) (Some ns) = Some (n ∷ ns)

-- the numbers that these values stand for, if each is known
abbrev pub value_numbers : TagRow → List (List ℕ) → Option (List ℕ)
value_numbers row [] = Some []
value_numbers row (v ∷ vs) = with_number (look_number row v) (value_numbers row vs)

-- the numbers that a look asks for: those of its values, or 0, not set, where it has none
abbrev pub look_numbers : TagRow → List (List ℕ) → Option (List ℕ)
look_numbers row [] = Some (0 ∷ [])
look_numbers row (v ∷ vs) = value_numbers row (v ∷ vs)

-- a number is one of these
abbrev pub is_listed : ℕ → List ℕ → Bool
is_listed n [] = false
is_listed n (m ∷ ms) = (n == m) || is_listed n ms

-- the tag at a place
abbrev pub row_at : List TagRow → ℕ → TagRow
row_at rows place = slice_index_or rows place (empty_tag [])

-- the place of a look's tag and the numbers that it asks for, if the tag and each value are known
abbrev pub look_at : List TagRow → Option ℕ → List (List ℕ) → Option (ℕ × List ℕ)
look_at rows None values = None
look_at rows (Some place) values =
    option_map (λ numbers. (place, numbers)) (look_numbers (row_at rows place) values)

-- whether the number of a tag is one that a look asks for
abbrev pub is_found : List ℕ → ℕ × List ℕ → Bool
is_found numbers look = is_listed (slice_index_or numbers look.0 0) look.1

-- what looks come to among the tags of a part with these tag numbers
abbrev pub looks_in : List TagRow → List ℕ → List ℕ → List (List ℕ) → Option Bool
looks_in rows numbers tag values = option_map (is_found numbers) (look_at rows (place_of rows tag) values)

-- the global section knows no tags
abbrev pub no_looks : List ℕ → List (List ℕ) → Option Bool
no_looks tag values = None

-- ---- Sections

-- the number of a name, where that of the same name further behind is known, and whether the first is it too
abbrev pub later_value : Bool → ℤ → Option ℤ → Option ℤ
later_value first n (Some later) = Some later
later_value true n None = Some n
later_value false n None = None

-- the number that a name was given last
abbrev pub last_value : List (List ℕ × ℤ) → List ℕ → Option ℤ
last_value [] name = None
last_value (v ∷ vs) name = later_value (bytes_eq name v.0) v.1 (last_value vs name)

-- a variable: of the section itself, or else of the global one
abbrev pub variable_in : List (List ℕ × ℤ) → List (List ℕ × ℤ) → List ℕ → Option ℤ
variable_in global own name = option_or (last_value own name) (last_value global name)

-- the first assignment of a section that has no value: its place and name, and why
pub record SectionFault : Type 0 where
  pub place : ℕ
  pub name : List ℕ
  pub fault : Fault

-- the values of a section with one more assignment's, or its fault
abbrev pub with_value : List (List ℕ × ℤ) → List ℕ → Result ℤ Fault → Result (List (List ℕ × ℤ)) SectionFault
with_value own name (Ok n) = Ok (own ++ (name, n) ∷ [])
with_value own name (Err fault) = Err (record { place = length own; name = name; fault = fault })

-- the values of a section: those that it has already, and then those of further assignments in order
abbrev pub values_from : (looks : List ℕ → List (List ℕ) → Option Bool) (global own : List (List ℕ × ℤ))
    → List Assignment → Result (List (List ℕ × ℤ)) SectionFault
values_from looks global own [] = Ok own
values_from looks global own (a ∷ rest) =
    and_then (with_value own a.name (value_of (variable_in global own) looks a.value))
    (λ values. values_from looks global values rest)

-- an assignment, where an override may replace its value
abbrev pub replaced_by : Option ℤ → Assignment → Assignment
replaced_by None a = a
replaced_by (Some n) a = record { name = a.name; line = a.line; value = Constant n }

-- an assignment under overrides
abbrev pub overridden : List (List ℕ × ℤ) → Assignment → Assignment
overridden overrides a = replaced_by (lookup (bytes_eq a.name) overrides) a

-- the values of the global section under overrides, one for each assignment
unfoldable pub global_values : List (List ℕ × ℤ) → Sections → Result (List (List ℕ × ℤ)) SectionFault
global_values overrides s = values_from no_looks [] [] (map (overridden overrides) s.global)

-- the assignments of the section that belongs to a part of the tag table
abbrev pub assignments_of : Sections → Part → List Assignment
assignments_of s Way = s.way
assignments_of s Node = s.node

-- the values of a part's own section after those of the global one, for the tag numbers of a way or a node
unfoldable pub own_values : (table : TagTable) (s : Sections) (part : Part) (numbers : List ℕ)
    (global : List (List ℕ × ℤ))
    → Result (List (List ℕ × ℤ)) SectionFault
own_values table s part numbers global =
    values_from (looks_in (rows_of table part) numbers) global [] (assignments_of s part)
