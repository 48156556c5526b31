-- What isn't at fault never meets what isn't known.
use Rattle.std.proofs.Common.{◌≡◌, ◌∙◌, ℕ, Bool, true, false, ◌||◌, cond, List, [], ◌∷◌, ◌++◌, map, ℤ, Option, Some, None, Result, Ok, Err, is_some, refl, ap, subst}
use Rattle.std.specs.Option.{option_map, option_or}
use Rattle.std.specs.Map.{lookup}
use Rattle.std.specs.Str.{bytes_eq}
use Rattle.context_check.proofs.NameLemmas.{names_of, names_more, overridden_name, global_values_names}
use Rattle.context_check.specs.Checked.{IsArithmetic, IsDefined}
use Rattle.context_check.specs.Context.{Context, context_in}
use Rattle.context_check.specs.Refusal.{value_refusal, tag_refusal, look_refusal, variable_refusal, expr_refusal, name_refusal, section_refusal, names_in, sections_refusal}
use Rattle.context_check.specs.declared.error.CheckError.{CheckError}
use Rattle.context_check.specs.declared.error.CheckError.TheVariants.{UnknownName}
use Rattle.fixed_num.specs.declared.arithmetic.Arith.{Arith}
use Rattle.lookup_table.specs.First.{TagTable, rows_of}
use Rattle.lookup_table.specs.Tag.{TagRow, place_of}
use Rattle.lookup_table.specs.declared.part.Part.{Part}
use Rattle.lookup_table.specs.declared.part.Part.TheVariants as parts
use Rattle.profile_text.specs.Meaning.{Fault, and_then, known, truth, is_true, decided_by, result_of, arithmetic, operation, value_of, look_numbers, row_at, look_at, is_found, looks_in, no_looks, later_value, last_value, variable_in, SectionFault, with_value, values_from, replaced_by, overridden, global_values, own_values, assignments_of}
use Rattle.profile_text.specs.Names.{later_place, last_place, is_among}
use Rattle.profile_text.specs.Tree.{Tree, Constant, Variable, TagLook, Negation, Operation, Choice, Assignment, Sections}
use Rattle.profile_text.specs.declared.expr.Op.{Op}
use Rattle.profile_text.specs.declared.kind.Section.{Section}
use Rattle.profile_text.specs.declared.kind.Section.TheVariants.{Global, Way, Node}

-- ---- The first of two refusals

-- where nothing is at fault in two, nothing is in either
pub option_or-none : {A : Type 0} (a b : Option A) → option_or a b ≡ None → (a ≡ None) × (b ≡ None)
option_or-none None b none = (refl, none)
option_or-none (Some a) b none = cc

-- ---- Expressions

-- the result is there, but for a fault of arithmetic
abbrev pub IsKnown : {A : Type 0} → Result A Fault → Type 0
IsKnown (Ok a) = Unit {0}
IsKnown (Err fault) = IsArithmetic fault

-- so is what goes on with it, where each next step is
IsKnown-and_then : {A B : Type 0} (r : Result A Fault) (go : A → Result B Fault) → IsKnown r → ((a : A) → IsKnown (go a)) →
    IsKnown (and_then r go)
IsKnown-and_then (Ok a) go is next = next a
IsKnown-and_then (Err fault) go is next = is

-- so is what arithmetic gives
pub IsKnown-arithmetic : (r : Result ℤ Arith) → IsKnown (arithmetic r)
IsKnown-arithmetic (Ok n) = tt
IsKnown-arithmetic (Err kind) = tt

-- so is an operation, whether or not its first operand decides
IsKnown-operation : (op : Op) (a : ℤ) (decided : Option ℤ) (b : Result ℤ Fault) → IsKnown b → IsKnown (operation op a decided b)
IsKnown-operation op a (Some n) b is = tt
IsKnown-operation op a None b is = IsKnown-and_then b (λ n. arithmetic (result_of op a n)) is (λ n. IsKnown-arithmetic (result_of op a n))

-- so is a choice, where both arms are
IsKnown-choice : (test : Bool) (b c : Result ℤ Fault) → IsKnown b → IsKnown c → IsKnown (cond test b c)
IsKnown-choice true b c is_b is_c = is_b
IsKnown-choice false b c is_b is_c = is_c

-- what is found is known
IsKnown-found : {A : Type 0} (line : ℕ) (o : Option A) → is_some o ≡ true → IsKnown (known line o)
IsKnown-found line None found = cc
IsKnown-found line (Some a) found = tt

-- ---- Variables

-- a name further behind or the first one: where the place is known the value is
same_later : (first : Bool) (n : ℤ) (value : Option ℤ) (place : Option ℕ) → is_some value ≡ is_some place →
    is_some (later_value first n value) ≡ is_some (later_place first place)
same_later true n (Some v) (Some p) same = refl
same_later false n (Some v) (Some p) same = refl
same_later true n None None same = refl
same_later false n None None same = refl
same_later first n (Some v) None same = cc
same_later first n None (Some p) same = cc

-- a name that was given a number is one of the names
has_value : (values : List (List ℕ × ℤ)) (name : List ℕ) → is_some (last_value values name) ≡ is_among (names_of values) name
has_value [] name = refl
has_value (v ∷ vs) name = same_later (bytes_eq name v.0) v.1 (last_value vs name) (last_place (names_of vs) name) (has_value vs name)

-- the first is there or the second
option_or-some : {A : Type 0} (a b : Option A) → is_some (option_or a b) ≡ (is_some a || is_some b)
option_or-some (Some a) b = refl
option_or-some None b = refl

-- where no fault is found the test was true
passed : (b : Bool) (e : CheckError) → cond b None (Some e) ≡ None → b ≡ true
passed true e none = refl
passed false e none = cc

-- a variable that isn't at fault has a value
variable_found : (global own : List (List ℕ × ℤ)) (name : List ℕ) (line : ℕ) →
    variable_refusal (names_of global) (names_of own) name line ≡ None → is_some (variable_in global own name) ≡ true
variable_found global own name line none =
    option_or-some (last_value own name) (last_value global name)
    ∙ ap (λ b. b || is_some (last_value global name)) (has_value own name)
    ∙ ap (λ b. is_among (names_of own) name || b) (has_value global name)
    ∙ passed (is_among (names_of own) name || is_among (names_of global) name) (UnknownName line) none

-- ---- Looks

-- looks are known where they aren't at fault
abbrev pub AreKnown : Option (List TagRow) → (List ℕ → List (List ℕ) → Option Bool) → Type 0
AreKnown rows looks =
    (tag : List ℕ) (values : List (List ℕ)) (line : ℕ) → look_refusal rows tag values line ≡ None → is_some (looks tag values) ≡ true

-- no look of the global section is without fault
AreKnown-global : AreKnown None no_looks
AreKnown-global tag values line none = cc

-- those of a part are known for all tag numbers
AreKnown-rows : (rows : List TagRow) (numbers : List ℕ) → AreKnown (Some rows) (looks_in rows numbers)
AreKnown-rows rows numbers tag values line none = by_place (place_of rows tag) none
  where
    by_numbers : (place : ℕ) (found : Option (List ℕ)) → value_refusal found line ≡ None →
        is_some (option_map (is_found numbers) (option_map (λ (ns : List ℕ). (place, ns)) found)) ≡ true
    by_numbers place None none = cc
    by_numbers place (Some ns) none = refl

    by_place : (place : Option ℕ) → tag_refusal rows place values line ≡ None →
        is_some (option_map (is_found numbers) (look_at rows place values)) ≡ true
    by_place None none = cc
    by_place (Some place) none = by_numbers place (look_numbers (row_at rows place) values) none

-- ---- Trees

-- what an expression is looked at in: the names are those of the values of the global section
abbrev at : Section → Option (List TagRow) → List (List ℕ × ℤ) → Context
at section rows global = record { section = section; rows = rows; global = names_of global }

module _ (section : Section) (rows : Option (List TagRow)) (looks : List ℕ → List (List ℕ) → Option Bool)
    (global : List (List ℕ × ℤ)) (are : AreKnown rows looks) where
  -- an expression that isn't at fault has a value, but for a fault of arithmetic
  IsKnown-tree : (own : List (List ℕ × ℤ)) (tree : Tree) → expr_refusal (at section rows global) (names_of own) tree ≡ None →
      IsKnown (value_of (variable_in global own) looks tree)
  IsKnown-tree own (Constant n) none = tt
  IsKnown-tree own (Variable name line) none =
      IsKnown-found line (variable_in global own name) (variable_found global own name line none)
  IsKnown-tree own (TagLook tag values line) none =
      IsKnown-and_then (known line (looks tag values)) (λ found. Ok (truth found))
      (IsKnown-found line (looks tag values) (are tag values line none))
      (λ found. tt)
  IsKnown-tree own (Negation a) none =
      IsKnown-and_then (value_of (variable_in global own) looks a) _ (IsKnown-tree own a none) (λ n. tt)
  IsKnown-tree own (Operation op a b) none =
      let fault = expr_refusal (at section rows global) (names_of own) in
      let parts = option_or-none (fault a) (fault b) none in
      let is_b = IsKnown-tree own b parts.1 in
      IsKnown-and_then (value_of (variable_in global own) looks a) _ (IsKnown-tree own a parts.0)
      (λ n. IsKnown-operation op n (decided_by op n) (value_of (variable_in global own) looks b) is_b)
  IsKnown-tree own (Choice a b c) none =
      let fault = expr_refusal (at section rows global) (names_of own) in
      let value = value_of (variable_in global own) looks in
      let parts = option_or-none (fault a) (option_or (fault b) (fault c)) none in
      let arms = option_or-none (fault b) (fault c) parts.1 in
      let is_b = IsKnown-tree own b arms.0 in
      let is_c = IsKnown-tree own c arms.1 in
      IsKnown-and_then (value a) _ (IsKnown-tree own a parts.0) (λ n. IsKnown-choice (is_true n) (value b) (value c) is_b is_c)

-- ---- Sections

-- the values of a section are there, but for a fault of arithmetic
abbrev pub AreThere : {A : Type 0} → Result A SectionFault → Type 0
AreThere (Ok a) = Unit {0}
AreThere (Err fault) = IsArithmetic fault.fault

-- a fault among them is one of arithmetic
fault_found : {A : Type 0} (r : Result A SectionFault) (fault : SectionFault) → AreThere r → r ≡ Err fault → IsArithmetic fault.fault
fault_found {A} r fault there is = let P : Result A SectionFault → Type 0 = AreThere in subst P is there

-- the values of the rest of a section, after one more value
module _ (looks : List ℕ → List (List ℕ) → Option Bool) (global : List (List ℕ × ℤ)) where
  -- they are there where the value is, and those of the rest after it
  AreThere-further : (own : List (List ℕ × ℤ)) (a : Assignment) (rest : List Assignment) (r : Result ℤ Fault) → IsKnown r →
      ((n : ℤ) → AreThere (values_from looks global (own ++ (a.name, n) ∷ []) rest)) →
      AreThere (and_then (with_value own a.name r) (λ values. values_from looks global values rest))
  AreThere-further own a rest (Ok n) is next = next n
  AreThere-further own a rest (Err fault) is next = is

module _ (section : Section) (rows : Option (List TagRow)) (looks : List ℕ → List (List ℕ) → Option Bool)
    (global : List (List ℕ × ℤ)) (are : AreKnown rows looks) where
  -- a section that isn't at fault has its values, but for a fault of arithmetic
  AreThere-section : (own : List (List ℕ × ℤ)) (assigned : List Assignment) →
      section_refusal (at section rows global) (names_of own) assigned ≡ None → AreThere (values_from looks global own assigned)
  AreThere-section own [] none = tt
  AreThere-section own (a ∷ rest) none =
      let c = at section rows global in
      let further = (option_or-none (name_refusal section a) _ none).1 in
      let parts = option_or-none (expr_refusal c (names_of own) a.value) _ further in
      AreThere-further looks global own a rest (value_of (variable_in global own) looks a.value)
      (IsKnown-tree section rows looks global are own a.value parts.0)
      (λ n. AreThere-section (own ++ (a.name, n) ∷ []) rest
      (ap (λ names. section_refusal c names rest) (names_more own a.name n) ∙ parts.1))

-- ---- Overrides

-- a number isn't at fault
replaced_refusal : (o : Option ℤ) (c : Context) (own : List (List ℕ)) (a : Assignment) → expr_refusal c own a.value ≡ None →
    expr_refusal c own (replaced_by o a).value ≡ None
replaced_refusal None c own a none = none
replaced_refusal (Some n) c own a none = refl

-- a global section that isn't at fault isn't under overrides
pub overridden_refusal : (overrides : List (List ℕ × ℤ)) (table : TagTable) (global own : List (List ℕ)) (assigned : List Assignment) →
    section_refusal (context_in table Global global) own assigned ≡ None →
    section_refusal (context_in table Global global) own (map (overridden overrides) assigned) ≡ None
overridden_refusal overrides table global own [] none = refl
overridden_refusal overrides table global own (a ∷ rest) none =
    let c = context_in table Global global in
    let b = overridden overrides a in
    let more = map (overridden overrides) rest in
    let parts = option_or-none (expr_refusal c own a.value) _ none in
    ap (λ e. option_or e (section_refusal c (own ++ b.name ∷ []) more))
    (replaced_refusal (lookup (bytes_eq a.name) overrides) c own a parts.0)
    ∙ ap (λ name. section_refusal c (own ++ name ∷ []) more) (overridden_name overrides a)
    ∙ overridden_refusal overrides table global (own ++ a.name ∷ []) rest parts.1

-- ---- The whole

-- nothing is at fault in each of the sections
pub record SectionsPass (table : TagTable) (s : Sections) : Type 0 where
  pub global : section_refusal (context_in table Global []) [] s.global ≡ None
  pub way : section_refusal (context_in table Way (names_in s.global)) [] s.way ≡ None
  pub node : section_refusal (context_in table Node (names_in s.global)) [] s.node ≡ None

-- where nothing is at fault in the three of them
pub sections_pass : (table : TagTable) (s : Sections) → sections_refusal table s ≡ None → SectionsPass table s
sections_pass table s none =
    let first = option_or-none (section_refusal (context_in table Global []) [] s.global) _ none in
    let second = option_or-none (section_refusal (context_in table Way (names_in s.global)) [] s.way) _ first.1 in
    let third = option_or-none (section_refusal (context_in table Node (names_in s.global)) [] s.node) _ second.1 in
    record { global = first.0; way = second.0; node = third.0 }

-- the section of a part has its values after those of the global one, but for a fault of arithmetic
AreThere-part : (table : TagTable) (s : Sections) → SectionsPass table s → (part : Part) (numbers : List ℕ) (values : List (List ℕ × ℤ)) →
    names_of values ≡ names_in s.global → AreThere (values_from (looks_in (rows_of table part) numbers) values [] (assignments_of s part))
AreThere-part table s pass parts.Way numbers values are =
    AreThere-section Way (Some table.way) (looks_in table.way numbers) values (AreKnown-rows table.way numbers) [] s.way
    (ap (λ names. section_refusal (context_in table Way names) [] s.way) are ∙ pass.way)
AreThere-part table s pass parts.Node numbers values are =
    AreThere-section Node (Some table.node) (looks_in table.node numbers) values (AreKnown-rows table.node numbers) [] s.node
    (ap (λ names. section_refusal (context_in table Node names) [] s.node) are ∙ pass.node)

-- a profile that isn't at fault has all its values under all overrides and for all tag numbers, but for faults of arithmetic
pub IsDefined-accepted : (table : TagTable) (s : Sections) → sections_refusal table s ≡ None → IsDefined table s
unfolding global_values own_values
IsDefined-accepted table s none =
    let pass = sections_pass table s none in
    record {
      global = λ overrides fault known is.
          let all = map (overridden overrides) s.global in
          fault_found (values_from no_looks [] [] all) fault
          (AreThere-section Global None no_looks [] AreKnown-global [] all (overridden_refusal overrides table [] [] s.global pass.global))
          is;
      own = λ overrides part numbers values fault known there is.
          fault_found (values_from (looks_in (rows_of table part) numbers) values [] (assignments_of s part)) fault
          (AreThere-part table s pass part numbers values (global_values_names overrides s values there))
          is;
    }
