-- What a token is. The words are those of the routing profiles of the developers guide; names, looks and
-- literals are this project's own rule.
use Rattle.std.specs.Prelude.{ℕ, Bool, false, not, ◌&&◌, ◌||◌, List, [], ◌∷◌, map, length, nat_eq, ◌==◌, if◌then◌else◌, Option, Some, None, ℤ, Result, Ok, Err, codes, bytes_eq}
use Rattle.std.specs.Borrow.{Bor}
use Rattle.std.specs.Char.{is_ascii_digit, is_ascii_alphanumeric}
use Rattle.std.specs.List.{prefix_len, starts_with}
use Rattle.fixed_num.specs.declared.literal.NumError.{NumError}
use Rattle.fixed_num.specs.Literal.{literal_of}
use Rattle.profile_text.specs.declared.expr.Op.{Op}
use Rattle.profile_text.specs.declared.expr.Op.TheVariants.{Or, And, Xor, Multiply, Divide, Add, Sub, Max, Min, Equal, Greater, Lesser}
use Rattle.profile_text.specs.declared.kind.Section.{Section}
use Rattle.profile_text.specs.declared.kind.Section.TheVariants.{Global, Way, Node}
use Rattle.profile_text.specs.declared.kind.Kind.{Kind}
use Rattle.profile_text.specs.declared.kind.Kind.TheVariants.{Open, Close, Opens, Assign, Equals, Then, Else, True, False, Not, Switch, If, Two, Number, BadNumber, Look, Name, Other}
use Rattle.profile_text.specs.Look.{is_look}

-- what stands beside a text in a list of words, where it is one of them
abbrev pub beside : {A : Type 0} → List (List ℕ × A) → List ℕ → Option A
beside [] text = None
beside ((word, it) ∷ rows) text = if bytes_eq text word then Some it else beside rows text

-- the words of a table, each with what stands beside it
abbrev pub words_in : {A : Type 0} → List (Bor (List ℕ) × A) → List (List ℕ × A)
words_in rows = map (λ row. (row.0.now, row.1)) rows

-- the quoted word that a token is, but for the operators of two operands and the sections
unfoldable pub word_of : List ℕ → Option Kind
word_of = beside (
    (codes "(", Open) ∷
    (codes ")", Close) ∷
    (codes "assign", Assign) ∷
    (codes "=", Equals) ∷
    (codes "then", Then) ∷
    (codes "else", Else) ∷
    (codes "true", True) ∷
    (codes "false", False) ∷
    (codes "not", Not) ∷
    (codes "switch", Switch) ∷
    (codes "if", If) ∷ []
    )

-- the operator of two operands that a token is
unfoldable pub op_of : List ℕ → Option Op
op_of = beside (
    (codes "or", Or) ∷
    (codes "and", And) ∷
    (codes "xor", Xor) ∷
    (codes "multiply", Multiply) ∷
    (codes "divide", Divide) ∷
    (codes "add", Add) ∷
    (codes "sub", Sub) ∷
    (codes "max", Max) ∷
    (codes "min", Min) ∷
    (codes "equal", Equal) ∷
    (codes "greater", Greater) ∷
    (codes "lesser", Lesser) ∷ []
    )

-- the section that a token opens
unfoldable pub section_of : List ℕ → Option Section
section_of = beside (
    (codes "---context:global", Global) ∷
    (codes "---context:way", Way) ∷
    (codes "---context:node", Node) ∷ []
    )

-- the token begins with three dashes
abbrev pub has_dashes : List ℕ → Bool
has_dashes text = starts_with nat_eq text (codes "---")

-- the token must be a literal: it begins with a digit or `-`, and not with three dashes
abbrev pub must_be_literal : List ℕ → Bool
must_be_literal [] = false
must_be_literal (c ∷ cs) = is_ascii_digit c || ((c == 45) && not (has_dashes (c ∷ cs)))

-- a byte that a name may hold: a letter, a digit or `_`
abbrev pub is_name_byte : ℕ → Bool
is_name_byte c = is_ascii_alphanumeric c || (c == 95)

-- the token is a letter or `_` followed by letters, digits and `_`
abbrev pub is_name : List ℕ → Bool
is_name [] = false
is_name (c ∷ cs) = not (is_ascii_digit c) && (prefix_len is_name_byte (c ∷ cs) == length (c ∷ cs))

-- what a token is that must be a literal, by the number that it has
abbrev pub number_kind : Result ℤ NumError → Kind
number_kind (Ok n) = Number n
number_kind (Err e) = BadNumber

-- what a token is that must be a literal
abbrev pub literal_kind : List ℕ → Kind
literal_kind text = number_kind (literal_of text)

-- what a token is that is no quoted word
unfoldable pub plain_kind : List ℕ → Kind
plain_kind text =
    if must_be_literal text then literal_kind text
    else (if is_name text then Name else (if is_look text then Look else Other))

-- what a token is, by the word, the operator and the section that it may be, and what it is otherwise
abbrev pub first_kind : Option Kind → Option Op → Option Section → Kind → Kind
first_kind (Some kind) op section plain = kind
first_kind None (Some op) section plain = Two op
first_kind None None (Some section) plain = Opens section
first_kind None None None plain = plain

-- what a token is
unfoldable pub kind_of : List ℕ → Kind
kind_of text = first_kind (word_of text) (op_of text) (section_of text) (plain_kind text)
