-- What is read at a place of the tokens: the first token that can't stand where it is refuses.
use Rattle.std.specs.Prelude.{ℕ, zero, suc, List, [], ◌∷◌, length, Bool, true, false, Option, Some, None, Result, Ok, Err, pos}
use Rattle.profile_text.specs.declared.error.TextError.{TextError}
use Rattle.profile_text.specs.declared.error.TextError.TheVariants.{At}
use Rattle.profile_text.specs.declared.error.TextKind.{TextKind}
use Rattle.profile_text.specs.declared.error.TextKind as Fault
use Rattle.profile_text.specs.declared.expr.Op.{Op}
use Rattle.profile_text.specs.declared.kind.Section.{Section}
use Rattle.profile_text.specs.declared.kind.Section.TheVariants.{Global, Way, Node}
use Rattle.profile_text.specs.declared.kind.Kind.{Kind}
use Rattle.profile_text.specs.declared.kind.Kind.TheVariants.{Open, Close, Opens, Assign, Equals, Then, Else, True, False, Not, Switch, If, Two, Number, BadNumber, Look, Name, Other}
use Rattle.profile_text.specs.declared.expected.Expected.{Expected}
use Rattle.profile_text.specs.declared.expected.Expected.TheVariants.{Expression, Closing, Variable, ThenWord, ElseWord}
use Rattle.profile_text.specs.Kind.{kind_of, has_dashes}
use Rattle.profile_text.specs.Look.{tag_of, values_of}
use Rattle.profile_text.specs.Token.{Token, Place, start_of}
use Rattle.profile_text.specs.Tree.{Tree, Constant, TagLook, Negation, Operation, Choice, Assignment, Sections}
use Rattle.profile_text.specs.Tree as T

-- what was read, and the place after it
pub record Read (A : Type 0) : Type 0 where
  pub value : A
  pub place : Place

-- a value that was read up to a place
abbrev pub read : {A : Type 0} → A → Place → Result (Read A) TextError
read value place = Ok (record { value = value; place = place })

-- goes on with what was read, or keeps the refusal
abbrev pub and_then : {A B : Type 0} → Result (Read A) TextError → (A → Place → Result B TextError)
    → Result B TextError
and_then (Ok r) go = go r.value r.place
and_then (Err e) go = Err e

-- ---- One token

-- the first token, and the place after it; where there is none, the text ends too early, at the line of the
-- token before
abbrev pub first_of : ℕ → List Token → Result (Read Token) TextError
first_of last [] = Err (At last Fault.TheVariants.End)
first_of last (t ∷ ts) = read t (record { last = t.line; tokens = ts })

-- why a token of this kind can't stand where an expression is expected
abbrev pub expression_fault : Kind → Option TextKind
expression_fault Close = Some Fault.TheVariants.Bracket
expression_fault BadNumber = Some Fault.TheVariants.Number
expression_fault (Opens s) = Some Fault.TheVariants.Token
expression_fault Assign = Some Fault.TheVariants.Token
expression_fault Equals = Some Fault.TheVariants.Token
expression_fault Then = Some Fault.TheVariants.Token
expression_fault Else = Some Fault.TheVariants.Token
expression_fault Other = Some Fault.TheVariants.Token
expression_fault _ = None

-- why a token of this kind can't stand where `)` is expected
abbrev pub closing_fault : Kind → Option TextKind
closing_fault Close = None
closing_fault _ = Some Fault.TheVariants.Bracket

-- why a token of this kind can't stand where another word is expected
abbrev pub word_fault : Kind → TextKind
word_fault BadNumber = Fault.TheVariants.Number
word_fault _ = Fault.TheVariants.Token

-- why a token of this kind can't stand where a name is expected
abbrev pub name_fault : Kind → Option TextKind
name_fault Name = None
name_fault kind = Some (word_fault kind)

-- why a token of this kind can't stand where `then` is expected
abbrev pub then_fault : Kind → Option TextKind
then_fault Then = None
then_fault kind = Some (word_fault kind)

-- why a token of this kind can't stand where `else` is expected
abbrev pub else_fault : Kind → Option TextKind
else_fault Else = None
else_fault kind = Some (word_fault kind)

-- why a token of this kind can't stand where something is expected, if it can't
abbrev pub fault_of : Expected → Kind → Option TextKind
fault_of Expression kind = expression_fault kind
fault_of Closing kind = closing_fault kind
fault_of Variable kind = name_fault kind
fault_of ThenWord kind = then_fault kind
fault_of ElseWord kind = else_fault kind

-- a token that may stand where it is, or its refusal
abbrev pub allowed : Option TextKind → Token → Place → Result (Read Token) TextError
allowed None t place = read t place
allowed (Some fault) t place = Err (At t.line fault)

-- the next token, where it is what is expected
unfoldable pub taken : Expected → Place → Result (Read Token) TextError
taken expected place =
    and_then (first_of place.last place.tokens)
    (λ t after. allowed (fault_of expected (kind_of t.text)) t after)

-- ---- Expressions

-- the operand of `not`
abbrev pub not_of : (Place → Result (Read Tree) TextError) → Place → Result (Read Tree) TextError
not_of operand place = and_then (operand place) (λ a p. read (Negation a) p)

-- two operands
abbrev pub two_of : (Place → Result (Read Tree) TextError) → Op → Place → Result (Read Tree) TextError
two_of operand op place =
    and_then (operand place) (λ a p. and_then (operand p) (λ b q. read (Operation op a b) q))

-- the three operands of `switch`
abbrev pub switch_of : (Place → Result (Read Tree) TextError) → Place → Result (Read Tree) TextError
switch_of operand place =
    and_then (operand place)
    (λ a p. and_then (operand p) (λ b q. and_then (operand q) (λ c r. read (Choice a b c) r)))

-- the three operands of `if`, parted by `then` and `else`
abbrev pub if_of : (Place → Result (Read Tree) TextError) → Place → Result (Read Tree) TextError
if_of operand place =
    and_then (operand place) (λ a p. and_then (taken ThenWord p) (λ t p2.
    and_then (operand p2) (λ b q. and_then (taken ElseWord q) (λ u q2.
    and_then (operand q2) (λ c r. read (Choice a b c) r)))))

-- an expression and its closing bracket
abbrev pub bracket_of : (Place → Result (Read Tree) TextError) → Place → Result (Read Tree) TextError
bracket_of operand place =
    and_then (operand place) (λ a p. and_then (taken Closing p) (λ t q. read a q))

-- the expression that a token of this kind begins; its operands are read one deeper
abbrev pub form_of : (operand : Place → Result (Read Tree) TextError) (t : Token) → Kind → (place : Place)
    → Result (Read Tree) TextError
form_of operand t (Number n) place = read (Constant n) place
form_of operand t True place = read (Constant (pos 1000000)) place
form_of operand t False place = read (Constant (pos 0)) place
form_of operand t Name place = read (T.Variable t.text t.line) place
form_of operand t Look place = read (TagLook (tag_of t.text) (values_of t.text) t.line) place
form_of operand t Not place = not_of operand place
form_of operand t (Two op) place = two_of operand op place
form_of operand t Switch place = switch_of operand place
form_of operand t If place = if_of operand place
form_of operand t Open place = bracket_of operand place
form_of operand t _ place = Err (At t.line Fault.TheVariants.Token)

-- an expression, where so many expressions may still be open at once
unfoldable pub expr_of : ℕ → Place → Result (Read Tree) TextError
expr_of zero place = and_then (taken Expression place) (λ t p. Err (At t.line Fault.TheVariants.Deep))
expr_of (suc room) place =
    and_then (taken Expression place) (λ t p. form_of (expr_of room) t (kind_of t.text) p)

-- ---- Sections

-- how deep an expression may be
unfoldable pub most_depth : ℕ
most_depth = 1000

-- the place after a `=`, if it stands there
abbrev pub after_equals : Kind → Token → List Token → Place → Place
after_equals Equals t ts place = record { last = t.line; tokens = ts }
after_equals _ t ts place = place

-- the place after the `=` that may follow a name
abbrev pub past_equals : ℕ → List Token → Place
past_equals last [] = record { last = last; tokens = [] }
past_equals last (t ∷ ts) = after_equals (kind_of t.text) t ts (record { last = last; tokens = t ∷ ts })

-- an assignment after the word `assign`
unfoldable pub assignment_of : Place → Result (Read Assignment) TextError
assignment_of place =
    and_then (taken Variable place) (λ name p.
    and_then (expr_of most_depth (past_equals p.last p.tokens)) (λ value q.
    read (record { name = name.text; line = name.line; value = value }) q))

-- one more assignment at the front of a section
abbrev pub put_first : Section → Assignment → Sections → Sections
put_first Global a s = record { global = a ∷ s.global; way = s.way; node = s.node }
put_first Way a s = record { global = s.global; way = a ∷ s.way; node = s.node }
put_first Node a s = record { global = s.global; way = s.way; node = a ∷ s.node }

-- no assignments
abbrev pub no_sections : Sections
no_sections = record { global = []; way = []; node = [] }

-- the same at the front of what was read, or its refusal
abbrev pub with_first : Section → Assignment → Result Sections TextError → Result Sections TextError
with_first section a (Ok s) = Ok (put_first section a s)
with_first section a (Err e) = Err e

-- why a token can't stand where an assignment or a section is expected
abbrev pub front_fault : Bool → Kind → TextKind
front_fault dashes Close = Fault.TheVariants.Bracket
front_fault true _ = Fault.TheVariants.Section
front_fault false BadNumber = Fault.TheVariants.Number
front_fault false _ = Fault.TheVariants.Token

-- the assignment of the open section, and then those that follow
abbrev pub assigned : Option Section → (more : Option Section → Place → Result Sections TextError) (t : Token)
    (place : Place) → Result Sections TextError
assigned None more t place = Err (At t.line Fault.TheVariants.Section)
assigned (Some section) more t place =
    and_then (assignment_of place) (λ a p. with_first section a (more (Some section) p))

-- the assignments from a token of this kind on
abbrev pub from_front : Kind
    → (current : Option Section) (more : Option Section → Place → Result Sections TextError)
    (t : Token) (place : Place) → Result Sections TextError
from_front (Opens section) current more t place = more (Some section) place
from_front Assign current more t place = assigned current more t place
from_front kind current more t place = Err (At t.line (front_fault (has_dashes t.text) kind))

-- the assignments of these tokens, where a section may be open; each part takes bytes of the text, so as many
-- parts as bytes are enough
unfoldable pub sections_within : ℕ → Option Section → ℕ → List Token → Result Sections TextError
sections_within parts current last [] = Ok no_sections
sections_within zero current last (t ∷ ts) = Ok no_sections
sections_within (suc parts) current last (t ∷ ts) =
    from_front (kind_of t.text) current (λ section p. sections_within parts section p.last p.tokens) t
    (record { last = t.line; tokens = ts })

-- the profile of a text, or the refusal of the first token that can't stand where it is
unfoldable pub profile_of : List ℕ → Result Sections TextError
profile_of text = sections_within (length text) None (start_of text).last (start_of text).tokens
