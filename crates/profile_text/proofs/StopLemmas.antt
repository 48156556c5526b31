-- Readings that are refused: what stands before the fault, and that it stays whatever follows.
use Rattle.std.proofs.Common.{◌≡◌, ℕ, suc, List, [], ◌∷◌, refl, sym, ap, ◌∙◌, pos, Option, Some, None, Result, Ok, Err}
use lib.Chars.{codes}
use Rattle.profile_text.specs.declared.error.TextError.{TextError}
use Rattle.profile_text.specs.declared.error.TextError.TheVariants.{At}
use Rattle.profile_text.specs.declared.error.TextKind.{TextKind}
use Rattle.profile_text.specs.declared.error.TextKind.TheVariants.{End}
use Rattle.profile_text.specs.declared.expected.Expected.{Expected}
use Rattle.profile_text.specs.declared.kind.Kind.TheVariants.{Close, Then, Else, True, Name}
use Rattle.profile_text.specs.Grammar.{SpellsExpr, a_true}
use Rattle.profile_text.specs.Kind.{kind_of, word_of, op_of, section_of, plain_kind}
use Rattle.profile_text.specs.Read.{Read, read, and_then, allowed, fault_of, taken}
use Rattle.profile_text.specs.Token.{Token, Place}
use Rattle.profile_text.specs.Tree.{Constant}
use Rattle.profile_text.proofs.FrontLemmas.{Front, nothing, one, joined}
use Rattle.profile_text.proofs.GrammarLemmas.{before}

-- ---- Tokens that make an expression whole

-- a token of these bytes
abbrev pub token : List ℕ → Token
token text = record { line = 1; text = text }

-- `true` is a number
pub true_is : kind_of (codes "true") ≡ True
unfolding kind_of word_of
true_is = refl

-- `then` is the word
pub then_is : kind_of (codes "then") ≡ Then
unfolding kind_of word_of
then_is = refl

-- `else` is the word
pub else_is : kind_of (codes "else") ≡ Else
unfolding kind_of word_of
else_is = refl

-- `)` is the bracket
pub close_is : kind_of (codes ")") ≡ Close
unfolding kind_of word_of
close_is = refl

-- `a` is a name
pub name_is : kind_of (codes "a") ≡ Name
unfolding kind_of word_of op_of section_of plain_kind
name_is = refl

-- a number at the front of what follows
abbrev pub with_true : List Token → List Token
with_true tail = token (codes "true") ∷ tail

-- it is an expression
pub some_expr : (depth : ℕ) (tail : List Token) → SpellsExpr (suc depth) (with_true tail) (Constant (pos 1000000)) tail
some_expr depth tail = a_true depth (token (codes "true")) tail true_is

-- ---- Where a reading stops

-- the refusal is told at the first of these tokens, and so whatever follows it; or at the end
abbrev pub StopsAt : {B : Type 0} → (Place → Result B TextError) → (List Token → List Token) → List Token → TextError → Type 0
StopsAt R fill [] e = (line : ℕ) × (e ≡ At line End)
StopsAt R fill (bad ∷ rest) e =
    ((kind : TextKind) × (e ≡ At bad.line kind)) × ((last : ℕ) (more : List Token) → R (before last (fill (bad ∷ more))) ≡ Err e)

-- something of a front
abbrev pub Property : Type 1
Property = (List Token → List Token) → Type 0

-- a front after another has it
abbrev pub After : Front → Property → Property
After used W fill = W (λ tail. used.fill (fill tail))

-- one reading and then another
abbrev pub going : {A B : Type 0} → (Place → Result (Read A) TextError) → (A → Place → Result B TextError) → Place → Result B TextError
going R go p = and_then (R p) go

-- a reading of these tokens is refused after a front of which something holds
pub record Stops {B : Type 0} (R : Place → Result B TextError) (V : Property) (ts : List Token)
    (e : TextError) : Type 0 where
  pub front : Front
  pub rest : List Token
  pub tokens : ts ≡ front.fill rest
  pub viable : V front.fill
  pub told : StopsAt R front.fill rest e

-- a refusal within the first of two readings stops both
pub stops_first : {A B : Type 0} (R : Place → Result (Read A) TextError) (go : A → Place → Result B TextError)
    (V W : Property) (ts : List Token) (e : TextError) → Stops R V ts e
    → ((fill : List Token → List Token) → V fill → W fill) → Stops (λ p. and_then (R p) go) W ts e
stops_first R go V W ts e s then_so = record {
  front = s.front;
  rest = s.rest;
  tokens = s.tokens;
  viable = then_so s.front.fill s.viable;
  told = by_rest s.rest s.told;
}
  where
    by_rest : (rest : List Token) → StopsAt R s.front.fill rest e → StopsAt (λ p. and_then (R p) go) s.front.fill rest e
    by_rest [] told = told
    by_rest (bad ∷ rest) told = (told.0, λ last more. ap (λ r. and_then r go) (told.1 last more))

-- the first of two readings takes a front whatever follows, and gives this value
abbrev pub TakesFront : {A : Type 0} → (Place → Result (Read A) TextError) → Front → A → Type 0
TakesFront R used a = (last : ℕ) (tail : List Token) → (l : ℕ) × (R (before last (used.fill tail)) ≡ read a (before l tail))

-- a refusal within the second of two readings stops both
pub stops_second : {A B : Type 0} (R : Place → Result (Read A) TextError) (go : A → Place → Result B TextError) (W : Property)
    (ts us : List Token) (e : TextError) (a : A) (used : Front) → TakesFront R used a → ts ≡ used.fill us → Stops (go a) (After used W) us e
    → Stops (going R go) W ts e
stops_second R go W ts us e a used reads ts_is s = record {
  front = joined used s.front;
  rest = s.rest;
  tokens = ts_is ∙ ap used.fill s.tokens;
  viable = s.viable;
  told = by_rest s.rest s.told;
}
  where
    by_rest : (rest : List Token) → StopsAt (go a) s.front.fill rest e → StopsAt (going R go) (λ tail. used.fill (s.front.fill tail)) rest e
    by_rest [] told = told
    by_rest (bad ∷ rest) told = (
      told.0,
      λ last more.
          let x = reads last (s.front.fill (bad ∷ more)) in ap (λ r. and_then r go) x.1 ∙ told.1 x.0 more,
    )

-- ---- One token

-- the token in front is taken where nothing is at fault with it
pub taken_by : (expected : Expected) (last : ℕ) (t : Token) (ts : List Token) (o : Option TextKind) → fault_of expected (kind_of t.text) ≡ o
    → taken expected (before last (t ∷ ts)) ≡ allowed o t (before t.line ts)
unfolding taken
taken_by expected last t ts o is = ap (λ o. allowed o t (before t.line ts)) is

-- at the end none is taken
pub taken_none : (expected : Expected) (last : ℕ) → taken expected (before last []) ≡ Err (At last End)
unfolding taken
taken_none expected last = refl

-- two refusals of one reading are the same
pub same_error : {A : Type 0} (d e : TextError) → ◌≡◌ {A = Result A TextError} (Err d) (Err e) → d ≡ e
same_error {A} d e same = ap (error_or d) same
  where
    error_or : TextError → Result A TextError → TextError
    error_or d (Ok a) = d
    error_or d (Err e) = e

-- what is read after a token that is expected stops so
abbrev pub LaterStops : {B : Type 0} → Expected → (Token → Place → Result B TextError) → Property → TextError → Type 0
LaterStops expected go W e =
    (t : Token) (us : List Token) → fault_of expected (kind_of t.text) ≡ None → go t (before t.line us) ≡ Err e
    → Stops (go t) (After (one t nothing) W) us e

-- a token is read and then more: where it is refused, what stands before it is whole with other tokens
pub token_then : {B : Type 0} (expected : Expected) (go : Token → Place → Result B TextError) (W : Property) (last : ℕ) (ts : List Token)
    (e : TextError) → W (λ tail. tail) → LaterStops expected go W e → going (taken expected) go (before last ts) ≡ Err e
    → Stops (going (taken expected) go) W ts e
token_then expected go W last [] e here later h = record {
  front = nothing;
  rest = [];
  tokens = refl;
  viable = here;
  told = (last, sym (same_error (At last End) e (sym (ap (λ r. and_then r go) (taken_none expected last)) ∙ h)));
}
token_then {B} expected go W last (t ∷ ts) e here later h = by_fault (fault_of expected (kind_of t.text)) refl
  where
    by_fault : (o : Option TextKind) → fault_of expected (kind_of t.text) ≡ o → Stops (λ p. and_then (taken expected p) go) W (t ∷ ts) e
    by_fault (Some kind) is =
        let e_is : At t.line kind ≡ e =
        same_error {A = B} (At t.line kind) e (sym (ap (λ r. and_then r go) (taken_by expected last t ts (Some kind) is)) ∙ h) in
        record {
          front = nothing;
          rest = t ∷ ts;
          tokens = refl;
          viable = here;
          told = ((kind, sym e_is), λ last more. ap (λ r. and_then r go) (taken_by expected last t more (Some kind) is) ∙ ap Err e_is);
        }
    by_fault None is =
        stops_second (taken expected) go W (t ∷ ts) ts e t (one t nothing)
        (λ last tail. (t.line, taken_by expected last t tail None is)) refl
        (later t ts is (sym (ap (λ r. and_then r go) (taken_by expected last t ts None is)) ∙ h))
