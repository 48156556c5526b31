-- What is read is spelled so.
use Rattle.std.proofs.Common.{◌≡◌, ℕ, zero, suc, List, [], ◌∷◌, refl, sym, ap, subst, Option, Some, None, Result, Ok, Err}
use Rattle.profile_text.specs.declared.error.TextError.{TextError}
use Rattle.profile_text.specs.declared.error.TextError.TheVariants.{At}
use Rattle.profile_text.specs.declared.error.TextKind.{TextKind}
use Rattle.profile_text.specs.declared.error.TextKind as Fault
use Rattle.profile_text.specs.declared.expected.Expected.{Expected}
use Rattle.profile_text.specs.declared.expected.Expected.TheVariants.{Expression, Closing, ThenWord, ElseWord}
use Rattle.profile_text.specs.declared.kind.Kind.{Kind}
use Rattle.profile_text.specs.declared.kind.Kind.TheVariants.{Open, Close, Then, Else, True, False, Not, Switch, If, Two, Number, Look, Name}
use Rattle.profile_text.specs.Grammar.{SpellsExpr, a_number, a_true, a_false, a_name, a_look, a_not, a_two, a_switch, an_if, a_bracket}
use Rattle.profile_text.specs.Kind.{kind_of}
use Rattle.profile_text.specs.Read.{Read, read, and_then, allowed, fault_of, closing_fault, then_fault, else_fault, taken, form_of, expr_of}
use Rattle.profile_text.specs.Token.{Token, Place}
use Rattle.profile_text.specs.Tree.{Tree, Negation, Operation, Choice}

-- what a result has, or another value
abbrev pub value_or : {A B : Type 0} → A → Result A B → A
value_or d (Ok a) = a
value_or d (Err e) = d

-- two results with a value have the same
pub same_value : {A B : Type 0} (a b : A) → ◌≡◌ {A = Result A B} (Ok a) (Ok b) → a ≡ b
same_value a b h = ap (value_or a) h

-- reading went on from a value
pub record Went {A B : Type 0} (r : Result (Read A) TextError) (go : A → Place → Result B TextError) (b : B) : Type 0 where
  pub value : A
  pub place : Place
  pub was : r ≡ read value place
  pub next : go value place ≡ Ok b

-- reading that succeeds went on from a value
pub went_on : {A B : Type 0} (r : Result (Read A) TextError) (go : A → Place → Result B TextError) (b : B) → and_then r go ≡ Ok b
    → Went r go b
went_on (Ok x) go b h = record { value = x.value; place = x.place; was = refl; next = h }
went_on (Err e) go b h = cc

-- a token was taken: it is the first, and may stand there
pub record TakenFirst (expected : Expected) (p : Place) (t : Token) (q : Place) : Type 0 where
  pub tokens : p.tokens ≡ t ∷ q.tokens
  pub last : q.last ≡ t.line
  pub fits : fault_of expected (kind_of t.text) ≡ None

-- a token that is allowed may stand there, and is what was asked for
allowed_fits : (f : Option TextKind) (t u : Token) (p q : Place) → allowed f t p ≡ read u q
    → (f ≡ None) × (◌≡◌ {A = Read Token} (record { value = t; place = p }) (record { value = u; place = q }))
allowed_fits None t u p q h = (refl, same_value (record { value = t; place = p }) (record { value = u; place = q }) h)
allowed_fits (Some k) t u p q h = cc

-- so is each token that was taken
pub taken_is_first : (expected : Expected) (last : ℕ) (ts : List Token) (t : Token) (q : Place)
    → taken expected (record { last = last; tokens = ts }) ≡ read t q → TakenFirst expected (record { last = last; tokens = ts }) t q
unfolding taken
taken_is_first expected last [] t q h = cc
taken_is_first expected last (u ∷ us) t q h =
    let f = allowed_fits (fault_of expected (kind_of u.text)) u t (record { last = u.line; tokens = us }) q h in
    let P : Read Token → Type 0 = λ r. TakenFirst expected (record { last = last; tokens = u ∷ us }) r.value r.place in
    subst P f.1 (record { tokens = refl; last = refl; fits = f.0 })

-- a token that may stand where `then` is expected is the word
pub then_word : (k : Kind) → then_fault k ≡ None → k ≡ Then
then_word Then h = refl
then_word _ h = cc

-- a token that may stand where `else` is expected is the word
pub else_word : (k : Kind) → else_fault k ≡ None → k ≡ Else
else_word Else h = refl
else_word _ h = cc

-- a token that may stand where `)` is expected is the bracket
pub closing_word : (k : Kind) → closing_fault k ≡ None → k ≡ Close
closing_word Close h = refl
closing_word _ h = cc

-- the tokens that were read spell the tree
abbrev pub IsSpelled : ℕ → Place → Read Tree → Type 0
IsSpelled depth p r = SpellsExpr depth p.tokens r.value r.place.tokens

-- what is read is spelled so where the value and the place are
spelled_as : {depth : ℕ} {ts : List Token} {e : Tree} {q : Place} (r : Read Tree) → read e q ≡ Ok r → SpellsExpr depth ts e q.tokens
    → SpellsExpr depth ts r.value r.place.tokens
spelled_as {depth} {ts} {e} {q} r h spells =
    let P : Read Tree → Type 0 = λ x. SpellsExpr depth ts x.value x.place.tokens in
    subst P (same_value (record { value = e; place = q }) r h) spells

-- what is read as a form is spelled so, where what is read one deeper is
pub form_is_spelled : (depth : ℕ) (t : Token) (p : Place) (r : Read Tree)
    → ((q : Place) (s : Read Tree) → expr_of depth q ≡ Ok s → IsSpelled depth q s) → (k : Kind) → kind_of t.text ≡ k
    → form_of (expr_of depth) t k p ≡ Ok r → SpellsExpr (suc depth) (t ∷ p.tokens) r.value r.place.tokens
form_is_spelled depth t p r inner (Number n) k h =
    spelled_as r h (a_number depth t n p.tokens k)
form_is_spelled depth t p r inner True k h =
    spelled_as r h (a_true depth t p.tokens k)
form_is_spelled depth t p r inner False k h =
    spelled_as r h (a_false depth t p.tokens k)
form_is_spelled depth t p r inner Name k h =
    spelled_as r h (a_name depth t p.tokens k)
form_is_spelled depth t p r inner Look k h =
    spelled_as r h (a_look depth t p.tokens k)
form_is_spelled depth t p r inner Not k h =
    let x = went_on (expr_of depth p) (λ a p. read (Negation a) p) r h in
    spelled_as r x.next (a_not depth t p.tokens x.value x.place.tokens k (inner p _ x.was))
form_is_spelled depth t p r inner (Two op) k h =
    let x = went_on (expr_of depth p) (λ a p. and_then (expr_of depth p) (λ b q. read (Operation op a b) q)) r h in
    let y = went_on (expr_of depth x.place) (λ b q. read (Operation op x.value b) q) r x.next in
    spelled_as r y.next
    (a_two depth t op p.tokens x.place.tokens x.value y.value y.place.tokens k (inner p _ x.was) (inner x.place _ y.was))
form_is_spelled depth t p r inner Switch k h =
    let x =
    went_on (expr_of depth p) (λ a p. and_then (expr_of depth p) (λ b q. and_then (expr_of depth q) (λ c r. read (Choice a b c) r))) r h in
    let y = went_on (expr_of depth x.place) (λ b q. and_then (expr_of depth q) (λ c r. read (Choice x.value b c) r)) r x.next in
    let z = went_on (expr_of depth y.place) (λ c r. read (Choice x.value y.value c) r) r y.next in
    spelled_as r z.next
    (a_switch depth t p.tokens x.place.tokens y.place.tokens x.value y.value z.value z.place.tokens k (inner p _ x.was)
    (inner x.place _ y.was) (inner y.place _ z.was))
form_is_spelled depth t p r inner If k h =
    let x =
    went_on (expr_of depth p)
    (λ a p. and_then (taken ThenWord p)
    (λ t p2. and_then (expr_of depth p2)
    (λ b q. and_then (taken ElseWord q) (λ u q2. and_then (expr_of depth q2) (λ c r. read (Choice a b c) r))))) r h in
    let u =
    went_on (taken ThenWord x.place)
    (λ t p2. and_then (expr_of depth p2)
    (λ b q. and_then (taken ElseWord q) (λ u q2. and_then (expr_of depth q2) (λ c r. read (Choice x.value b c) r)))) r x.next in
    let y =
    went_on (expr_of depth u.place)
    (λ b q. and_then (taken ElseWord q) (λ u q2. and_then (expr_of depth q2) (λ c r. read (Choice x.value b c) r))) r u.next in
    let v = went_on (taken ElseWord y.place) (λ u q2. and_then (expr_of depth q2) (λ c r. read (Choice x.value y.value c) r)) r y.next in
    let z = went_on (expr_of depth v.place) (λ c r. read (Choice x.value y.value c) r) r v.next in
    let then_first = taken_is_first ThenWord x.place.last x.place.tokens u.value u.place u.was in
    let else_first = taken_is_first ElseWord y.place.last y.place.tokens v.value v.place v.was in
    let A : List Token → Type 0 = λ ts. SpellsExpr depth p.tokens x.value ts in
    let B : List Token → Type 0 = λ ts. SpellsExpr depth u.place.tokens y.value ts in
    spelled_as r z.next
    (an_if depth t u.value v.value p.tokens u.place.tokens v.place.tokens x.value y.value z.value z.place.tokens k
    (subst A then_first.tokens (inner p _ x.was)) (then_word _ then_first.fits) (subst B else_first.tokens (inner u.place _ y.was))
    (else_word _ else_first.fits) (inner v.place _ z.was))
form_is_spelled depth t p r inner Open k h =
    let x = went_on (expr_of depth p) (λ a p. and_then (taken Closing p) (λ t q. read a q)) r h in
    let u = went_on (taken Closing x.place) (λ t q. read x.value q) r x.next in
    let first = taken_is_first Closing x.place.last x.place.tokens u.value u.place u.was in
    let A : List Token → Type 0 = λ ts. SpellsExpr depth p.tokens x.value ts in
    spelled_as r u.next
    (a_bracket depth t u.value p.tokens x.value u.place.tokens k (subst A first.tokens (inner p _ x.was)) (closing_word _ first.fits))
form_is_spelled depth t p r inner _ k h = cc

-- what is read as an expression is spelled so
pub read_is_spelled : (depth : ℕ) (p : Place) (r : Read Tree) → expr_of depth p ≡ Ok r → IsSpelled depth p r
unfolding expr_of
read_is_spelled zero p r h =
    let x = went_on (taken Expression p) (λ t p. Err (At t.line Fault.TheVariants.Deep)) r h in cc
read_is_spelled (suc depth) p r h =
    let x = went_on (taken Expression p) (λ t p. form_of (expr_of depth) t (kind_of t.text) p) r h in
    let first = taken_is_first Expression p.last p.tokens x.value x.place x.was in
    let P : List Token → Type 0 = λ ts. SpellsExpr (suc depth) ts r.value r.place.tokens in
    subst P (sym first.tokens)
    (form_is_spelled depth x.value x.place r (λ q s was. read_is_spelled depth q s was) (kind_of x.value.text) refl x.next)
