-- What is spelled so is read, and what is read is spelled so.
use Rattle.std.proofs.Common.{◌≡◌, ℕ, suc, List, ◌∷◌, refl, ◌∙◌, ap, None}
use Rattle.profile_text.specs.declared.expected.Expected.{Expected}
use Rattle.profile_text.specs.declared.expected.Expected.TheVariants.{Expression, Closing, ThenWord, ElseWord}
use Rattle.profile_text.specs.declared.kind.Kind.{Kind}
use Rattle.profile_text.specs.declared.kind.Kind.TheVariants.{Open, Close, Then, Else, True, False, Not, Switch, If, Two, Number, Look, Name}
use Rattle.profile_text.specs.Grammar.{SpellsExpr, a_number, a_true, a_false, a_name, a_look, a_not, a_two, a_switch, an_if, a_bracket}
use Rattle.profile_text.specs.Kind.{kind_of}
use Rattle.profile_text.specs.Read.{read, and_then, allowed, fault_of, expression_fault, taken, form_of, expr_of}
use Rattle.profile_text.specs.Token.{Token, Place}
use Rattle.profile_text.specs.Tree.{Tree, Negation, Operation, Choice}

-- the place before these tokens
abbrev pub before : ℕ → List Token → Place
before last ts = record { last = last; tokens = ts }

-- a token that may stand here is taken
pub taken_first : (expected : Expected) (last : ℕ) (t : Token) (ts : List Token) (k : Kind) → kind_of t.text ≡ k
    → fault_of expected k ≡ None → taken expected (before last (t ∷ ts)) ≡ read t (before t.line ts)
unfolding taken
taken_first expected last t ts k is_k fits = ap (λ f. allowed f t (before t.line ts)) (ap (fault_of expected) is_k ∙ fits)

-- a token that begins an expression is followed by its form
pub expr_form : (depth last : ℕ) (t : Token) (ts : List Token) (k : Kind) → kind_of t.text ≡ k → expression_fault k ≡ None
    → expr_of (suc depth) (before last (t ∷ ts)) ≡ form_of (expr_of depth) t k (before t.line ts)
unfolding expr_of
expr_form depth last t ts k is_k fits =
    ap (λ r. and_then r (λ t p. form_of (expr_of depth) t (kind_of t.text) p)) (taken_first Expression last t ts k is_k fits)
    ∙ ap (λ k. form_of (expr_of depth) t k (before t.line ts)) is_k

-- the tokens are read as the tree, up to the rest
abbrev pub IsRead : ℕ → List Token → Tree → List Token → Type 0
IsRead depth ts e rest = (last : ℕ) → (l : ℕ) × (expr_of depth (before last ts) ≡ read e (before l rest))

-- what is spelled so is read
pub spelled_is_read : (depth : ℕ) (ts : List Token) (e : Tree) (rest : List Token) → SpellsExpr depth ts e rest → IsRead depth ts e rest
spelled_is_read _ _ _ _ (a_number depth t n rest k) last = (t.line, expr_form depth last t rest (Number n) k refl)
spelled_is_read _ _ _ _ (a_true depth t rest k) last = (t.line, expr_form depth last t rest True k refl)
spelled_is_read _ _ _ _ (a_false depth t rest k) last = (t.line, expr_form depth last t rest False k refl)
spelled_is_read _ _ _ _ (a_name depth t rest k) last = (t.line, expr_form depth last t rest Name k refl)
spelled_is_read _ _ _ _ (a_look depth t rest k) last = (t.line, expr_form depth last t rest Look k refl)
spelled_is_read _ _ _ _ (a_not depth t ts a rest k spells) last =
    let x = spelled_is_read depth ts a rest spells t.line in
    (x.0, expr_form depth last t ts Not k refl ∙ ap (λ r. and_then r (λ a p. read (Negation a) p)) x.1)
spelled_is_read _ _ _ _ (a_two depth t op ts us a b rest k first second) last =
    let x = spelled_is_read depth ts a us first t.line in
    let y = spelled_is_read depth us b rest second x.0 in (
      y.0,
      expr_form depth last t ts (Two op) k refl
          ∙ ap (λ r. and_then r (λ a p. and_then (expr_of depth p) (λ b q. read (Operation op a b) q))) x.1
          ∙ ap (λ r. and_then r (λ b q. read (Operation op a b) q)) y.1,
    )
spelled_is_read _ _ _ _ (a_switch depth t ts us vs a b c rest k first second third) last =
    let x = spelled_is_read depth ts a us first t.line in
    let y = spelled_is_read depth us b vs second x.0 in
    let z = spelled_is_read depth vs c rest third y.0 in (
      z.0,
      expr_form depth last t ts Switch k refl
          ∙ ap (λ r. and_then r (λ a p. and_then (expr_of depth p) (λ b q. and_then (expr_of depth q) (λ c r. read (Choice a b c) r)))) x.1
          ∙ ap (λ r. and_then r (λ b q. and_then (expr_of depth q) (λ c r. read (Choice a b c) r))) y.1
          ∙ ap (λ r. and_then r (λ c r. read (Choice a b c) r)) z.1,
    )
spelled_is_read _ _ _ _ (an_if depth t u v ts us vs a b c rest k first then_is second else_is third) last =
    let x = spelled_is_read depth ts a (u ∷ us) first t.line in
    let y = spelled_is_read depth us b (v ∷ vs) second u.line in
    let z = spelled_is_read depth vs c rest third v.line in (
      z.0,
      expr_form depth last t ts If k refl
          ∙ ap (λ r. and_then r
          (λ a p. and_then (taken ThenWord p)
          (λ t p2. and_then (expr_of depth p2)
          (λ b q. and_then (taken ElseWord q) (λ u q2. and_then (expr_of depth q2) (λ c r. read (Choice a b c) r)))))) x.1
          ∙ ap (λ r. and_then r
          (λ t p2. and_then (expr_of depth p2)
          (λ b q. and_then (taken ElseWord q) (λ u q2. and_then (expr_of depth q2) (λ c r. read (Choice a b c) r)))))
          (taken_first ThenWord x.0 u us Then then_is refl)
          ∙ ap (λ r. and_then r (λ b q. and_then (taken ElseWord q) (λ u q2. and_then (expr_of depth q2) (λ c r. read (Choice a b c) r))))
          y.1
          ∙ ap (λ r. and_then r (λ u q2. and_then (expr_of depth q2) (λ c r. read (Choice a b c) r)))
          (taken_first ElseWord y.0 v vs Else else_is refl)
          ∙ ap (λ r. and_then r (λ c r. read (Choice a b c) r)) z.1,
    )
spelled_is_read _ _ _ _ (a_bracket depth t u ts a rest k inner close_is) last =
    let x = spelled_is_read depth ts a (u ∷ rest) inner t.line in (
      u.line,
      expr_form depth last t ts Open k refl
          ∙ ap (λ r. and_then r (λ a p. and_then (taken Closing p) (λ t q. read a q))) x.1
          ∙ ap (λ r. and_then r (λ t q. read a q)) (taken_first Closing x.0 u rest Close close_is refl),
    )
