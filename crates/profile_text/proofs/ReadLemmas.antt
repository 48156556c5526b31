-- Reading an expression, one step at a time.
use Rattle.std.proofs.Common.{◌≡◌, ◌⊎◌, inl, inr, ℕ, zero, suc, ◌-◌, refl, sym, ◌∙◌, ap, arith, Result, Ok, Err}
use Rattle.item_list.specs.Answer.{Answers}
use Rattle.profile_text.specs.declared.error.TextError.{TextError}
use Rattle.profile_text.specs.declared.error.TextError.TheVariants.{NoMemory}
use Rattle.profile_text.specs.declared.expected.Expected.{Expected}
use Rattle.profile_text.specs.declared.expected.Expected.TheVariants.{Expression, ThenWord, ElseWord}
use Rattle.profile_text.specs.declared.expr.Expr.{Expr}
use Rattle.profile_text.specs.declared.expr.Op.{Op}
use Rattle.profile_text.specs.Expr.{tree_of}
use Rattle.profile_text.specs.Kind.{kind_of}
use Rattle.profile_text.specs.Read.{Read, read, and_then, taken, form_of, two_of, switch_of, if_of, expr_of}
use Rattle.profile_text.specs.Source.{Reads}
use Rattle.profile_text.specs.Token.{Token, Place}
use Rattle.profile_text.specs.Tree.{Tree, Operation, Choice}

-- where one more expression may be open, a token's form decides, and its operands have one less
pub expr_more : (room : ℕ) (p q : Place) (t : Token) → (room ≡ 0 → ⊥) → taken Expression p ≡ read t q
    → expr_of room p ≡ form_of (expr_of (room - 1)) t (kind_of t.text) q
unfolding expr_of
expr_more zero p q t some first = absurd (some refl)
expr_more (suc room) p q t some first =
    let less : suc room - 1 ≡ room = omega arith in
    ap (λ r. and_then r (λ t p. form_of (expr_of room) t (kind_of t.text) p)) first
    ∙ ap (λ n. form_of (expr_of n) t (kind_of t.text) q) (sym less)

-- ---- From one step to the next

-- where the first step is refused, or memory runs out, so is the whole
pub stopped : {A B : Type 0} (first : Result (Read A) TextError) (go : A → Place → Result (Read B) TextError) (e : TextError)
    → (e ≡ NoMemory) ⊎ (first ≡ Err e) → (e ≡ NoMemory) ⊎ (and_then first go ≡ Err e)
stopped first go e (inl memory) = inl memory
stopped first go e (inr refused) = inr (ap (λ r. and_then r go) refused)

-- what comes to something else is refused where that is
pub refused_as : {A : Type 0} (whole rest : Result A TextError) (e : TextError) → whole ≡ rest → (e ≡ NoMemory) ⊎ (rest ≡ Err e)
    → (e ≡ NoMemory) ⊎ (whole ≡ Err e)
refused_as whole rest e is (inl memory) = inl memory
refused_as whole rest e is (inr refused) = inr (is ∙ refused)

-- the expression that a call makes of what was read is what is read
pub made : (tree : Tree) (place : Place) (reading : Result (Read Tree) TextError) (result : Result Expr TextError)
    → reading ≡ read tree place → Answers tree_of (Ok tree) NoMemory result → Reads tree_of reading place result
made tree place reading (Ok e) is same = let seen : tree ≡ tree_of e = cc in is ∙ ap (λ t. read t place) seen
made tree place reading (Err e) is (inl memory) = inl memory
made tree place reading (Err e) is (inr refused) = inl cc

-- two steps after one another, and then a third
steps : {A B C : Type 0} (first : Result (Read A) TextError) (go : A → Place → Result (Read B) TextError)
    (on : B → Place → Result (Read C) TextError)
    → and_then first (λ a p. and_then (go a p) on) ≡ and_then (and_then first go) on
steps (Ok r) go on = refl
steps (Err e) go on = refl

-- ---- Forms of several operands

module _ (operand : Place → Result (Read Tree) TextError) where
  -- an operand after a word
  abbrev pub after : Expected → Place → Result (Read Tree) TextError
  after word place = and_then (taken word place) (λ t place. operand place)

  -- what is left of two operands after the first
  pub two_second : (a : Tree) (p q : Place) (op : Op) → operand p ≡ read a q
      → two_of operand op p ≡ and_then (operand q) (λ b r. read (Operation op a b) r)
  two_second a p q op first = ap (λ x. and_then x (λ a q. and_then (operand q) (λ b r. read (Operation op a b) r))) first

  -- both operands
  pub two_whole : (a b : Tree) (p q r : Place) (op : Op) → operand p ≡ read a q → operand q ≡ read b r
      → two_of operand op p ≡ read (Operation op a b) r
  two_whole a b p q r op first second = two_second a p q op first ∙ ap (λ x. and_then x (λ b r. read (Operation op a b) r)) second

  -- what is left of a `switch` after its first operand
  pub switch_second : (a : Tree) (p q : Place) → operand p ≡ read a q
      → switch_of operand p ≡ and_then (operand q) (λ b r. and_then (operand r) (λ c s. read (Choice a b c) s))
  switch_second a p q first =
      ap (λ x. and_then x (λ a q. and_then (operand q) (λ b r. and_then (operand r) (λ c s. read (Choice a b c) s)))) first

  -- after its second
  pub switch_third : (a b : Tree) (p q r : Place) → operand p ≡ read a q → operand q ≡ read b r
      → switch_of operand p ≡ and_then (operand r) (λ c s. read (Choice a b c) s)
  switch_third a b p q r first second =
      switch_second a p q first ∙ ap (λ x. and_then x (λ b r. and_then (operand r) (λ c s. read (Choice a b c) s))) second

  -- all three
  pub switch_whole : (a b c : Tree) (p q r s : Place)
      → operand p ≡ read a q → operand q ≡ read b r → operand r ≡ read c s → switch_of operand p ≡ read (Choice a b c) s
  switch_whole a b c p q r s first second third =
      switch_third a b p q r first second ∙ ap (λ x. and_then x (λ c s. read (Choice a b c) s)) third

  -- what is left of an `if` after its test
  pub if_second : (a : Tree) (p q : Place) → operand p ≡ read a q
      → if_of operand p
      ≡ and_then (after ThenWord q)
      (λ b r. and_then (taken ElseWord r) (λ u r2. and_then (operand r2) (λ c s. read (Choice a b c) s)))
  if_second a p q first =
      ap (λ x. and_then x (λ a q. and_then (taken ThenWord q) (λ t q2. and_then (operand q2)
      (λ b r. and_then (taken ElseWord r) (λ u r2. and_then (operand r2) (λ c s. read (Choice a b c) s)))))) first
      ∙ steps (taken ThenWord q) (λ t q2. operand q2)
      (λ b r. and_then (taken ElseWord r) (λ u r2. and_then (operand r2) (λ c s. read (Choice a b c) s)))

  -- after the operand that is chosen where the test holds
  pub if_third : (a b : Tree) (p q r : Place) → operand p ≡ read a q → after ThenWord q ≡ read b r
      → if_of operand p ≡ and_then (after ElseWord r) (λ c s. read (Choice a b c) s)
  if_third a b p q r first second =
      if_second a p q first
      ∙ ap (λ x. and_then x (λ b r. and_then (taken ElseWord r)
      (λ u r2. and_then (operand r2) (λ c s. read (Choice a b c) s)))) second
      ∙ steps (taken ElseWord r) (λ u r2. operand r2) (λ c s. read (Choice a b c) s)

  -- all of it
  pub if_whole : (a b c : Tree) (p q r s : Place)
      → operand p ≡ read a q → after ThenWord q ≡ read b r → after ElseWord r ≡ read c s
      → if_of operand p ≡ read (Choice a b c) s
  if_whole a b c p q r s first second third =
      if_third a b p q r first second ∙ ap (λ x. and_then x (λ c s. read (Choice a b c) s)) third
