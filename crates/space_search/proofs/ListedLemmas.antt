-- The list of a state's permitted steps has each of them, and nothing else.
use native.Mathlib.Numerals.{unary_clauses}
use Rattle.std.proofs.Common.{◌≡◌, ℕ, zero, suc, ◌<◌, ◌+◌, ◌++◌, inl, inr, List, [], Option, Some, None, refl, arith, ap, sym, ◌∙◌, subst}
use Rattle.std.specs.List.{Contains}
use Rattle.std.proofs.lemmas.List.{append-nil}
use Rattle.std.proofs.lemmas.List.Elements.{Contains-append_left, Contains-append_right, Contains-append_cases}
use Rattle.item_list.proofs.ListLemmas.{Contains-none, Contains-first, Contains-cons_cases}
use Rattle.item_list.proofs.TestLemmas.{below-next}
use Rattle.space_search.specs.Listed.{listed, listed_below}
use Rattle.space_search.specs.declared.step.Step.{Step}

module _ {S : Type 0} (step : ℕ → Option (S × ℕ)) where
  -- no number is below 0
  pub listed-none : listed_below step 0 ≡ []
  unfolding listed_below
  listed-none = refl

  -- the next number adds its step, where that is permitted
  pub listed-next : (number : ℕ) → listed_below step (number + 1) ≡ listed_below step number ++ listed number (step number)
  unfolding listed_below
  listed-next number = simp unary_clauses refl

  -- a step that is permitted comes to the end
  pub listed-adds :
      (number : ℕ) (before after : List (Step S)) (found : S × ℕ) → before ≡ listed_below step number →
      Some found ≡ step number → after ≡ before ++ listed number (Some found) →
      after ≡ listed_below step (number + 1)
  listed-adds number before after found so_far is adds =
      adds ∙ ap (λ l. l ++ listed number (Some found)) so_far
      ∙ ap (λ f. listed_below step number ++ listed number f) is
      ∙ sym (listed-next number)

  -- one that isn't adds nothing
  pub listed-skips :
      (number : ℕ) (before : List (Step S)) → before ≡ listed_below step number →
      step number ≡ None → before ≡ listed_below step (number + 1)
  listed-skips number before so_far none =
      so_far ∙ sym (append-nil (listed_below step number))
      ∙ ap (λ f. listed_below step number ++ listed number f) (sym none)
      ∙ sym (listed-next number)

  -- what is listed of one number is its step
  pub of-listed :
      (number : ℕ) (found : Option (S × ℕ)) (one : Step S) → Contains (listed number found) one →
      (one.choice ≡ number) × (found ≡ Some (one.state, one.cost))
  of-listed number None one there = absurd (Contains-none one there)
  of-listed number (Some found) one there =
      elim (Contains-cons_cases _ [] one there) [
        | inl same ↦ (
          ap (λ (k : Step S). k.choice) (sym same),
          subst (λ (k : Step S). Some found ≡ Some (k.state, k.cost)) same refl,
        )
        | inr none ↦ absurd (Contains-none one none)
      ]

  -- what is listed is a permitted step below the number
  pub is-step :
      (upto : ℕ) (one : Step S) → Contains (listed_below step upto) one →
      (one.choice < upto) × (step one.choice ≡ Some (one.state, one.cost))
  unfolding listed_below
  is-step zero one there = absurd (Contains-none one there)
  is-step (suc number) one there =
      elim (Contains-append_cases (listed_below step number) (listed number (step number)) one there) [
        | inl earlier ↦ (omega (arith, (is-step number one earlier).0), (is-step number one earlier).1)
        | inr last ↦
            let is = of-listed number (step number) one last in
            (omega (arith, is.0), ap step is.0 ∙ is.1)
      ]

  -- each permitted step below the number is listed
  pub has-step :
      (upto number : ℕ) (state : S) (cost : ℕ) → number < upto → step number ≡ Some (state, cost) →
      Contains (listed_below step upto) (record { choice = number; state = state; cost = cost })
  unfolding listed_below
  has-step zero number state cost below is = absurd (omega (arith, below))
  has-step (suc last) number state cost below is =
      elim (below-next number last (omega (arith, below))) [
        | inl earlier ↦
            Contains-append_left (listed_below step last) (listed last (step last)) _
            (has-step last number state cost earlier is)
        | inr at ↦
            let one : Step S = record { choice = number; state = state; cost = cost } in
            Contains-append_right (listed_below step last) (listed last (step last)) one
            (subst (λ n. Contains (listed n (step n)) one) at
            (subst (λ f. Contains (listed number f) one) (sym is) (Contains-first one [])))
      ]
