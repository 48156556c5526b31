-- The costs that are found as labels are settled, one after the other.
use Rattle.std.proofs.Common.{◌≡◌, ◌≢◌, ℕ, ◌⊎◌, inl, inr, Bool, true, false, not, ◌&&◌, nat_eq, List, Option, Some, None, refl, sym, ap, ◌∙◌, subst, arith}
use Rattle.std.specs.Cmp.{nat_eq_equiv}
use Rattle.std.specs.List.{Contains, list_any}
use Rattle.std.proofs.lemmas.Bool.{cases_eq}
use Rattle.std.proofs.lemmas.Bool.Decides.{nat_tests}
use Rattle.std.proofs.lemmas.Map.Views.{Contains-from_any, list_any-from_Contains}
use Rattle.cost_table.specs.Costs.{IsCostOf, IsLeastCost, Quest, leg_to}
use Rattle.cost_table.specs.Found.{AreAwaited, PutsDown, cost_at}
use Rattle.cost_table.specs.Waiting.{WaitsNoLonger}
use Rattle.cost_table.specs.declared.found.Found.{Found}

-- ---- Costs that are put down

module _ (node cost : ℕ) (before after : ℕ → Option ℕ) (puts : PutsDown node cost before after) where
  -- a cost that is there stays
  pub puts-keeps : (other old : ℕ) → before other ≡ Some old → after other ≡ Some old
  puts-keeps other old was =
      elim (cases_eq other node) [
        | inl same ↦
            subst (λ (n : ℕ). after n ≡ Some old) (sym same)
            (puts.there old (subst (λ (n : ℕ). before n ≡ Some old) same was))
        | inr differ ↦ puts.others other differ ∙ was
      ]

  -- the node has a cost
  pub puts-some : (kept : ℕ) × (after node ≡ Some kept)
  puts-some =
      elim (before node) as (λ r. before node ≡ r → (kept : ℕ) × (after node ≡ Some kept)) [
        | None ↦ λ none. (cost, puts.new none)
        | Some old ↦ λ was. (old, puts.there old was)
      ] refl

  -- a cost that is there now was there, or is the one that was put down
  pub puts-either :
      (other now : ℕ) → after other ≡ Some now →
      (before other ≡ Some now) ⊎ ((other ≡ node) × (before node ≡ None) × (now ≡ cost))
  puts-either other now is =
      elim (cases_eq other node) [
        | inl same ↦
            let here : after node ≡ Some now = subst (λ (n : ℕ). after n ≡ Some now) same is in
            elim (before node) as
            (λ r. before node ≡ r → (before other ≡ Some now) ⊎ ((other ≡ node) × (before node ≡ None) × (now ≡ cost))) [
              | None ↦ λ none.
                  let new = puts.new none in
                  let one : now ≡ cost = cc in
                  inr (same, none, one)
              | Some old ↦ λ was.
                  let there = puts.there old was in
                  let one : old ≡ now = cc in
                  inl (subst (λ (n : ℕ). before n ≡ Some now) (sym same) (was ∙ ap Some one))
            ] refl
        | inr differ ↦ inl (sym (puts.others other differ) ∙ is)
      ]

  -- where each cost was a least one each is
  pub puts-sound :
      (quest : Quest) → ((other old : ℕ) → before other ≡ Some old → IsLeastCost (leg_to quest other) old) →
      (before node ≡ None → IsLeastCost (leg_to quest node) cost) →
      (other now : ℕ) → after other ≡ Some now → IsLeastCost (leg_to quest other) now
  puts-sound quest sound least other now is =
      elim (puts-either other now is) [
        | inl was ↦ sound other now was
        | inr (same, none, one) ↦
            subst (λ (n : ℕ). IsLeastCost (leg_to quest n) now) (sym same)
            (subst (λ (c : ℕ). IsLeastCost (leg_to quest node) c) (sym one) (least none))
      ]

-- ---- Nodes that are named

-- a node that is told of by what waits and what is found
pub named-costs :
    (quest : Quest) (nodes : List ℕ) (found : Found) →
    ((node cost : ℕ) → cost_at found node ≡ Some cost → IsLeastCost (leg_to quest node) cost) →
    ((node : ℕ) → Contains nodes node → cost_at found node ≡ None → IsCostOf (leg_to quest node) None) →
    (node : ℕ) → Contains nodes node → IsCostOf (leg_to quest node) (cost_at found node)
named-costs quest nodes found sound nowhere node there =
    elim (cost_at found node) as (λ r. cost_at found node ≡ r → IsCostOf (leg_to quest node) r) [
      | None ↦ λ none. nowhere node there none
      | Some cost ↦ λ is. sound node cost is
    ] refl

-- the test of a place among numbers
pub same-number : (a b : ℕ) → nat_eq a b ≡ true → a ≡ b
same-number a b h = grind (arith, nat_tests)

module _ (nodes : List ℕ) (source : ℕ) (waiting : ℕ → Bool) (await : AreAwaited nodes source waiting) where
  -- what waits is named
  pub awaited-named : (node : ℕ) → waiting node ≡ true → Contains nodes node
  awaited-named node is =
      let both : (list_any (nat_eq node) nodes && not (nat_eq node source)) ≡ true = sym (await node) ∙ is in
      Contains-from_any same-number node nodes (first-of _ _ both)
    where
      first-of : (a b : Bool) → (a && b) ≡ true → a ≡ true
      first-of true b h = refl
      first-of false b h = absurd (cc)

  -- what is named waits, but for the one that is left
  pub named-awaits : (node : ℕ) → Contains nodes node → node ≢ source → waiting node ≡ true
  named-awaits node there differ =
      let any = list_any-from_Contains nat_eq_equiv node nodes there in
      let other : nat_eq node source ≡ false = grind (arith, nat_tests) in
      await node ∙ rw (any, other) refl

  -- the one that is left doesn't
  pub source-away : waiting source ≡ false
  source-away =
      let same : nat_eq source source ≡ true = grind (arith, nat_tests) in
      await source ∙ (rw same (and-false (list_any (nat_eq source) nodes)))
    where
      and-false : (a : Bool) → (a && false) ≡ false
      and-false true = refl
      and-false false = refl

-- what waits after one waits no longer
module _ (node : ℕ) (before after : ℕ → Bool) (no_longer : WaitsNoLonger node before after) where
  -- what waits now waited, and isn't that one
  pub waits-still : (other : ℕ) → after other ≡ true → (other ≢ node) × (before other ≡ true)
  waits-still other is =
      elim (cases_eq other node) [
        | inl same ↦
            let here = no_longer.here in
            let there : after node ≡ true = subst (λ (n : ℕ). after n ≡ true) same is in
            let never : ⊥ = cc in
            absurd never
        | inr differ ↦ (differ, sym (no_longer.others other differ) ∙ is)
      ]

  -- what didn't wait doesn't wait now
  pub waits-not : (other : ℕ) → before other ≡ false → after other ≡ false
  waits-not other was =
      elim (cases_eq other node) [
        | inl same ↦ subst (λ (n : ℕ). after n ≡ false) (sym same) no_longer.here
        | inr differ ↦ no_longer.others other differ ∙ was
      ]
