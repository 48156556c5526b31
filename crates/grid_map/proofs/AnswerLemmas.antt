-- What the space of a grid answers to a step, case by case.
use Rattle.std.proofs.Common.{ℕ, ◌≡◌, ◌+◌, ◌*◌, ◌-◌, ◌<◌, ◌≤◌, Bool, true, false, cond, nat_le, Option, Some, None, refl, sym, ap, ◌∙◌, arith}
use Rattle.std.proofs.lemmas.Bool.Decides.{nat_tests}
use Rattle.grid_map.specs.declared.plan.Plan.{Plan}
use Rattle.grid_map.specs.Plan.{start_of, end_of, is_there}
use Rattle.grid_map.specs.Costs.{Costs}
use Rattle.grid_map.specs.Space.{reached, step_forward, step_backward, step_of}
use Rattle.grid_map.proofs.StepLemmas.{step_of-south}

-- a choice whose value is none either way
cond-none : (b : Bool) (found : Option (ℕ × ℕ)) → found ≡ None → None ≡ cond b found None
cond-none true found none = sym none
cond-none false found none = refl

-- a choice by a test of order that fails
cond-not_le : {X : Type 0} (m n : ℕ) (x y : X) → n < m → y ≡ cond (nat_le m n) x y
cond-not_le m n x y less = grind (arith, nat_tests)

-- a choice by a test of order that holds
cond-is_le : {X : Type 0} (m n : ℕ) (x y : X) → m ≤ n → x ≡ cond (nat_le m n) x y
cond-is_le m n x y le = grind (arith, nat_tests)

module _ (plan : Plan) (costs : Costs) where
  -- where a segment has no cost no step goes along it
  pub step_forward-none : (k : ℕ) → costs.forward k ≡ None → None ≡ step_forward plan costs k
  unfolding step_forward
  step_forward-none k none = cond-none (is_there plan k) _ (ap (reached (end_of plan k)) none)

  -- where a segment that is there has a cost a step goes along it
  pub step_forward-some : (k end cost : ℕ) → end ≡ end_of plan k → costs.forward k ≡ Some cost → is_there plan k ≡ true →
      Some (end, cost) ≡ step_forward plan costs k
  unfolding step_forward
  step_forward-some k end cost end_is some there =
      ap (λ (cell : ℕ). reached cell (Some cost)) end_is
      ∙ ap (reached (end_of plan k)) (sym some)
      ∙ ap (λ (b : Bool). cond b (reached (end_of plan k) (costs.forward k)) None) (sym there)

  -- where a segment has no cost back no step goes back along it
  pub step_backward-none : (k : ℕ) → costs.backward k ≡ None → None ≡ step_backward plan costs k
  unfolding step_backward
  step_backward-none k none = cond-none (is_there plan k) _ (ap (reached (start_of k)) none)

  -- where a segment that is there has a cost back a step goes back along it
  pub step_backward-some : (k cost : ℕ) → costs.backward k ≡ Some cost → is_there plan k ≡ true →
      Some (start_of k, cost) ≡ step_backward plan costs k
  unfolding step_backward
  step_backward-some k cost some there =
      ap (reached (start_of k)) (sym some)
      ∙ ap (λ (b : Bool). cond b (reached (start_of k) (costs.backward k)) None) (sym there)

  -- step 0 goes east
  pub step_of-is_east : (cell number : ℕ) → number ≡ 0 → step_forward plan costs (2 * cell) ≡ step_of plan costs cell number
  unfolding step_of
  step_of-is_east cell number is = ap (step_of plan costs cell) (sym is)

  -- step 1 goes north
  pub step_of-is_north : (cell number : ℕ) → number ≡ 1 → step_forward plan costs (2 * cell + 1) ≡ step_of plan costs cell number
  unfolding step_of
  step_of-is_north cell number is = ap (step_of plan costs cell) (sym is)

  -- step 2 leads nowhere from the first cell
  pub step_of-no_west : (cell number : ℕ) → number ≡ 2 → cell < 1 → None ≡ step_of plan costs cell number
  unfolding step_of
  step_of-no_west cell number is first = cond-not_le 1 cell _ None first ∙ ap (step_of plan costs cell) (sym is)

  -- step 2 goes west from any other
  pub step_of-is_west : (cell number : ℕ) → number ≡ 2 → 1 ≤ cell →
      step_backward plan costs (2 * (cell - 1)) ≡ step_of plan costs cell number
  unfolding step_of
  step_of-is_west cell number is later = cond-is_le 1 cell _ None later ∙ ap (step_of plan costs cell) (sym is)

  -- the last step leads nowhere from the first row
  pub step_of-no_south : (cell number : ℕ) → 2 < number → cell < plan.width → None ≡ step_of plan costs cell number
  step_of-no_south cell number last first =
      cond-not_le plan.width cell _ None first ∙ sym (step_of-south plan costs cell number last)

  -- the last step goes south from any other
  pub step_of-is_south : (cell number : ℕ) → 2 < number → plan.width ≤ cell →
      step_backward plan costs (2 * (cell - plan.width) + 1) ≡ step_of plan costs cell number
  step_of-is_south cell number last later =
      cond-is_le plan.width cell _ None later ∙ sym (step_of-south plan costs cell number last)
