-- The steps of a cell are the segments that join it to its neighbours.
use Rattle.std.proofs.Common.{ℕ, zero, suc, ◌≡◌, ◌+◌, ◌*◌, ◌-◌, ◌/◌, ◌%◌, ◌<◌, ◌≤◌, ◌⊎◌, Bool, true, false, nat_eq, nat_le, cond, Option, Some, None, refl, sym, ap, ◌∙◌, inl, inr, arith}
use Rattle.std.proofs.lemmas.Bool.{cases_lt, ltb-true, leb-true, le-leb, and_parts, cond-false}
use Rattle.std.proofs.lemmas.Bool.Decides.{nat_tests}
use Rattle.std.proofs.Math.Nat.{div-add-mod, mul-div-le, lt-mul-div-succ, lt_of_mul-lt-mul_left, mul-le-mul_left}
use Rattle.grid_map.specs.declared.plan.Plan.{Plan}
use Rattle.grid_map.specs.Plan.{cells_of, is_east, start_of, end_of, has_room, is_there}
use Rattle.grid_map.specs.Costs.{Costs}
use Rattle.grid_map.specs.Walks.{GoesForward, GoesBackward, Joins, forth, back}
use Rattle.grid_map.specs.Space.{reached, step_forward, step_backward, step_of}

-- a value that a test lets through
cond-some : {X : Type 0} (b : Bool) (found : Option X) (x : X) → cond b found None ≡ Some x → (b ≡ true) × (found ≡ Some x)
cond-some true found x is = (refl, is)
cond-some false found x is = cc

-- the cell that is reached where there is a cost
reached-some : (cell next cost : ℕ) (found : Option ℕ) → reached cell found ≡ Some (next, cost) → (cell ≡ next) × (found ≡ Some cost)
reached-some cell next cost None is = cc
reached-some cell next cost (Some more) is =
    let same : ◌≡◌ {A = ℕ × ℕ} (cell, more) (next, cost) = cc in
    (ap (λ (p : ℕ × ℕ). p.0) same, ap (λ (p : ℕ × ℕ). Some p.1) same)

-- a step along a segment goes along it
step_forward-goes : (plan : Plan) (costs : Costs) (k next cost : ℕ) → step_forward plan costs k ≡ Some (next, cost) →
    GoesForward plan costs (start_of k) next cost k
unfolding step_forward
step_forward-goes plan costs k next cost is =
    let open_ = cond-some (is_there plan k) _ _ is in
    let found = reached-some (end_of plan k) next cost (costs.forward k) open_.1 in
    record { there = open_.0; start = refl; end = found.0; permitted = found.1 }

-- a step back along a segment goes back along it
step_backward-goes : (plan : Plan) (costs : Costs) (k next cost : ℕ) → step_backward plan costs k ≡ Some (next, cost) →
    GoesBackward plan costs (end_of plan k) next cost k
unfolding step_backward
step_backward-goes plan costs k next cost is =
    let open_ = cond-some (is_there plan k) _ _ is in
    let found = reached-some (start_of k) next cost (costs.backward k) open_.1 in
    record { there = open_.0; start = found.0; end = refl; permitted = found.1 }

-- a segment along which one goes gives a step
goes-step_forward : (plan : Plan) (costs : Costs) (a b cost k : ℕ) → GoesForward plan costs a b cost k →
    step_forward plan costs k ≡ Some (b, cost)
unfolding step_forward
goes-step_forward plan costs a b cost k goes =
    ap (λ (b : Bool). cond b (reached (end_of plan k) (costs.forward k)) None) goes.there
    ∙ ap (reached (end_of plan k)) goes.permitted
    ∙ ap (λ (cell : ℕ). reached cell (Some cost)) goes.end

-- a segment along which one goes back gives a step back
goes-step_backward : (plan : Plan) (costs : Costs) (a b cost k : ℕ) → GoesBackward plan costs a b cost k →
    step_backward plan costs k ≡ Some (b, cost)
unfolding step_backward
goes-step_backward plan costs a b cost k goes =
    ap (λ (b : Bool). cond b (reached (start_of k) (costs.backward k)) None) goes.there
    ∙ ap (reached (start_of k)) goes.permitted
    ∙ ap (λ (cell : ℕ). reached cell (Some cost)) goes.start

-- the segment of even number goes from its cell
start_of-east : (cell : ℕ) → start_of (2 * cell) ≡ cell
start_of-east cell = omega arith

-- the segment of odd number goes from the same cell
start_of-north : (cell : ℕ) → start_of (2 * cell + 1) ≡ cell
start_of-north cell = omega arith

-- the one goes to the next cell
end_of-east : (plan : Plan) (cell : ℕ) → end_of plan (2 * cell) ≡ cell + 1
unfolding end_of
end_of-east plan cell = grind (arith, nat_tests)

-- the other goes to the cell a row further
end_of-north : (plan : Plan) (cell : ℕ) → end_of plan (2 * cell + 1) ≡ cell + plan.width
unfolding end_of
end_of-north plan cell = grind (arith, nat_tests)

-- a product by a number that is below another
mul-below : (w a h : ℕ) → a < h → w * a + w ≤ w * h
mul-below w a h below = grind (arith, mul-le-mul_left)

-- the next cell in the row of a cell lies in the grid
east_within : (w h n : ℕ) → n < w * h → n % w + 1 < w → n + 1 < w * h
east_within w h n inside room =
    let row : n / w < h = lt_of_mul-lt-mul_left w (omega (arith, mul-div-le n w)) in
    omega (arith, div-add-mod n w, mul-below w (n / w) h row)

-- the cell a row further lies in the grid where there is that row
north_within : (w h n : ℕ) → 0 < w → n / w + 1 < h → n + w < w * h
north_within w h n some room = omega (arith, lt-mul-div-succ n some, mul-below w (n / w + 1) h room)

-- both cells of a segment lie in the grid
pub record IsWithin (plan : Plan) (k : ℕ) : Type 0 where
  pub start : start_of k < cells_of plan
  pub end : end_of plan k < cells_of plan

-- what holds of either choice under its own test holds of the one that is taken
pub holds-either : (P : ℕ → Type 0) (b east north : Bool) (m n : ℕ) → (east ≡ true → P m) → (north ≡ true → P n) →
    cond b east north ≡ true → P (cond b m n)
holds-either P true east north m n first second passes = first passes
holds-either P false east north m n first second passes = second passes

-- the cell to which a segment goes lies in the grid, where there is room for it
end_of-within : (plan : Plan) (k : ℕ) → 0 < plan.width → start_of k < cells_of plan → has_room plan k ≡ true → end_of plan k < cells_of plan
unfolding has_room end_of
end_of-within plan k some inside room =
    holds-either (λ cell. cell < cells_of plan) (is_east k) _ _ _ _
    (λ passes. east_within plan.width plan.height (start_of k) inside (ltb-true _ _ passes))
    (λ passes. north_within plan.width plan.height (start_of k) some (ltb-true _ _ passes))
    room

-- the cells of a segment that is there, and the test of its room
pub is_there-parts : (plan : Plan) (k : ℕ) → is_there plan k ≡ true → (start_of k < cells_of plan) × (has_room plan k ≡ true)
unfolding is_there
is_there-parts plan k there =
    let parts = and_parts _ _ (and_parts _ _ there).0 in
    (ltb-true _ _ parts.0, parts.1)

-- both cells of a segment that is there lie in the grid
pub is_there-within : (plan : Plan) (k : ℕ) → 1 ≤ plan.width → is_there plan k ≡ true → IsWithin plan k
is_there-within plan k some there =
    let parts = is_there-parts plan k there in
    record { start = parts.0; end = end_of-within plan k some parts.0 parts.1 }

-- a joined cell lies in the grid
pub Joins-within : (plan : Plan) (costs : Costs) (a b cost : ℕ) → 1 ≤ plan.width → Joins plan costs a b cost → b < cells_of plan
Joins-within plan costs a b cost some (forth k goes) =
    let within = is_there-within plan k some goes.there in
    let end = goes.end in
    omega (arith, within.end, goes.end)
Joins-within plan costs a b cost some (back k goes) =
    let within = is_there-within plan k some goes.there in
    omega (arith, within.start, goes.start)

-- a step along a segment of a cell joins the cell to where it leads
step_forward-joins : (plan : Plan) (costs : Costs) (k cell next cost : ℕ) → start_of k ≡ cell →
    step_forward plan costs k ≡ Some (next, cost) → Joins plan costs cell next cost
step_forward-joins plan costs k cell next cost from is =
    let goes = step_forward-goes plan costs k next cost is in
    forth k (record { there = goes.there; start = from; end = goes.end; permitted = goes.permitted })

-- a step back along a segment to a cell joins the cell to where it leads
step_backward-joins : (plan : Plan) (costs : Costs) (k cell next cost : ℕ) → end_of plan k ≡ cell →
    step_backward plan costs k ≡ Some (next, cost) → Joins plan costs cell next cost
step_backward-joins plan costs k cell next cost from is =
    let goes = step_backward-goes plan costs k next cost is in
    back k (record { there = goes.there; start = goes.start; end = from; permitted = goes.permitted })

-- two different numbers don't pass the test of equality
nat_eq-no : (m n : ℕ) → n < m → nat_eq m n ≡ false
nat_eq-no m n above = grind (arith, nat_tests)

-- the last step of a cell goes south
pub step_of-south : (plan : Plan) (costs : Costs) (cell number : ℕ) → 2 < number →
    step_of plan costs cell number ≡ cond (nat_le plan.width cell) (step_backward plan costs (2 * (cell - plan.width) + 1)) None
unfolding step_of
step_of-south plan costs cell number last =
    cond-false _ _ _ (nat_eq-no number 0 (omega arith))
    ∙ cond-false _ _ _ (nat_eq-no number 1 (omega arith))
    ∙ cond-false _ _ _ (nat_eq-no number 2 last)

-- each step of a cell goes along a segment that joins it to where the step leads
pub step_of-joins : (plan : Plan) (costs : Costs) (cell number next cost : ℕ) →
    step_of plan costs cell number ≡ Some (next, cost) → Joins plan costs cell next cost
unfolding step_of
step_of-joins plan costs cell zero next cost is =
    step_forward-joins plan costs (2 * cell) cell next cost (start_of-east cell) is
step_of-joins plan costs cell (suc zero) next cost is =
    step_forward-joins plan costs (2 * cell + 1) cell next cost (start_of-north cell) is
step_of-joins plan costs cell (suc (suc zero)) next cost is =
    let west = cond-some (nat_le 1 cell) _ _ is in
    let some : 1 ≤ cell = leb-true 1 cell west.0 in
    let behind : cell - 1 + 1 ≡ cell = omega arith in
    step_backward-joins plan costs (2 * (cell - 1)) cell next cost (end_of-east plan (cell - 1) ∙ behind) west.1
step_of-joins plan costs cell (suc (suc (suc number))) next cost is =
    let south = cond-some (nat_le plan.width cell) _ _ (sym (step_of-south plan costs cell (suc (suc (suc number))) (omega arith)) ∙ is) in
    let some : plan.width ≤ cell = leb-true plan.width cell south.0 in
    let behind : cell - plan.width + plan.width ≡ cell = omega arith in
    step_backward-joins plan costs (2 * (cell - plan.width) + 1) cell next cost (end_of-north plan (cell - plan.width) ∙ behind) south.1

-- what is known of a step that leads to a cell
pub record StepsTo (plan : Plan) (costs : Costs) (a b cost : ℕ) : Type 0 where
  pub number : ℕ
  pub within : number < 4
  pub leads : step_of plan costs a number ≡ Some (b, cost)

-- a number is twice its half, or one more
halves : (k : ℕ) → (k ≡ 2 * start_of k) ⊎ (k ≡ 2 * start_of k + 1)
halves k = elim (cases_lt (2 * start_of k) k) [ inl odd ↦ inr (omega arith) | inr even ↦ inl (omega arith) ]

-- a choice by a test of order that holds
cond-le : {X : Type 0} (m n : ℕ) (x y : X) → m ≤ n → cond (nat_le m n) x y ≡ x
cond-le m n x y le = ap (λ (b : Bool). cond b x y) (le-leb m n le)

-- a segment of even number is a step east of its first cell
east-steps :
    (plan : Plan) (costs : Costs) (a b cost k : ℕ) → k ≡ 2 * start_of k → GoesForward plan costs a b cost k → StepsTo plan costs a b cost
unfolding step_of
east-steps plan costs a b cost k even goes =
    let number : 2 * a ≡ k = omega (arith, goes.start) in
    record {
      number = 0;
      within = omega arith;
      leads = ap (step_forward plan costs) number ∙ goes-step_forward plan costs a b cost k goes;
    }

-- a segment of odd number is a step north of its first cell
north-steps :
    (plan : Plan) (costs : Costs) (a b cost k : ℕ) → k ≡ 2 * start_of k + 1 → GoesForward plan costs a b cost k →
    StepsTo plan costs a b cost
unfolding step_of
north-steps plan costs a b cost k odd goes =
    let number : 2 * a + 1 ≡ k = omega (arith, goes.start) in
    record {
      number = 1;
      within = omega arith;
      leads = ap (step_forward plan costs) number ∙ goes-step_forward plan costs a b cost k goes;
    }

-- a segment of even number is a step west of its second cell
west-steps :
    (plan : Plan) (costs : Costs) (a b cost k : ℕ) → k ≡ 2 * start_of k → GoesBackward plan costs a b cost k → StepsTo plan costs a b cost
unfolding step_of
west-steps plan costs a b cost k even goes =
    let beside : a ≡ start_of k + 1 = sym goes.end ∙ ap (end_of plan) even ∙ end_of-east plan (start_of k) in
    let number : 2 * (a - 1) ≡ k = omega arith in
    record {
      number = 2;
      within = omega arith;
      leads =
          cond-le 1 a _ _ (omega arith)
          ∙ ap (step_backward plan costs) number ∙ goes-step_backward plan costs a b cost k goes;
    }

-- a segment of odd number is a step south of its second cell
south-steps :
    (plan : Plan) (costs : Costs) (a b cost k : ℕ) → k ≡ 2 * start_of k + 1 → GoesBackward plan costs a b cost k →
    StepsTo plan costs a b cost
south-steps plan costs a b cost k odd goes =
    let above : a ≡ start_of k + plan.width = sym goes.end ∙ ap (end_of plan) odd ∙ end_of-north plan (start_of k) in
    let number : 2 * (a - plan.width) + 1 ≡ k = omega arith in
    record {
      number = 3;
      within = omega arith;
      leads =
          step_of-south plan costs a 3 (omega arith) ∙ cond-le plan.width a _ _ (omega arith)
          ∙ ap (step_backward plan costs) number ∙ goes-step_backward plan costs a b cost k goes;
    }

-- each joined cell is reached by a step
pub Joins-steps : (plan : Plan) (costs : Costs) (a b cost : ℕ) → Joins plan costs a b cost → StepsTo plan costs a b cost
Joins-steps plan costs a b cost (forth k goes) =
    elim (halves k) [
      | inl even ↦ east-steps plan costs a b cost k even goes
      | inr odd ↦ north-steps plan costs a b cost k odd goes
    ]
Joins-steps plan costs a b cost (back k goes) =
    elim (halves k) [
      | inl even ↦ west-steps plan costs a b cost k even goes
      | inr odd ↦ south-steps plan costs a b cost k odd goes
    ]
