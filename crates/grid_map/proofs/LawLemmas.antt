-- The space of a grid keeps the laws of a space.
use Rattle.std.proofs.Common.{ℕ, ◌≡◌, ◌<◌, ◌≤◌, ◌+◌, List, [], ◌∷◌, Option, Some, false, nat_eq, nat_le, ◌&&◌, refl, ap, sym, ◌∙◌, subst, arith}
use Rattle.std.proofs.lemmas.Bool.{lt-ltb, ltb-true}
use Rattle.std.proofs.lemmas.Int.{ints}
use Rattle.space_search.specs.Laws.{IsSpace, IsMove}
use Rattle.space_search.specs.Limits.{HasFewPerCell}
use Rattle.std.proofs.lemmas.Bool.Decides.{nat_tests}
use Rattle.std.specs.Bool.{IsTrue}
use Rattle.std.specs.Option.{is_some}
use Rattle.grid_map.specs.declared.plan.Plan.{Plan}
use Rattle.grid_map.specs.Plan.{IsPlan, cells_of}
use Rattle.grid_map.specs.Costs.{Costs, AreCheap, listed_costs}
use Rattle.grid_map.specs.Space.{grid_rules, step_of}
use Rattle.grid_map.proofs.StepLemmas.{step_of-joins, Joins-within}
use Rattle.grid_map.proofs.CostLemmas.{Joins-cheap}

-- what covers lies in the same cell and costs no more
covers-from : (a b ca cb : ℕ) → IsTrue (nat_eq a b && nat_le ca cb) → (a ≡ b) × (ca ≤ cb)
covers-from a b ca cb h = (grind (arith, nat_tests), grind (arith, nat_tests))

-- the order of costs in one cell is covering
covers-to : (a b ca cb : ℕ) → a ≡ b → ca ≤ cb → IsTrue (nat_eq a b && nat_le ca cb)
covers-to a b ca cb e h = grind (arith, nat_tests)

module _ (plan : Plan) (forward backward : List (Option ℕ)) (from to : ℕ) (lawful : IsPlan plan)
    (forward_cheap : AreCheap forward) (backward_cheap : AreCheap backward) where
  -- a step of a grid leads to a state, at a cost below the bound
  step_of-is_move :
      (cell number next cost : ℕ) → step_of plan (listed_costs plan forward backward) cell number ≡ Some (next, cost) →
      IsMove (grid_rules plan (listed_costs plan forward backward) from to) next cost
  step_of-is_move cell number next cost is =
      let joins = step_of-joins plan (listed_costs plan forward backward) cell number next cost is in
      record {
        valid = lt-ltb _ _ (Joins-within plan (listed_costs plan forward backward) cell next cost lawful.some_width joins);
        cheap = Joins-cheap plan forward backward cell next cost forward_cheap backward_cheap joins;
      }

  -- the rules of a grid keep the laws
  pub grid_rules-keeps_laws :
      from < cells_of plan → IsSpace (grid_rules plan (listed_costs plan forward backward) from to)
  grid_rules-keeps_laws within =
      record {
        moves = record {
          starts = λ number state cost below is.
              let same : ◌≡◌ {A = ℕ × ℕ} (from, 0) (state, cost) = cc in
              let here : from ≡ state = ap (λ (p : ℕ × ℕ). p.0) same in
              let free : 0 ≡ cost = ap (λ (p : ℕ × ℕ). p.1) same in
              record { valid = lt-ltb _ _ (omega (arith, here)); cheap = omega (arith, free) };
          steps = λ cell number state cost valid below is.
              step_of-is_move cell number state cost is;
          cell = λ state valid. ltb-true _ _ valid;
          slot = λ state valid. ltb-true _ _ valid;
        };
        covering = record {
          one_slot = λ a b ca cb va vb h. (covers-from a b ca cb h).0;
          itself = λ a ca va. covers-to a a ca ca refl (omega arith);
          through = λ a b c ca cb cc_ va vb vc p q.
              let first = covers-from a b ca cb p in
              let second = covers-from b c cb cc_ q in
              covers-to a c ca cc_ (first.0 ∙ second.0) (omega (arith, first.1, second.1));
          cheaper = λ a b ca cb va vb h. (covers-from a b ca cb h).1;
          under = λ a b ca cb va vb h.
              record { x = omega (arith, ints); y = omega (arith, ints); z = omega (arith, ints) };
        };
        kept = λ a b ca cb va vb h number below first second more other p q.
            let both = covers-from a b ca cb h in
            let here : step_of plan (listed_costs plan forward backward) b number ≡ Some (first, more) =
            subst (λ c. step_of plan (listed_costs plan forward backward) c number ≡ Some (first, more)) both.0 p in
            let same : ◌≡◌ {A = ℕ × ℕ} (first, more) (second, other) = cc in
            covers-to first second (ca + more) (cb + other) (ap (λ (f : ℕ × ℕ). f.0) same)
            (omega (arith, both.1, ap (λ (f : ℕ × ℕ). f.1) same));
        alike = record {
          steps = λ a b ca cb va vb h. refl;
          permitted = λ a b ca cb va vb h number below.
              ap (λ c. is_some (step_of plan (listed_costs plan forward backward) c number)) (covers-from a b ca cb h).0;
          goal = λ a b ca cb va vb h. ap (λ c. nat_eq c to) (covers-from a b ca cb h).0;
        };
        bound = record {
          small = λ state low valid is. let same : 0 ≡ low = cc in omega (arith, same);
          goal = λ state valid goal. refl;
          hopeless = λ state end cost total numbers valid none walk goal. cc;
          step = λ cell number state cost before after valid below is first second. let same : 0 ≡ before = cc in omega (arith, same);
        };
      }

-- no cell of a grid keeps more than one label
pub grid_rules-few : (plan : Plan) (costs : Costs) (from to : ℕ) → HasFewPerCell (grid_rules plan costs from to) 1
grid_rules-few plan costs from to cell [] chain lie = omega arith
grid_rules-few plan costs from to cell (a ∷ []) chain lie = omega arith
grid_rules-few plan costs from to cell (a ∷ (b ∷ rest)) chain lie =
    let none = chain.2 0 b refl in
    let cheaper : a.cost ≤ b.cost =
    (let h = none.1 (a.cost + 0) (b.cost + 0) (record { low = 0; is = refl; sum = refl }) (record { low = 0; is = refl; sum = refl }) in
    omega (arith, h)) in
    let covers : IsTrue (nat_eq a.state b.state && nat_le a.cost b.cost) =
    covers-to a.state b.state a.cost b.cost (lie.0 ∙ sym lie.1.0) cheaper in
    let uncovers : (nat_eq a.state b.state && nat_le a.cost b.cost) ≡ false = none.0 in
    cc
