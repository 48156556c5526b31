-- The tolls keep the laws of a search space.
use Rattle.std.proofs.Common.{◌≡◌, ℕ, zero, suc, ◌<◌, ◌≤◌, ◌+◌, Bool, true, false, Some, None, refl, ap, arith, sym, ◌∙◌, subst}
use Rattle.std.proofs.lemmas.Bool.Decides.{nat_tests}
use Rattle.std.specs.Bool.{IsTrue}
use Rattle.std.specs.Option.{is_some}
use Rattle.space_search.specs.Laws.{IsMove, IsSpace}
use Rattle.space_search.specs.Rules.{LOW_BOUND}
use Rattle.cases.specs.Due.{due_covers}
use Rattle.cases.specs.DueLaws.{same-place, no-more_due, no-more, point-under, covers-these}
use Rattle.cases.specs.Toll.{toll_rules, toll_step, toll_low}

-- a step leads to a state of the space
move :
    (bounded : Bool) (place due number : ℕ) (state : ℕ × ℕ) (cost : ℕ) → due < 10 →
    toll_step (place, due) number ≡ Some (state, cost) →
    IsMove (toll_rules bounded) state cost
move bounded zero due zero state cost small is =
    record { valid = grind (arith, nat_tests); cheap = grind (arith, nat_tests) }
move bounded zero due (suc zero) state cost small is =
    record { valid = grind (arith, nat_tests); cheap = grind (arith, nat_tests) }
move bounded zero due (suc (suc n)) state cost small is =
    record { valid = grind (arith, nat_tests); cheap = grind (arith, nat_tests) }
move bounded (suc zero) due n state cost small is =
    record { valid = grind (arith, nat_tests); cheap = grind (arith, nat_tests) }
move bounded (suc (suc m)) due n state cost small is =
    record { valid = grind (arith, nat_tests); cheap = grind (arith, nat_tests) }

-- what is due at a state of the space is small
due-small : (bounded : Bool) (state : ℕ × ℕ) → IsTrue ((toll_rules bounded).is_valid state) → state.1 < 10
due-small bounded (p, d) valid = grind (arith, nat_tests)

-- two states of one place go to the same state by the same step, the one with no more due at no greater cost
along :
    (place due due' number : ℕ) (first second : ℕ × ℕ) (more other : ℕ) → due ≤ due' →
    toll_step (place, due) number ≡ Some (first, more) →
    toll_step (place, due') number ≡ Some (second, other) →
    (first ≡ second) × (more ≤ other)
along zero due due' zero first second more other less is is' =
    (grind (arith, nat_tests), grind (arith, nat_tests))
along zero due due' (suc zero) first second more other less is is' =
    (grind (arith, nat_tests), grind (arith, nat_tests))
along zero due due' (suc (suc n)) first second more other less is is' =
    (grind (arith, nat_tests), grind (arith, nat_tests))
along (suc zero) due due' n first second more other less is is' =
    (grind (arith, nat_tests), grind (arith, nat_tests))
along (suc (suc m)) due due' n first second more other less is is' =
    (grind (arith, nat_tests), grind (arith, nat_tests))

-- a step that is permitted at a place is permitted whatever is due
permitted :
    (place due due' number : ℕ) →
    is_some (toll_step (place, due) number) ≡ is_some (toll_step (place, due') number)
permitted zero due due' zero = refl
permitted zero due due' (suc zero) = refl
permitted zero due due' (suc (suc n)) = grind (arith, nat_tests)
permitted (suc zero) due due' n = refl
permitted (suc (suc m)) due due' n = grind (arith, nat_tests)

-- the bound is small
low-small :
    (bounded : Bool) (state : ℕ × ℕ) (low : ℕ) → state.1 < 10 → toll_low bounded state ≡ Some low →
    low < LOW_BOUND
low-small true (p, d) low small is = grind (arith, nat_tests)
low-small false (p, d) low small is = grind (arith, nat_tests)

-- it is 0 at the goal
low-goal :
    (bounded : Bool) (state : ℕ × ℕ) → IsTrue ((toll_rules bounded).is_goal state) →
    toll_low bounded state ≡ Some 0
low-goal true (p, d) goal = grind (arith, nat_tests)
low-goal false (p, d) goal = refl

-- each place has one
low-some : (bounded : Bool) (state : ℕ × ℕ) → toll_low bounded state ≡ None → ⊥
low-some true (p, d) none = grind (arith, nat_tests)
low-some false (p, d) none = cc

-- and a step lets it fall by no more than it costs
low-step :
    (bounded : Bool) (place due number : ℕ) (state : ℕ × ℕ) (cost before after : ℕ) →
    toll_step (place, due) number ≡ Some (state, cost) →
    toll_low bounded (place, due) ≡ Some before → toll_low bounded state ≡ Some after → before ≤ cost + after
low-step true zero due number state cost before after is low low' = grind (arith, nat_tests)
low-step true (suc zero) due number state cost before after is low low' = grind (arith, nat_tests)
low-step true (suc (suc m)) due number state cost before after is low low' = grind (arith, nat_tests)
low-step false place due number state cost before after is low low' = grind (arith, nat_tests)

-- the tolls keep the laws
pub toll-keeps_laws : (bounded : Bool) → IsSpace (toll_rules bounded)
toll-keeps_laws bounded =
    record {
      moves =
          record {
            starts =
                λ number state cost within is. record
                { valid = grind (arith, nat_tests); cheap = grind (arith, nat_tests) };
            steps =
                λ from number state cost valid within is. move bounded from.0 from.1 number state cost
                (due-small bounded from valid) is;
            cell = λ state valid. grind (arith, nat_tests);
            slot = λ state valid. grind (arith, nat_tests);
          };
      covering =
          record {
            one_slot = λ a b ca cb va vb h. same-place a b ca cb h;
            itself = λ a ca va. covers-these a a ca ca refl (omega arith) (omega arith);
            through = λ a b c ca cb cc va vb vc h k.
                covers-these a c ca cc (same-place a b ca cb h ∙ same-place b c cb cc k)
                (omega (arith, no-more_due a b ca cb h, no-more_due b c cb cc k))
                (omega (arith, no-more a b ca cb h, no-more b c cb cc k));
            cheaper = λ a b ca cb va vb h. no-more a b ca cb h;
            under = λ a b ca cb va vb h. point-under a b ca cb h;
          };
      kept = λ a b ca cb va vb h number within first second more other is is'.
          let same : (first ≡ second) × (more ≤ other) =
          along b.0 a.1 b.1 number first second more other (no-more_due a b ca cb h)
          (subst (λ (p : ℕ). toll_step (p, a.1) number ≡ Some (first, more)) (same-place a b ca cb h) is)
          is' in
          subst (λ (s : ℕ × ℕ). IsTrue (due_covers first (ca + more) s (cb + other))) same.0
          (covers-these first first (ca + more) (cb + other) refl (omega arith)
          (omega (arith, same.1, no-more a b ca cb h)));
      alike =
          record {
            steps =
                λ a b ca cb va vb h. ap (λ (p : ℕ). (toll_rules bounded).steps (p, 0))
                (same-place a b ca cb h);
            permitted = λ a b ca cb va vb h number within.
                subst (λ (p : ℕ). is_some (toll_step (p, a.1) number) ≡ is_some (toll_step (b.0, b.1) number))
                (sym (same-place a b ca cb h)) (permitted b.0 a.1 b.1 number);
            goal =
                λ a b ca cb va vb h. ap (λ (p : ℕ). (toll_rules bounded).is_goal (p, 0))
                (same-place a b ca cb h);
          };
      bound =
          record {
            small = λ state low valid is. low-small bounded state low (due-small bounded state valid) is;
            goal = λ state valid goal. low-goal bounded state goal;
            hopeless = λ state end cost total numbers valid is walks goal. low-some bounded state is;
            step = λ from number state cost before after valid within is low low'.
                low-step bounded from.0 from.1 number state cost before after is low low';
          };
    }
