-- The strip of cells keeps the laws of a search space.
use Rattle.std.proofs.Common.{◌≡◌, ℕ, zero, suc, ◌<◌, ◌≤◌, ◌+◌, ◌^◌, Option, Some, None, refl, ap, arith, sym, ◌∙◌, subst}
use Rattle.std.proofs.lemmas.Bool.Decides.{nat_tests}
use Rattle.std.proofs.lemmas.Int.{ints}
use Rattle.std.specs.Bool.{IsTrue}
use Rattle.std.specs.Option.{is_some}
use Rattle.space_search.specs.Laws.{IsMove, IsSpace, Supersedes}
use Rattle.space_search.specs.Rules.{IsUnder, Rules}
use Rattle.map_cases.specs.Strip.{ahead, back, neighbour, step_to, strip_covers, strip_point, strip_rules}

-- what covers stands in the same cell
same-place : (a b : ℕ × ℕ) (ca cb : ℕ) → IsTrue (strip_covers a ca b cb) → a.0 ≡ b.0
same-place (p, d) (p', d') ca cb covers = grind (arith, nat_tests)

-- has no more due
no-more_due : (a b : ℕ × ℕ) (ca cb : ℕ) → IsTrue (strip_covers a ca b cb) → a.1 ≤ b.1
no-more_due (p, d) (p', d') ca cb covers = grind (arith, nat_tests)

-- and costs no more
no-more : (a b : ℕ × ℕ) (ca cb : ℕ) → IsTrue (strip_covers a ca b cb) → ca ≤ cb
no-more (p, d) (p', d') ca cb covers = grind (arith, nat_tests)

-- so its point lies under that of what it covers
point-under : (a b : ℕ × ℕ) (ca cb : ℕ) → IsTrue (strip_covers a ca b cb) →
    IsUnder (strip_point a ca) (strip_point b cb)
point-under a b ca cb covers =
    record {
      x = omega (arith, ints, no-more_due a b ca cb covers);
      y = omega (arith, ints, no-more a b ca cb covers);
      z = omega (arith, ints);
    }

-- and each that stands so covers
covers-these : (a b : ℕ × ℕ) (ca cb : ℕ) → a.0 ≡ b.0 → a.1 ≤ b.1 → ca ≤ cb → IsTrue (strip_covers a ca b cb)
covers-these (p, d) (p', d') ca cb place due cost = grind (arith, nat_tests)

-- a cell ahead lies on the strip
ahead-below : (cells by place next : ℕ) → ahead cells by place ≡ Some next → next < cells
ahead-below cells by place next is = grind (arith, nat_tests)

-- and so does one back of a cell on the strip
back-below : (cells by place next : ℕ) → place < cells → back by place ≡ Some next → next < cells
back-below cells by place next within is = grind (arith, nat_tests)

-- any other step goes a row back
far : (cells width n place : ℕ) → neighbour cells width (suc (suc (suc n))) place ≡ back width place
far cells width n place = grind (arith, nat_tests)

-- a neighbour of a cell on the strip lies on the strip
neighbour-below :
    (cells width number place next : ℕ) → place < cells → neighbour cells width number place ≡ Some next →
    next < cells
neighbour-below cells width zero place next within is = ahead-below cells 1 place next is
neighbour-below cells width (suc zero) place next within is = ahead-below cells width place next is
neighbour-below cells width (suc (suc zero)) place next within is = back-below cells 1 place next within is
neighbour-below cells width (suc (suc (suc n))) place next within is =
    back-below cells width place next within (sym (far cells width n place) ∙ is)

-- what a step gives: the neighbour with the same due, at one more than the step's number
record Gives (due number : ℕ) (found : Option ℕ) (state : ℕ × ℕ) (cost : ℕ) : Type 0 where
  next : found ≡ Some state.0
  due_stays : state.1 ≡ due
  costs : cost ≡ number + 1

-- a permitted step gives this
gives :
    (due number : ℕ) (found : Option ℕ) (state : ℕ × ℕ) (cost : ℕ) →
    step_to due number found ≡ Some (state, cost) → Gives due number found state cost
gives due number None state cost is = cc
gives due number (Some place) (p, d) cost is =
    let same : ◌≡◌ {A = (ℕ × ℕ) × ℕ} ((place, due), number + 1) ((p, d), cost) = cc in
    record {
      next = ap (λ (answer : (ℕ × ℕ) × ℕ). Some answer.0.0) same;
      due_stays = sym (ap (λ (answer : (ℕ × ℕ) × ℕ). answer.0.1) same);
      costs = sym (ap (λ (answer : (ℕ × ℕ) × ℕ). answer.1) same);
    }

-- a step to a cell is permitted whatever is due
permitted :
    (due due' number : ℕ) (found : Option ℕ) →
    is_some (step_to due number found) ≡ is_some (step_to due' number found)
permitted due due' number None = refl
permitted due due' number (Some place) = refl

-- one cell is found
same-next : (next next' : ℕ) (found : Option ℕ) → found ≡ Some next → found ≡ Some next' → next ≡ next'
same-next next next' found is is' = cc

-- two steps of one number to one cell end alike, the one with no more due and no greater cost before covering
-- the other
along :
    (due due' number ca cb : ℕ) (found : Option ℕ) (first second : ℕ × ℕ) (more other : ℕ) → due ≤ due' →
    ca ≤ cb →
    step_to due number found ≡ Some (first, more) → step_to due' number found ≡ Some (second, other) →
    IsTrue (strip_covers first (ca + more) second (cb + other))
along due due' number ca cb found first second more other less cheaper is is' =
    let one = gives due number found first more is in
    let two = gives due' number found second other is' in
    covers-these first second (ca + more) (cb + other) (same-next first.0 second.0 found one.next two.next)
    (omega (arith, one.due_stays, two.due_stays, less)) (omega (arith, one.costs, two.costs, cheaper))

module _ (cells width starts steps : ℕ) (some : 0 < cells) (starts_small : starts < 2 ^ 32)
    (steps_small : steps < 2 ^ 32) where
  -- the space of these numbers
  abbrev rules : Rules (ℕ × ℕ)
  rules = strip_rules cells width starts steps

  -- a cell of the strip is valid
  valid-below : (state : ℕ × ℕ) → state.0 < cells → IsTrue (rules.is_valid state)
  valid-below (p, d) less = grind (arith, nat_tests)

  -- a step leads to a state of the space
  move :
      (from : ℕ × ℕ) (number : ℕ) (state : ℕ × ℕ) (cost : ℕ) → from.0 < cells → number < steps →
      step_to from.1 number (neighbour cells width number from.0) ≡ Some (state, cost) →
      IsMove rules state cost
  move from number state cost on within is =
      let one = gives from.1 number (neighbour cells width number from.0) state cost is in
      record {
        valid = valid-below state (neighbour-below cells width number from.0 state.0 on one.next);
        cheap = omega (arith, one.costs, within, steps_small);
      }

  -- a start is a state of the space
  begin :
      (number : ℕ) (state : ℕ × ℕ) (cost : ℕ) → rules.start number ≡ Some (state, cost) →
      IsMove rules state cost
  begin number state cost is = record { valid = grind (arith, nat_tests); cheap = grind (arith, nat_tests) }

  -- a valid state lies in a cell of the strip
  on-strip : (state : ℕ × ℕ) → IsTrue (rules.is_valid state) → state.0 < cells
  on-strip (p, d) valid = grind (arith, nat_tests)

  -- the strip keeps the laws
  pub strip-keeps_laws : IsSpace rules
  strip-keeps_laws =
      record {
        moves =
            record {
              starts = λ number state cost within is. begin number state cost is;
              steps =
                  λ from number state cost valid within is. move from number state cost (on-strip from valid)
                  within is;
              cell = λ state valid. on-strip state valid;
              slot = λ state valid. on-strip state valid;
            };
        covering =
            record {
              one_slot = λ a b ca cb va vb h. same-place a b ca cb h;
              itself = λ a ca va. covers-these a a ca ca refl (omega arith) (omega arith);
              through = λ a b c ca cb cc va vb vc h k.
                  covers-these a c ca cc (same-place a b ca cb h ∙ same-place b c cb cc k)
                  (omega (arith, no-more_due a b ca cb h, no-more_due b c cb cc k))
                  (omega (arith, no-more a b ca cb h, no-more b c cb cc k));
              cheaper = λ a b ca cb va vb h. no-more a b ca cb h;
              under = λ a b ca cb va vb h. point-under a b ca cb h;
            };
        kept = λ a b ca cb va vb h number within first second more other is is'.
            along a.1 b.1 number ca cb (neighbour cells width number b.0) first second more other
            (no-more_due a b ca cb h) (no-more a b ca cb h)
            (subst (λ (p : ℕ). step_to a.1 number (neighbour cells width number p) ≡ Some (first, more))
            (same-place a b ca cb h) is) is';
        alike =
            record {
              steps = λ a b ca cb va vb h. refl;
              permitted = λ a b ca cb va vb h number within.
                  subst (λ (p : ℕ). is_some (step_to a.1 number (neighbour cells width number p)) ≡ is_some
                  (step_to b.1 number (neighbour cells width number b.0)))
                  (sym (same-place a b ca cb h))
                  (permitted a.1 b.1 number (neighbour cells width number b.0));
              goal = λ a b ca cb va vb h. refl;
            };
        bound =
            record {
              small = λ state low valid is. grind (arith, nat_tests);
              goal = λ state valid goal. refl;
              hopeless = λ state end cost total numbers valid is walks goal. cc;
              step = λ from number state cost before after valid within is low low'. grind (arith, nat_tests);
            };
      }

  -- a label with no more due in the same cell makes an older one needless, whatever that cost
  pub strip-supersedes :
      (a b : ℕ × ℕ) (ca cb : ℕ) → a.0 ≡ b.0 → a.1 ≤ b.1 → Supersedes rules a ca b cb
  strip-supersedes a b ca cb place less state cost low high valid ra rs order covers =
      let first : Some 0 ≡ Some ra.low = ra.is in
      let second : Some 0 ≡ Some rs.low = rs.is in
      let none : 0 ≡ ra.low = cc in
      let none' : 0 ≡ rs.low = cc in
      covers-these a state ca cost (place ∙ same-place b state cb cost covers)
      (omega (arith, less, no-more_due b state cb cost covers))
      (omega (arith, ra.sum, rs.sum, order, none, none'))
