-- A new label follows from a start or from a settled label, and ranks no less than what is settled.
use Rattle.std.proofs.Common.{◌≡◌, ℕ, ◌<◌, ◌≤◌, ◌+◌, ◌*◌, ◌^◌, length, Option, Some, refl, arith, sym, subst}
use Rattle.std.specs.Bool.{IsTrue}
use Rattle.space_search.specs.Books.{Books, IsSettled, Follows, from_start, from_label, RanksAbove, IsSearch}
use Rattle.space_search.specs.Laws.{IsSpace, IsMove}
use Rattle.space_search.specs.Rules.{Rules, COST_BOUND, LOW_BOUND}
use Rattle.space_search.specs.declared.label.Label.{Label}
use Rattle.space_search.proofs.SameLemmas.{settled-within}

-- what holds of what was found holds of each reading of it
pub this-one :
    {S : Type 0} (P : S → ℕ → Type 0) (r : Option (S × ℕ)) (found : S × ℕ) →
    Some found ≡ r → P found.0 found.1 →
    (state : S) (cost : ℕ) → r ≡ Some (state, cost) → P state cost
this-one {S} P r found is holds state cost same =
    let one : found ≡ (state, cost) = cc in
    subst (λ (p : S × ℕ). P p.0 p.1) one holds

-- what follows from a settled label costs little
pub small-cost : (cost settled : ℕ) → cost < (settled + 1) * COST_BOUND → settled < 2 ^ 32 → cost < LOW_BOUND
small-cost cost settled bounded few = omega arith

module _ {S : Type 0} (rules : Rules S) (kept : Books S) (search : IsSearch rules kept) (place : ℕ) (label : Label S)
    (settled : IsSettled kept place label) where
  -- the state of a settled label is valid
  pub settled-valid : IsTrue (rules.is_valid label.state)
  settled-valid = (search.stands.reads.settled_follows place label settled).valid

  -- and what it costs is small
  pub settled-small : label.cost < LOW_BOUND
  settled-small =
      small-cost label.cost place (search.stands.reads.settled_follows place label settled).bounded
      (omega (arith, settled-within kept place label settled, search.stands.reads.few_settled))

module _ {S : Type 0} (rules : Rules S) (laws : IsSpace rules) (kept : Books S) where
  -- a label that a permitted start gives
  pub follows-start :
      (choice : ℕ) (found : S × ℕ) → choice < rules.starts → Some found ≡ rules.start choice →
      Follows rules kept (length kept.settled)
      (record { cost = found.1; state = found.0; parent = 0; choice = choice })
  follows-start choice found within is =
      let move : IsMove rules found.0 found.1 = laws.moves.starts choice found.0 found.1 within (sym is) in
      record { valid = move.valid; bounded = omega (arith, move.cheap); came = from_start refl within (sym is) }

  module _ (search : IsSearch rules kept) (place : ℕ) (label : Label S) (settled : IsSettled kept place label)
      (counted : length kept.settled ≡ place + 1) (choice : ℕ) (found : S × ℕ)
      (within : choice < rules.steps label.state) (is : Some found ≡ rules.step label.state choice) where
    -- the label itself came from a start or an earlier one
    old : Follows rules kept place label
    old = search.stands.reads.settled_follows place label settled

    -- the step leads to a valid state at a bounded cost
    move : IsMove rules found.0 found.1
    move = laws.moves.steps label.state choice found.0 found.1 old.valid within (sym is)

    -- what a step of a settled label reaches costs less than 128 bits hold
    pub step-fits : label.cost + found.1 < 2 ^ 123
    step-fits = omega (arith, old.bounded, move.cheap, counted, search.stands.reads.few_settled)

    -- a label that a permitted step of the newest settled label gives
    pub follows-step :
        Follows rules kept (length kept.settled)
        (record { cost = label.cost + found.1; state = found.0; parent = length kept.settled; choice = choice })
    follows-step =
        record {
          valid = move.valid;
          bounded = omega (arith, old.bounded, move.cheap, counted);
          came = from_label place label found.1 counted (omega (arith, counted)) settled within (sym is) refl;
        }

    -- it ranks no less than any settled label
    pub above-step : RanksAbove rules kept found.0 (label.cost + found.1)
    above-step p other low high s r new =
        let mine = search.stands.rising.ranked place label settled in
        let first : low ≤ mine.0 =
        search.stands.rising.rising p place other label low mine.0 (omega (arith, settled-within kept p other s, counted)) s settled r
        mine.1 in
        let then : mine.1.low ≤ found.1 + new.low =
        laws.bound.step label.state choice found.0 found.1 mine.1.low new.low old.valid within (sym is) mine.1.is new.is in
        omega (arith, first, then, mine.1.sum, new.sum)
