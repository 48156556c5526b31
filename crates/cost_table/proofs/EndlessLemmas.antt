-- A space without goals keeps the laws, and has the runs of the space that it is made of.
use Rattle.std.proofs.Common.{◌≡◌, ℕ, ◌+◌, inl, inr, List, IsTrue, refl, sym, ◌∙◌, arith}
use Rattle.space_search.specs.Known.{AreKnown, LeavesKnown}
use Rattle.space_search.specs.Laws.{HasEvenBound, IsBlind, IsSpace, Supersedes, SupersedesByCost}
use Rattle.space_search.specs.Rules.{Rules}
use Rattle.space_search.specs.Runs.{IsRun, Walks, rests, starts, steps}
use Rattle.space_search.specs.declared.known.Known.{Known}
use Rattle.space_search.specs.declared.step.Step.{Step}
use Rattle.cost_table.specs.Endless.{endless}

-- its lower bound says nothing
pub endless-blind : {S : Type 0} (rules : Rules S) → IsBlind (endless rules)
endless-blind rules state valid = refl

-- so it is even
pub endless-even : {S : Type 0} (rules : Rules S) → HasEvenBound (endless rules)
endless-even rules = record {
  alike = λ a b ca cb va vb covers. refl;
  stays = λ from number state cost valid within is none. absurd (cc);
}

-- it keeps the laws of a space
pub endless-laws : {S : Type 0} (rules : Rules S) → IsSpace rules → IsSpace (endless rules)
endless-laws rules laws = record {
  moves = record {
    starts = λ number state cost within is.
        let move = laws.moves.starts number state cost within is in record { valid = move.valid; cheap = move.cheap };
    steps = λ from number state cost valid within is.
        let move = laws.moves.steps from number state cost valid within is in
        record { valid = move.valid; cheap = move.cheap };
    cell = laws.moves.cell;
    slot = laws.moves.slot;
  };
  covering = record {
    one_slot = laws.covering.one_slot;
    itself = laws.covering.itself;
    through = laws.covering.through;
    cheaper = laws.covering.cheaper;
    under = laws.covering.under;
  };
  kept = laws.kept;
  alike = record {
    steps = laws.alike.steps;
    permitted = laws.alike.permitted;
    goal = λ a b ca cb va vb covers. refl;
  };
  bound = record {
    small = λ state low valid is. let same : 0 ≡ low = cc in omega (arith, same);
    goal = λ state valid goal. refl;
    hopeless = λ state end cost total numbers valid none walk goal. absurd (cc);
    step = λ from number state cost before after valid within is first second.
        let same : 0 ≡ before = cc in omega (arith, same);
  };
}

-- what one state supersedes by cost in the space itself it supersedes there, and by rank too
pub endless-supersedes :
    {S : Type 0} (rules : Rules S) → (a : S) (ca : ℕ) (b : S) (cb : ℕ) → SupersedesByCost rules a ca b cb →
    Supersedes (endless rules) a ca b cb
endless-supersedes rules a ca b cb is state cost low high valid first second up covers =
    let low_first : 0 ≡ first.low = cc in
    let low_second : 0 ≡ second.low = cc in
    is state cost valid (omega (arith, up, first.sum, second.sum, low_first, low_second)) covers

-- ---- Runs

-- its walks are those of the space
pub endless-walks :
    {S : Type 0} (rules : Rules S) {state end : S} {cost total : ℕ} {numbers : List ℕ} →
    Walks rules state cost numbers end total → Walks (endless rules) state cost numbers end total
endless-walks rules rests = rests
endless-walks rules (steps {numbers = numbers} within is rest) =
    steps {numbers = numbers} within is (endless-walks rules rest)

-- and the other way round
pub walks-endless :
    {S : Type 0} (rules : Rules S) {state end : S} {cost total : ℕ} {numbers : List ℕ} →
    Walks (endless rules) state cost numbers end total → Walks rules state cost numbers end total
walks-endless rules rests = rests
walks-endless rules (steps {numbers = numbers} within is rest) =
    steps {numbers = numbers} within is (walks-endless rules rest)

-- so are its runs
pub endless-run :
    {S : Type 0} (rules : Rules S) {end : S} {cost : ℕ} {choices : List ℕ} → IsRun rules choices end cost →
    IsRun (endless rules) choices end cost
endless-run rules (starts {numbers = numbers} within is rest) =
    starts {numbers = numbers} within is (endless-walks rules rest)

-- and the other way round
pub run-endless :
    {S : Type 0} (rules : Rules S) {end : S} {cost : ℕ} {choices : List ℕ} → IsRun (endless rules) choices end cost →
    IsRun rules choices end cost
run-endless rules (starts {numbers = numbers} within is rest) =
    starts {numbers = numbers} within is (walks-endless rules rest)

-- what is known over it is known over the space that it is made of
pub known-endless : {S : Type 0} (rules : Rules S) (known : Known S) → AreKnown (endless rules) known → AreKnown rules known
known-endless rules known are = record {
  fronts = are.fronts;
  slots = are.slots;
  fits = λ one is. let fits = are.fits one is in record { valid = fits.valid; small = fits.small };
}

-- and what a list leaves out there may be left out over it
pub leaves-endless :
    {S : Type 0} (rules : Rules S) (known : Known S) (cost : ℕ) (all listed : List (Step S)) → LeavesKnown rules known cost all listed →
    LeavesKnown (endless rules) known cost all listed
leaves-endless rules known cost all listed leaves = record {
  from = leaves.from;
  rising = leaves.rising;
  rest = λ one there.
      elim (leaves.rest one there) [
        | inl has ↦ inl has
        | inr k ↦ inr (record { one = k.one; is = k.is; covers = k.covers })
      ];
}
