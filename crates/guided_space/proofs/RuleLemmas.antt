-- What a space answers but its lower bound is the same whatever that is.
use Rattle.std.proofs.Common.{◌≡◌, ℕ, ◌+◌, ◌≤◌, ◌<◌, IsTrue, List, Option, Some, inl, inr, refl, sym, ap, ◌∙◌, subst, arith}
use Rattle.cost_model.specs.declared.parts.Carry.{Carry}
use Rattle.space_search.specs.Known.{AreKnown, IsKnown, LeavesKnown}
use Rattle.space_search.specs.Laws.{HasRank, Supersedes, SupersedesByCost}
use Rattle.space_search.specs.Rules.{Rules}
use Rattle.space_search.specs.Runs.{IsRun, Walks, rests, starts, steps}
use Rattle.space_search.specs.declared.known.Known.{Known}
use Rattle.space_search.specs.declared.step.Step.{Step}
use Rattle.bike_space.proofs.CallerLemmas.{covers-parts}
use Rattle.bike_space.specs.Tasks.{Task, entered, rules_of}

-- the space of a leg with another bound
pub bounded-rules : (task : Task) (low : ℕ → Option ℕ) (radius : Option ℕ) →
    rules_of (record task { low = low; radius = radius }) ≡ record (rules_of task) { low = λ carry. low carry.link }
unfolding entered
bounded-rules task low radius = refl

module _ {S : Type 0} (rules : Rules S) (low : S → Option ℕ) where
  -- it has the same walks
  walks-plain : {from end : S} {cost total : ℕ} {numbers : List ℕ} → Walks (record rules { low = low }) from cost numbers end total →
      Walks rules from cost numbers end total
  walks-plain rests = rests
  walks-plain (steps within is rest) = steps within is (walks-plain rest)

  -- and runs
  pub run-plain : {end : S} {cost : ℕ} {choices : List ℕ} → IsRun (record rules { low = low }) choices end cost →
      IsRun rules choices end cost
  run-plain (starts within is rest) = starts within is (walks-plain rest)

  -- what is known of its settled labels is known
  pub known-plain : (known : Known S) → AreKnown (record rules { low = low }) known → AreKnown rules known
  known-plain known is = record {
    fronts = is.fronts;
    slots = is.slots;
    fits = λ one there. let fits = is.fits one there in record { valid = fits.valid; small = fits.small };
  }

  -- and a list of steps leaves out what is known
  pub leaves-bounded : (known : Known S) (cost : ℕ) (all listed : List (Step S)) → LeavesKnown rules known cost all listed →
      LeavesKnown (record rules { low = low }) known cost all listed
  leaves-bounded known cost all listed is = record {
    from = is.from;
    rising = is.rising;
    rest = λ one there. elim (is.rest one there) [
      | inl listed ↦ inl listed
      | inr covered ↦ inr (record { one = covered.one; is = covered.is; covers = covered.covers })
    ];
  }

  -- where a label and another have one bound, what costs no less ranks no less
  pub supersedes-bounded :
      (a b : S) (ca cb : ℕ) →
      ((state : S) (cost : ℕ) → IsTrue (rules.covers b cb state cost) → low a ≡ low state) →
      SupersedesByCost rules a ca b cb → Supersedes (record rules { low = low }) a ca b cb
  supersedes-bounded a b ca cb one is = λ state cost first second valid here there under covers.
      let same : Some here.low ≡ Some there.low = sym here.is ∙ one state cost covers ∙ there.is in
      let low_is : here.low ≡ there.low = cc in
      is state cost valid (omega (arith, here.sum, there.sum, low_is, under)) covers

-- what covers a label of a leg ends in its link
pub covers-link : (task : Task) (a b : Carry) (ca cb : ℕ) → IsTrue ((rules_of task).covers a ca b cb) → a.link ≡ b.link
covers-link task a b ca cb is = (covers-parts task.leg a b ca cb is).0
