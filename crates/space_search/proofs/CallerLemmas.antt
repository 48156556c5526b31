-- What crates above may take from a search over a space, and of runs over a space that keeps the laws.
use Rattle.std.proofs.Common.{◌≡◌, ℕ, suc, refl, ◌<◌, ◌≤◌, ◌*◌, ◌⊎◌, List, ◌++◌, [], ◌∷◌, length, Option, Some, arith, sym, subst, length-append}
use Rattle.std.specs.Bool.{IsTrue}
use Rattle.std.specs.List.{slice_get}
use Rattle.space_search.specs.Books.{books}
use Rattle.space_search.specs.Laws.{IsSpace, HasEvenBound, IsBlind, IsDearest}
use Rattle.space_search.specs.Limits.{CoversByKey, HasFewPerCell}
use Rattle.space_search.specs.Rules.{Rules}
use Rattle.space_search.specs.Runs.{IsRun}
use Rattle.space_search.specs.Searches.{IsSearchOf, IsReadable}
use Rattle.space_search.specs.Turns.{AreInOrder, EndsFound, IsClosedAndOrdered, IsCoveredBy, IsDone}
use Rattle.space_search.specs.View.{KeepsPlaces, Reached, view, listed}
use Rattle.space_search.specs.declared.search.Search.{Search}
-- where a run ends is valid
pub use Rattle.space_search.proofs.DoneLemmas.{run-valid}
use Rattle.space_search.proofs.DoneLemmas.{done-run, run-below_floor, cost-run}
use Rattle.space_search.proofs.LimitLemmas.{few-keys}
use Rattle.space_search.proofs.OrderLemmas.{in-order}
use Rattle.space_search.proofs.ShownLemmas.{shown-count}

module _ {S : Type 0} (rules : Rules S) (search : Search S) (of : IsSearchOf rules search) where
  -- the settled labels of a search are in order, whatever came of its turns
  pub settled-ordered : AreInOrder rules (view search).settled
  settled-ordered = in-order rules (books search.lists) of.stands

  -- no more labels are settled than the limit allows
  pub settled-within : length (view search).settled ≤ (view search).limit
  settled-within = omega (arith, of.within, shown-count rules (books search.lists) of.stands.reads)

  -- a settled label can be read
  pub settled-readable : (number : ℕ) → number < length (view search).settled → IsReadable search number
  settled-readable number below =
      record {
        rules = rules;
        of = of;
        within = omega (arith, length-append (view search).settled (listed (view search).goal));
      }

  -- and so can the goal that a turn found
  pub goal-readable : (number : ℕ) → EndsFound rules (view search) number → IsReadable search number
  goal-readable number e =
      record {
        rules = rules;
        of = of;
        within =
            subst (λ (g : Option (Reached S)). number < length ((view search).settled ++ listed g)) (sym e.there)
            (omega (arith, e.numbered, length-append (view search).settled (e.goal ∷ [])));
      }

-- where the key of a state says what it covers in its cell, no cell keeps more labels than there are keys: as many
-- labels as cells times keys are enough
pub few-by-keys :
    {S : Type 0} (rules : Rules S) (key : S → ℕ) → CoversByKey rules key → (keys : ℕ) →
    ((state : S) → IsTrue (rules.is_valid state) → key state < keys) → HasFewPerCell rules keys
few-by-keys rules key by_key keys below = few-keys rules key by_key keys below

module _ {S : Type 0} (rules : Rules S) (laws : IsSpace rules) where
  -- where the bound is even, the end of each run is done with by closed labels: one of them covers it, no goal is
  -- reached from it, or it ranks at or above the floor
  pub run-done :
      HasEvenBound rules → (labels : List (Reached S)) (floor : Option ℕ) → IsClosedAndOrdered rules labels floor →
      {end : S} {choices : List ℕ} {cost : ℕ} → IsRun rules choices end cost → IsDone rules labels floor end cost
  run-done even labels floor closed run = done-run rules laws even labels floor closed run

  -- where the bound is 0, a run is covered by one of the closed labels, or it costs at least their floor
  pub run-below :
      IsBlind rules → (labels : List (Reached S)) (floor : ℕ) → IsClosedAndOrdered rules labels (Some floor) →
      {end : S} {choices : List ℕ} {cost : ℕ} → IsRun rules choices end cost →
      IsCoveredBy rules labels end cost ⊎ (floor ≤ cost)
  run-below blind labels floor closed run = run-below_floor rules laws blind labels floor closed run

  -- a run costs at most the dearest start or step for each of its choices
  pub run-cost :
      (dearest : ℕ) → IsDearest rules dearest → {end : S} {choices : List ℕ} {cost : ℕ} → IsRun rules choices end cost →
      cost ≤ length choices * dearest
  run-cost dearest is_dearest run = cost-run rules laws dearest is_dearest run

-- where each label keeps its place, there are no fewer
pub kept-grow : {S : Type 0} (before after : List (Reached S)) → KeepsPlaces before after → length before ≤ length after
kept-grow [] after keeps = omega arith
kept-grow (x ∷ xs) [] keeps = let never : slice_get [] 0 ≡ Some x = keeps 0 x refl in absurd (cc)
kept-grow (x ∷ xs) (y ∷ ys) keeps = omega (arith, kept-grow xs ys (λ place label s. keeps (suc place) label s))
