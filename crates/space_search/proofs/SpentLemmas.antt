-- The evidence of a spent limit, from what a search keeps.
use Rattle.std.proofs.Common.{◌≡◌, ℕ, ◌≤◌, ◌+◌, inl, inr, [], ◌∷◌, ◌++◌, length, Some, false, arith, sym, ◌∙◌, subst, length-append}
use Rattle.std.proofs.lemmas.Option.{slice_get_within, get_or_from_slice_get}
use Rattle.std.specs.List.{slice_get, Contains}
use Rattle.space_search.specs.Books.{Books, Follows, IsUncovered, IsSearch, IsClosed}
use Rattle.space_search.specs.Laws.{IsSpace, HasRank}
use Rattle.space_search.specs.Moves.{IsNext}
use Rattle.space_search.specs.Rules.{Rules}
use Rattle.space_search.specs.Turns.{IsPassed, RanksBelowGoals, EndsSpent}
use Rattle.space_search.specs.View.{Reached, view_of, reached, settled_of}
use Rattle.space_search.specs.declared.label.Label.{Label}
use Rattle.space_search.specs.declared.outcome.Outcome.TheVariants.{Budget}
use Rattle.space_search.specs.declared.phase.Phase.TheVariants.{Ended}
use Rattle.space_search.proofs.DropLemmas.{rank-unique}
use Rattle.space_search.proofs.EndLemmas.{below-goals, closed-below}
use Rattle.space_search.proofs.LeastLemmas.{none-below}
use Rattle.item_list.proofs.ListLemmas.{slice_get-push_cases}
use Rattle.space_search.proofs.OrderLemmas.{in-order, order-more}
use Rattle.space_search.proofs.RunLemmas.{run-to}
use Rattle.space_search.proofs.ShownLemmas.{Settled, shown-count, settled-shown}

-- the next label would be settled: it is no goal, and no settled label covers it
pub record Refused {S : Type 0} (rules : Rules S) (kept : Books S) (number : ℕ) (label : Label S) : Type 0 where
  pub search : IsSearch rules kept
  pub closed : IsClosed rules kept
  pub next : IsNext rules kept number label
  pub no_goal : rules.is_goal label.state ≡ false
  pub uncovered : IsUncovered rules kept label.state label.cost

module _ {S : Type 0} (rules : Rules S) (laws : IsSpace rules) (kept : Books S) (number : ℕ) (label : Label S)
    (r : Refused rules kept number label) where
  -- the label as it is shown
  abbrev last : Reached S
  last = reached (settled_of kept) label

  -- as many labels are shown as are settled
  count : length (settled_of kept) ≡ length kept.settled
  count = shown-count rules kept r.search.stands.reads

  -- the label comes from a start or a settled label
  follows : Follows rules kept (length kept.settled) label
  follows = r.search.follows number label r.next.there

  -- it is a run to no goal with a rank
  passed : IsPassed rules (length (settled_of kept) + 1) last
  passed =
      record {
        valid = follows.valid;
        run =
            run-to rules kept r.search.stands.reads (length (settled_of kept)) label
            (subst (λ n. Follows rules kept n label) (sym count) follows);
        no_goal = r.no_goal;
        rank = r.next.rank;
        ranked = r.next.ranked;
      }

  -- its entry waits
  front : Contains kept.queue (record { 0 = (r.next.rank, number) })
  front = (
    0,
    slice_get_within kept.queue 0 (record { 0 = (r.next.rank, number) }) r.next.first,
    get_or_from_slice_get kept.queue 0 (record { 0 = (r.next.rank, number) }) (record { 0 = (r.next.rank, number) }) r.next.first,
  )

  -- no settled label ranks above it
  under :
      (place : ℕ) (shown : Reached S) (low : ℕ) → slice_get (settled_of kept) place ≡ Some shown →
      HasRank rules shown.state shown.cost low → low ≤ r.next.rank
  under place shown low at rank =
      let s : Settled kept place shown = settled-shown rules kept r.search.stands.reads place shown at in
      r.search.above place s.label low s.settled
      (subst (λ (k : Reached S). HasRank rules k.state k.cost low) (sym s.is) rank) (record { 0 = (r.next.rank, number) }) front

  -- and none covers it
  apart :
      (place : ℕ) (shown : Reached S) → slice_get (settled_of kept) place ≡ Some shown →
      rules.covers shown.state shown.cost label.state label.cost ≡ false
  apart place shown at =
      let s : Settled kept place shown = settled-shown rules kept r.search.stands.reads place shown at in
      subst (λ (k : Reached S). rules.covers k.state k.cost label.state label.cost ≡ false) s.is (r.uncovered place s.label s.settled)

  -- none of them and not the label ranks above a run to a goal
  below : RanksBelowGoals rules (settled_of kept ++ last ∷ [])
  below place shown rank at is =
      elim (slice_get-push_cases (settled_of kept) last place shown at) [
        | inl old ↦ below-goals rules laws kept r.search r.closed place shown rank old is
        | inr (end, same) ↦
            let rank_is : rank ≡ r.next.rank =
            rank-unique rules label.state label.cost rank r.next.rank
            (subst (λ (k : Reached S). HasRank rules k.state k.cost rank) (sym same) is) r.next.ranked in
            none-below rules laws kept r.search r.closed rank (λ entry h. omega (arith, r.next.least entry h, rank_is))
      ]

  -- where the limit is spent
  pub ends-spent :
      (limit found : ℕ) → length kept.settled ≡ limit →
      EndsSpent rules (view_of (record { limit = limit; kept = kept; found = found; phase = Ended Budget }))
  unfolding passed
  ends-spent limit found full =
      record {
        reached = count ∙ full;
        taken = last;
        rank = r.next.rank;
        ranked = r.next.ranked;
        spent =
            record {
              count = omega (arith, length-append (settled_of kept) (last ∷ []), count, full);
              ordered =
                  order-more rules (settled_of kept) last (in-order rules kept r.search.stands)
                  (record { passed = passed; under = under; uncovered = apart });
              below = below;
            };
        closed = closed-below rules laws kept r.search r.closed r.next.rank r.next.least;
      }
