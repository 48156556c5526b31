-- What the answers of a turn say, from what a search keeps.
use Rattle.std.proofs.Common.{◌≡◌, ℕ, ◌<◌, ◌≤◌, ◌+◌, [], length, Option, Some, None, refl, ap, arith, sym, ◌∙◌, subst}
use Rattle.std.specs.Bool.{IsTrue}
use Rattle.std.specs.List.{Contains}
use Rattle.space_search.specs.Books.{Books, Follows, IsCovered, IsAccounted, by_label, by_queue, by_bound, IsSearch, IsClosed}
use Rattle.space_search.specs.Queues.{Entry}
use Rattle.space_search.specs.Laws.{IsSpace, HasRank}
use Rattle.space_search.specs.Moves.{IsNext}
use Rattle.space_search.specs.Rules.{Rules}
use Rattle.space_search.specs.Turns.{IsDone, covered, hopeless, ranks, RanksBelowGoals, IsClosedAndOrdered, EndsFound, EndsNoWay, IsClosedSoFar}
use Rattle.space_search.specs.View.{Reached, view_of, reached, reached_by, settled_of}
use Rattle.space_search.specs.declared.label.Label.{Label}
use Rattle.space_search.specs.declared.outcome.Outcome.TheVariants.{Found, NoWay}
use Rattle.space_search.specs.declared.phase.Phase.TheVariants.{Running, Ended}
use Rattle.space_search.proofs.LeastLemmas.{waits-high, none-below, no_way}
use Rattle.item_list.proofs.ListLemmas.{Contains-none}
use Rattle.space_search.proofs.OrderLemmas.{in-order}
use Rattle.space_search.proofs.RunLemmas.{run-to}
use Rattle.space_search.proofs.SameLemmas.{settled-within}
use Rattle.space_search.proofs.ShownLemmas.{Settled, shown-count, shown-settled, settled-shown}

module _ {S : Type 0} (rules : Rules S) (laws : IsSpace rules) (kept : Books S)
    (search : IsSearch rules kept) (closed : IsClosed rules kept) where
  -- what a settled label covers is done with
  done-covered :
      (floor : Option ℕ) (state : S) (cost : ℕ) → IsCovered rules kept state cost → IsDone rules (settled_of kept) floor state cost
  done-covered floor state cost c =
      covered (
      record {
        place = c.place;
        label = reached (settled_of kept) c.label;
        there = shown-settled rules kept search.stands.reads c.place c.label c.settled;
        covers = c.covers;
      }
      )

  -- what is taken care of is done with below what waits
  done :
      (least : ℕ) → ((entry : Entry) → Contains kept.queue entry → least ≤ entry.0.0) →
      (state : S) (cost : ℕ) → IsAccounted rules kept state cost → IsDone rules (settled_of kept) (Some least) state cost
  done least low state cost (by_label c) = done-covered (Some least) state cost c
  done least low state cost (by_bound none) = hopeless none
  done least low state cost (by_queue w) =
      let h = waits-high rules laws kept search closed least low state cost w in ranks least h.0 refl h.1 h.2

  -- where nothing waits, all of it is
  done-all :
      kept.queue ≡ [] → (state : S) (cost : ℕ) → IsAccounted rules kept state cost → IsDone rules (settled_of kept) None state cost
  done-all empty state cost (by_label c) = done-covered None state cost c
  done-all empty state cost (by_bound none) = hopeless none
  done-all empty state cost (by_queue w) =
      absurd (Contains-none w.entry (subst (λ q. Contains q w.entry) empty w.queued))

  -- no settled label ranks above a run to a goal
  pub below-goals : RanksBelowGoals rules (settled_of kept)
  below-goals place shown rank at r =
      let s : Settled kept place shown = settled-shown rules kept search.stands.reads place shown at in
      let mine : HasRank rules s.label.state s.label.cost rank =
      subst (λ (k : Reached S). HasRank rules k.state k.cost rank) (sym s.is) r in
      none-below rules laws kept search closed rank (λ entry h. search.above place s.label rank s.settled mine entry h)

  -- what was taken care of is done with, in one way for all
  closed-by :
      (floor : Option ℕ) → ((state : S) (cost : ℕ) → IsAccounted rules kept state cost → IsDone rules (settled_of kept) floor state cost) →
      IsClosedAndOrdered rules (settled_of kept) floor
  closed-by floor all =
      record {
        starts = λ number state cost within is. all state cost (closed.starts number state cost within is);
        steps = λ place shown number state cost at within is.
            let s : Settled kept place shown = settled-shown rules kept search.stands.reads place shown at in
            let inside : number < rules.steps s.label.state = subst (λ (k : Reached S). number < rules.steps k.state) (sym s.is) within in
            let step : rules.step s.label.state number ≡ Some (state, cost) =
            subst (λ (k : Reached S). rules.step k.state number ≡ Some (state, cost)) (sym s.is) is in
            subst (λ (k : Reached S). IsDone rules (settled_of kept) floor state (k.cost + cost)) s.is
            (all state (s.label.cost + cost)
            (closed.steps place s.label (settled-within kept place s.label s.settled) s.settled number state cost inside step));
        ordered = in-order rules kept search.stands;
        below = below-goals;
      }

  -- what ranks below all that waits is done with
  pub closed-below :
      (least : ℕ) → ((entry : Entry) → Contains kept.queue entry → least ≤ entry.0.0) →
      IsClosedAndOrdered rules (settled_of kept) (Some least)
  closed-below least low = closed-by (Some least) (done least low)

  -- after a turn that settled as many labels as it was given
  pub ends-more :
      (limit found : ℕ) → IsClosedSoFar rules (view_of (record { limit = limit; kept = kept; found = found; phase = Running }))
  ends-more limit found place last rank end at r =
      let s : Settled kept place last = settled-shown rules kept search.stands.reads place last at in
      let mine : HasRank rules s.label.state s.label.cost rank =
      subst (λ (k : Reached S). HasRank rules k.state k.cost rank) (sym s.is) r in
      closed-below rank (λ entry h. search.above place s.label rank s.settled mine entry h)

  -- where nothing waits
  pub ends-no_way :
      (limit found : ℕ) → kept.queue ≡ [] →
      EndsNoWay rules (view_of (record { limit = limit; kept = kept; found = found; phase = Ended NoWay }))
  ends-no_way limit found empty =
      record { unreachable = no_way rules laws kept search closed empty; closed = closed-by None (done-all empty) }

  -- where the next label is a goal
  pub ends-found :
      (limit number found : ℕ) (label : Label S) → IsNext rules kept number label → IsTrue (rules.is_goal label.state) →
      found ≡ length kept.settled →
      EndsFound rules (view_of (record { limit = limit; kept = kept; found = number; phase = Ended (Found found) })) found
  ends-found limit number found label next goal numbered =
      let follows : Follows rules kept (length kept.settled) label = search.follows number label next.there in
      let zero_low : rules.low label.state ≡ Some 0 = laws.bound.goal label.state follows.valid goal in
      let one : Some next.ranked.low ≡ Some 0 = sym next.ranked.is ∙ zero_low in
      let none : next.ranked.low ≡ 0 = cc in
      let rank_is : next.rank ≡ label.cost = omega (arith, next.ranked.sum, none) in
      let low : (entry : Entry) → Contains kept.queue entry → label.cost ≤ entry.0.0 =
      λ entry h. omega (arith, next.least entry h, rank_is) in
      record {
        numbered = numbered ∙ sym (shown-count rules kept search.stands.reads);
        goal = reached (settled_of kept) label;
        there = ap (λ l. reached_by (settled_of kept) l) next.there;
        least =
            record {
              run =
                  run-to rules kept search.stands.reads found label
                  (subst (λ n. Follows rules kept n label) (sym numbered) follows);
              goal = goal;
              least = none-below rules laws kept search closed label.cost low;
            };
        closed = closed-below label.cost low;
      }
