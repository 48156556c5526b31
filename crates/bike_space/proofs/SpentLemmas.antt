-- The evidence of a spent limit, from what a search shows to the walks of a leg.
use Rattle.std.proofs.Common.{Option, ◌≡◌, ◌≢◌, ℕ, pos, zero, suc, ◌+◌, ◌<◌, ◌≤◌, Bool, false, List, [], ◌∷◌, length, map, Some, None, IsTrue, refl, sym, ap, ◌∙◌, subst, arith}
use Rattle.std.proofs.lemmas.Int.{ints}
use Rattle.std.proofs.lemmas.List.{length-map}
use Rattle.std.specs.List.{slice_get}
use Rattle.cost_model.specs.Labels.{label_of}
use Rattle.cost_model.specs.Walks.{pair_of}
use Rattle.cost_model.specs.declared.parts.Carry.{Carry}
use Rattle.elev_buffer.specs.Covers.{CoversLabel, label}
use Rattle.elev_buffer.proofs.CallerLemmas.{covers-refl, covers-test}
use Rattle.space_search.specs.Laws.{HasRank}
use Rattle.space_search.specs.Turns.{IsSpent}
use Rattle.space_search.specs.View.{Reached}
use Rattle.cost_model.specs.Rides.{Leg}
use Rattle.bike_space.specs.LegWalks.{IsLegWalk, IsWalkTo, end_link, leg_rank}
use Rattle.bike_space.specs.Spent.{AreShown, IsSpentBounded, IsSpentPlain, IsSpentStrong, nth_walk, terms_of, walk_buffers, walk_label}
use Rattle.bike_space.specs.Remaining.{IsRemaining}
use Rattle.bike_space.specs.Tasks.{Task, covers_carry, rules_of, walk_by}
use Rattle.bike_space.specs.Runs.{IsWalkWith}
use Rattle.bike_space.specs.Lawful.{IsTask}
use Rattle.bike_space.proofs.CarryLemmas.{carried-is, parts-cover}
use Rattle.bike_space.proofs.LeastLemmas.{end-carried, least-below}
use Rattle.bike_space.proofs.RunLemmas.{run-walk, goal-is}
use Rattle.item_list.proofs.ListLemmas.{slice_get-there}
use Rattle.space_search.specs.Rules.{Rules}
use Rattle.space_search.specs.Runs.{IsRun, Reaches}

-- ---- A space whose starts and steps are others

-- the space of the states of a search on a leg, with these starts and steps
abbrev pub space_by : (task : Task) (start : ℕ → Option (Carry × ℕ)) (step : Carry → ℕ → Option (Carry × ℕ)) → Rules Carry
space_by task start step = record (rules_of task) { start = start; step = step }

-- its runs, written so, are runs of the search's own space, and it reaches what that one reaches
pub record IsWritten (task : Task) (start : ℕ → Option (Carry × ℕ)) (step : Carry → ℕ → Option (Carry × ℕ))
    (written : List ℕ → List ℕ) : Type 0 where
  pub runs : (choices : List ℕ) (end : Carry) (cost : ℕ) → IsRun (space_by task start step) choices end cost →
      IsRun (rules_of task) (written choices) end cost
  pub reached : (choices : List ℕ) (cost : ℕ) → Reaches (rules_of task) choices cost →
      (others : List ℕ) × Reaches (space_by task start step) others cost

-- the walk of a label whose choices are written so
abbrev pub walk_as : (written : List ℕ → List ℕ) → Task → Reached Carry → List ℕ
walk_as written task label = walk_by task.leg (written label.choices)

-- the walk at the place of a label
pub nth-at : (written : List ℕ → List ℕ) (task : Task) (shown : List (Reached Carry)) (k : ℕ) (one : Reached Carry) →
    slice_get shown k ≡ Some one → nth_walk (map (walk_as written task) shown) k ≡ walk_as written task one
nth-at written task [] k one at = absurd (cc)
nth-at written task (x ∷ xs) zero one at = let same : x ≡ one = cc in ap (walk_as written task) same
nth-at written task (x ∷ xs) (suc k) one at = nth-at written task xs k one at

-- what is known of a label that a search shows, at its place
record IsShownAt (written : List ℕ → List ℕ) (task : Task) (shown : List (Reached Carry)) (k : ℕ) : Type 0 where
  one : Reached Carry
  at : slice_get shown k ≡ Some one
  walk : nth_walk (map (walk_as written task) shown) k ≡ walk_as written task one
  valid : IsTrue ((rules_of task).is_valid one.state)
  with : IsWalkWith task (walk_as written task one) one.state one.cost
  no_goal : (rules_of task).is_goal one.state ≡ false
  low : ℕ
  bound : (rules_of task).low one.state ≡ Some low

module _ (task : Task) (lawful : IsTask task) (start : ℕ → Option (Carry × ℕ)) (step : Carry → ℕ → Option (Carry × ℕ))
    (written : List ℕ → List ℕ) (by : IsWritten task start step written) (limit : ℕ) (shown : List (Reached Carry))
    (spent : IsSpent (space_by task start step) limit shown) (differ : task.leg.start ≢ task.leg.target) where
  -- the walks that are shown
  abbrev walks : List (List ℕ)
  walks = map (walk_as written task) shown

  -- a label at each place
  shown-at : (k : ℕ) → k < length walks → IsShownAt written task shown k
  shown-at k below =
      let t = slice_get-there shown k (omega (arith, length-map shown (walk_as written task))) in
      let p = spent.ordered.each k t.0 t.1 in
      record {
        one = t.0;
        at = t.1;
        walk = nth-at written task shown k t.0 t.1;
        valid = p.valid;
        with = run-walk task (written t.0.choices) t.0.state t.0.cost (by.runs t.0.choices t.0.state t.0.cost p.run.run);
        no_goal = p.no_goal;
        low = p.ranked.low;
        bound = p.ranked.is;
      }

  -- its rank
  ranked-at : (k : ℕ) (s : IsShownAt written task shown k) → HasRank (space_by task start step) s.one.state s.one.cost (s.one.cost + s.low)
  ranked-at k s = record { low = s.low; is = s.bound; sum = refl }

  -- the last link of its walk
  end-at : (k : ℕ) (s : IsShownAt written task shown k) → end_link (nth_walk walks k) ≡ s.one.state.link
  end-at k s = ap end_link s.walk ∙ end-carried task (walk_as written task s.one) s.one.state s.one.cost s.with

  -- the rank of its walk
  rank-at : (k : ℕ) (s : IsShownAt written task shown k) → leg_rank task.leg task.used (nth_walk walks k) ≡ s.one.cost
  rank-at k s = ap (leg_rank task.leg task.used) s.walk ∙ s.with.ranks

  -- the buffers after its walk
  buffers-at : (k : ℕ) (s : IsShownAt written task shown k) → walk_buffers task.leg (nth_walk walks k) ≡ pair_of s.one.state
  buffers-at k s = ap (walk_buffers task.leg) s.walk ∙ s.with.carried.buffers

  -- no walk of the leg ranks below its rank
  below-at : (k : ℕ) (s : IsShownAt written task shown k) (other : List ℕ) → IsLegWalk task.leg other →
      s.one.cost + s.low ≤ leg_rank task.leg task.used other
  below-at k s other is =
      least-below task (s.one.cost + s.low) differ
      (λ others cost reaches.
      let reached = by.reached others cost reaches in
      spent.below k s.one (s.one.cost + s.low) s.at (ranked-at k s) reached.0 cost reached.1)
      other is

  -- what is shown is what evidence is
  are-shown : AreShown task.leg task.used limit walks
  are-shown = record {
    count = length-map shown (walk_as written task) ∙ spent.count;
    each = λ k below.
        let s = shown-at k below in
        let led : task.leg.ride.roads.to s.one.state.link ≡ task.leg.ride.roads.to (end_link (nth_walk walks k)) =
        ap task.leg.ride.roads.to (sym (end-at k s)) in
        record {
          some = subst (λ (w : List ℕ). 0 < length w) (sym s.walk) s.with.some;
          is_walk = subst (λ n. IsWalkTo task.leg n (nth_walk walks k)) led
              (subst (IsWalkTo task.leg (task.leg.ride.roads.to s.one.state.link)) (sym s.walk) s.with.is_walk);
        };
    short = λ k below at.
        let s = shown-at k below in
        let goal : IsTrue ((rules_of task).is_goal s.one.state) =
        (goal-is task s.one.state).1 (ap task.leg.ride.roads.to (sym (end-at k s)) ∙ at) in
        let no_goal = s.no_goal in
        let never : ⊥ = cc in
        never;
    below = λ k below other is.
        let s = shown-at k below in
        omega (arith, rank-at k s, below-at k s other is);
  }

  -- of two that end in one link the later ranks no lower
  rising-at : (i j : ℕ) → i < j → j < length walks → end_link (nth_walk walks i) ≡ end_link (nth_walk walks j) →
      leg_rank task.leg task.used (nth_walk walks i) ≤ leg_rank task.leg task.used (nth_walk walks j)
  rising-at i j less below same =
      let s = shown-at i (omega (arith, below)) in
      let t = shown-at j below in
      let one : s.one.state.link ≡ t.one.state.link = sym (end-at i s) ∙ same ∙ end-at j t in
      let lows : Some s.low ≡ Some t.low = sym s.bound ∙ ap task.low one ∙ t.bound in
      let equal : s.low ≡ t.low = cc in
      let order = spent.ordered.rising i j s.one t.one (s.one.cost + s.low) (t.one.cost + t.low) (omega (arith, less))
      s.at t.at (ranked-at i s) (ranked-at j t) in
      omega (arith, order, equal, rank-at i s, rank-at j t)

  -- and the earlier doesn't make it needless
  apart-at : (i j : ℕ) → i < j → j < length walks → end_link (nth_walk walks i) ≡ end_link (nth_walk walks j) →
      CoversLabel (terms_of task.leg) (walk_label task.leg task.used (nth_walk walks i))
      (walk_label task.leg task.used (nth_walk walks j)) → ⊥
  apart-at i j less below same covers =
      let s = shown-at i (omega (arith, below)) in
      let t = shown-at j below in
      let one : s.one.state.link ≡ t.one.state.link = sym (end-at i s) ∙ same ∙ end-at j t in
      let first : walk_label task.leg task.used (nth_walk walks i) ≡ label_of s.one.state s.one.cost =
      ap (λ p. label p (pos (leg_rank task.leg task.used (nth_walk walks i)))) (buffers-at i s)
      ∙ ap (λ n. label (pair_of s.one.state) (pos n)) (rank-at i s) in
      let second : walk_label task.leg task.used (nth_walk walks j) ≡ label_of t.one.state t.one.cost =
      ap (λ p. label p (pos (leg_rank task.leg task.used (nth_walk walks j)))) (buffers-at j t)
      ∙ ap (λ n. label (pair_of t.one.state) (pos n)) (rank-at j t) in
      let labels : CoversLabel (terms_of task.leg) (label_of s.one.state s.one.cost) (label_of t.one.state t.one.cost) =
      subst (CoversLabel (terms_of task.leg) (label_of s.one.state s.one.cost)) second
      (subst (λ l. CoversLabel (terms_of task.leg) l (walk_label task.leg task.used (nth_walk walks j))) first
      covers) in
      let yes_ : IsTrue (covers_carry task.leg s.one.state s.one.cost t.one.state t.one.cost) =
      parts-cover task.leg s.one.state t.one.state s.one.cost t.one.cost one ((covers-test _ _ _).1 labels) in
      let no_ : covers_carry task.leg s.one.state s.one.cost t.one.state t.one.cost ≡ false =
      spent.ordered.apart i j s.one t.one less s.at t.at in
      let never : ⊥ = cc in
      never

  -- a spent limit has its evidence in the strong form
  pub strong-written : IsSpentStrong task.leg task.used limit walks
  strong-written = record { shown = are-shown; rising = rising-at; apart = apart-at }

  -- and with the bound, where that is found for all nodes
  pub spent-written : task.radius ≡ None → IsSpentBounded task.leg task.used limit walks
  spent-written all = record {
    strong = strong-written;
    bounded = λ k below.
        let s = shown-at k below in
        let node : task.leg.ride.roads.to s.one.state.link ≡ task.leg.ride.roads.to (end_link (nth_walk walks k)) =
        ap task.leg.ride.roads.to (sym (end-at k s)) in
        let rest : IsRemaining task.leg task.used (task.leg.ride.roads.to s.one.state.link) (Some s.low) =
        subst (IsRemaining task.leg task.used (task.leg.ride.roads.to s.one.state.link)) s.bound
        (lawful.whole all s.one.state.link (carried-is task.leg s.one.state s.valid).0) in
        record {
          rest = s.low;
          remaining = subst (λ n. IsRemaining task.leg task.used n (Some s.low)) node rest;
          below = λ other is. omega (arith, rank-at k s, below-at k s other is);
        };
  }

-- ---- The space itself

-- the walk of a label that a search shows
abbrev pub walk_of : Task → Reached Carry → List ℕ
walk_of task label = walk_by task.leg label.choices

-- its runs are written as they are
own-written : (task : Task) → IsWritten task (rules_of task).start (rules_of task).step (λ choices. choices)
own-written task = record { runs = λ choices end cost run. run; reached = λ choices cost reaches. (choices, reaches) }

-- a spent limit has its evidence in the strong form
pub spent-strong : (task : Task) (lawful : IsTask task) (limit : ℕ) (shown : List (Reached Carry)) →
    IsSpent (rules_of task) limit shown → task.leg.start ≢ task.leg.target →
    IsSpentStrong task.leg task.used limit (map (walk_of task) shown)
spent-strong task lawful limit shown spent differ =
    strong-written task lawful (rules_of task).start (rules_of task).step (λ choices. choices) (own-written task) limit shown spent differ

-- and with the bound where that is found for all nodes
pub spent-bounded : (task : Task) (lawful : IsTask task) (limit : ℕ) (shown : List (Reached Carry)) →
    IsSpent (rules_of task) limit shown → task.leg.start ≢ task.leg.target → task.radius ≡ None →
    IsSpentBounded task.leg task.used limit (map (walk_of task) shown)
spent-bounded task lawful limit shown spent differ all =
    spent-written task lawful (rules_of task).start (rules_of task).step (λ choices. choices) (own-written task) limit shown spent differ
    all

-- the strong form has the plain one
pub strong-plain : (leg : Leg) (used : ℕ → Bool) (limit : ℕ) (walks : List (List ℕ)) →
    IsSpentStrong leg used limit walks →
    IsSpentPlain leg used limit walks
strong-plain leg used limit walks strong = record {
  shown = strong.shown;
  distinct = λ i j less below same buffers.
      let order = strong.rising i j less below same in
      strong.apart i j less below same (covers-refl (terms_of leg) _ _ buffers (omega (arith, ints, order)));
}
