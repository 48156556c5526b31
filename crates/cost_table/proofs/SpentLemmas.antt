-- The end of a search whose limit is spent: its evidence, in walks.
use Rattle.std.proofs.Common.{◌≡◌, ℕ, pos, ◌+◌, ◌<◌, ◌≤◌, inl, inr, false, List, length, map, Some, IsTrue, refl, sym, ap, ◌∙◌, subst, arith, Vec, Global}
use Rattle.std.proofs.lemmas.List.{length-map}
use Rattle.std.specs.List.{slice_get}
use Rattle.cost_model.specs.Labels.{label_of}
use Rattle.cost_model.specs.Rides.{Leg}
use Rattle.cost_model.specs.Walks.{pair_of}
use Rattle.cost_model.specs.declared.parts.Carry.{Carry}
use Rattle.elev_buffer.specs.Covers.{CoversLabel, label}
use Rattle.elev_buffer.proofs.CallerLemmas.{covers-test}
use Rattle.item_list.proofs.ListLemmas.{slice_get-there}
use Rattle.space_search.specs.Laws.{HasRank}
use Rattle.space_search.specs.Turns.{AreInOrder, IsClosedAndOrdered}
use Rattle.space_search.specs.View.{Reached}
use Rattle.bike_space.specs.Lawful.{IsTask}
use Rattle.bike_space.specs.LegWalks.{IsWalkTo, end_link, leg_cost}
use Rattle.bike_space.specs.Runs.{IsWalkWith}
use Rattle.bike_space.specs.Spent.{nth_walk, terms_of, walk_buffers}
use Rattle.bike_space.specs.Tasks.{Task, covers_carry, rules_of}
use Rattle.bike_space.proofs.CallerLemmas.{nth-at, parts-cover, walk-some, walk_of}
use Rattle.bike_space.proofs.LeastLemmas.{end-carried}
use Rattle.cost_table.specs.Costs.{AreReached, AreWithin, FallsShort, IsMissed, IsSpentOn, Quest, cost_label, leg_to}
use Rattle.cost_table.specs.Endless.{endless}
use Rattle.cost_table.specs.Found.{PassesBy, waits}
use Rattle.cost_table.specs.Reaches.{AreNamed, IsFoundAfter}
use Rattle.cost_table.specs.declared.found.Found.{Found}
use Rattle.cost_table.specs.declared.turn.ReachTurn.TheVariants.{Budget}
use Rattle.cost_table.specs.declared.want.Want.{Want}
use Rattle.cost_table.specs.declared.want.Want.TheVariants.{Nodes, Within}
use Rattle.cost_table.proofs.ArriveLemmas.{IsGrown, cost-of, label-walk, quest_on, walk-arrives}

-- what is known of a label that is shown, at its place
record IsShownAt (task : Task) (shown : List (Reached Carry)) (k : ℕ) : Type 0 where
  one : Reached Carry
  at : slice_get shown k ≡ Some one
  walk : nth_walk (map (walk_of task) shown) k ≡ walk_of task one
  with : IsWalkWith task (walk_of task one) one.state one.cost

-- a state at its cost is ranked by that
cost-ranked : (task : Task) (one : Reached Carry) → HasRank (endless (rules_of task)) one.state one.cost one.cost
cost-ranked task one = record { low = 0; is = refl; sum = omega arith }

module _ (task : Task) (lawful : IsTask task) (unused : (link : ℕ) → task.used link ≡ false)
    (limit : ℕ) (labels : List (Reached Carry)) (count : length labels ≡ limit + 1)
    (ordered : AreInOrder (endless (rules_of task)) labels) where
  -- the walks of these labels, which are one more than the limit
  abbrev pub spent_walks : List (List ℕ)
  spent_walks = map (walk_of task) labels

  -- the label at a place
  shown-at : (k : ℕ) → k < length spent_walks → IsShownAt task labels k
  shown-at k below =
      let t = slice_get-there labels k (omega (arith, length-map labels (walk_of task))) in
      record {
        one = t.0;
        at = t.1;
        walk = nth-at (λ choices. choices) task labels k t.0 t.1;
        with = label-walk task lawful unused _ t.0 (ordered.each k t.0 t.1);
      }

  -- the last link of its walk
  end-at : (k : ℕ) (s : IsShownAt task labels k) → end_link (nth_walk spent_walks k) ≡ s.one.state.link
  end-at k s = ap end_link s.walk ∙ end-carried task (walk_of task s.one) s.one.state s.one.cost s.with

  -- the cost of its walk
  cost-at : (k : ℕ) (s : IsShownAt task labels k) → leg_cost task.leg (nth_walk spent_walks k) ≡ s.one.cost
  cost-at k s =
      ap (leg_cost task.leg) s.walk ∙ sym (cost-of task lawful unused (walk_of task s.one)) ∙ s.with.ranks

  -- the buffers after its walk
  buffers-at : (k : ℕ) (s : IsShownAt task labels k) →
      walk_buffers task.leg (nth_walk spent_walks k) ≡ pair_of s.one.state
  buffers-at k s = ap (walk_buffers task.leg) s.walk ∙ s.with.carried.buffers

  -- of two the later costs no less
  rising-at : (i j : ℕ) → i ≤ j → (s : IsShownAt task labels i) (t : IsShownAt task labels j) → s.one.cost ≤ t.one.cost
  rising-at i j less s t =
      ordered.rising i j s.one t.one s.one.cost t.one.cost less s.at t.at (cost-ranked task s.one)
      (cost-ranked task t.one)

  -- the earlier doesn't make the later needless
  apart-at : (i j : ℕ) → i < j → (s : IsShownAt task labels i) (t : IsShownAt task labels j) →
      s.one.state.link ≡ t.one.state.link →
      CoversLabel (terms_of task.leg) (cost_label task.leg (nth_walk spent_walks i))
      (cost_label task.leg (nth_walk spent_walks j)) → ⊥
  apart-at i j less s t one covers =
      let first : cost_label task.leg (nth_walk spent_walks i) ≡ label_of s.one.state s.one.cost =
      ap (λ p. label p (pos (leg_cost task.leg (nth_walk spent_walks i)))) (buffers-at i s)
      ∙ ap (λ n. label (pair_of s.one.state) (pos n)) (cost-at i s) in
      let second : cost_label task.leg (nth_walk spent_walks j) ≡ label_of t.one.state t.one.cost =
      ap (λ p. label p (pos (leg_cost task.leg (nth_walk spent_walks j)))) (buffers-at j t)
      ∙ ap (λ n. label (pair_of t.one.state) (pos n)) (cost-at j t) in
      let both : CoversLabel (terms_of task.leg) (label_of s.one.state s.one.cost) (label_of t.one.state t.one.cost) =
      subst (CoversLabel (terms_of task.leg) (label_of s.one.state s.one.cost)) second
      (subst (λ l. CoversLabel (terms_of task.leg) l (cost_label task.leg (nth_walk spent_walks j))) first covers) in
      let yes_ : IsTrue (covers_carry task.leg s.one.state s.one.cost t.one.state t.one.cost) =
      parts-cover task.leg s.one.state t.one.state s.one.cost t.one.cost one ((covers-test _ _ _).1 both) in
      let no_ : covers_carry task.leg s.one.state s.one.cost t.one.state t.one.cost ≡ false =
      ordered.apart i j s.one t.one less s.at t.at in
      let never : ⊥ = cc in
      never

  -- the leg from the node that is left to itself
  abbrev home : Leg
  home = record { ride = task.leg.ride; start = task.leg.start; target = task.leg.start }

  -- the walks are such as are reached
  spent-reached : AreReached home (limit + 1) spent_walks
  spent-reached = record {
    counted = length-map labels (walk_of task) ∙ count;
    each = λ k below.
        let s = shown-at k below in
        let led : task.leg.ride.roads.to s.one.state.link ≡ task.leg.ride.roads.to (end_link (nth_walk spent_walks k)) =
        ap task.leg.ride.roads.to (sym (end-at k s)) in
        record {
          some = subst (λ (w : List ℕ). 0 < length w) (sym s.walk) s.with.some;
          is_walk = subst (λ n. IsWalkTo task.leg n (nth_walk spent_walks k)) led
              (subst (IsWalkTo task.leg (task.leg.ride.roads.to s.one.state.link)) (sym s.walk) s.with.is_walk);
        };
    rising = λ i j less below same.
        let s = shown-at i (omega (arith, below)) in
        let t = shown-at j below in
        omega (arith, rising-at i j (omega (arith, less)) s t, cost-at i s, cost-at j t);
    apart = λ i j less below same covers.
        let s = shown-at i (omega (arith, below)) in
        let t = shown-at j below in
        apart-at i j less s t (sym (end-at i s) ∙ same ∙ end-at j t) covers;
  }

  module _ (before : List (Reached Carry)) (last : Reached Carry) (grown : IsGrown before labels last)
      (longer : length labels ≡ length before + 1)
      (closed : IsClosedAndOrdered (endless (rules_of task)) labels (Some last.cost)) where
    -- each costs no more than the last label
    below-last : (k : ℕ) (s : IsShownAt task labels k) → k ≤ length before → s.one.cost ≤ last.cost
    below-last k s within =
        ordered.rising k (length before) s.one last s.one.cost last.cost within s.at grown.there (cost-ranked task s.one)
        (cost-ranked task last)

    -- so does its walk
    walk-below : (k : ℕ) → k < length spent_walks → leg_cost task.leg (nth_walk spent_walks k) ≤ last.cost
    walk-below k below =
        let s = shown-at k below in
        let cheap = below-last k s (omega (arith, below, length-map labels (walk_of task), longer)) in
        omega (arith, cheap, cost-at k s)

    module _ (found : Found) where
      -- where nodes are named one that waits is reached at no less
      spent-missed :
          (nodes : Vec ℕ Global) → IsFoundAfter task (quest_on task lawful unused (Nodes nodes) limit) found before →
          IsMissed (quest_on task lawful unused (Nodes nodes) limit) nodes.items spent_walks
      spent-missed nodes is =
          let quest : Quest = quest_on task lawful unused (Nodes nodes) limit in
          let are : AreNamed task nodes.items found before = is.by_want in
          let node : ℕ = are.some.0 in
          record {
            node = node;
            named = are.named node are.some.1;
            below = λ k below other leads.
                let cheap = walk-below k below in
                let some = walk-some (leg_to quest node) other
                (λ at.
                let away : waits found node ≡ false = subst (λ (n : ℕ). waits found n ≡ false) at are.away in
                let waiting = are.some.1 in
                let never : ⊥ = cc in
                never) leads in
                elim (walk-arrives task lawful unused labels (Some last.cost) closed node other some leads) [
                  | inl a ↦
                      elim (grown.each a.place a.label a.there) [
                        | inl was ↦
                            let no : waits found node ≡ false =
                            subst (λ (n : ℕ). waits found n ≡ false) a.at (are.unseen a.place a.label was) in
                            let waiting = are.some.1 in
                            let never : ⊥ = cc in
                            absurd never
                        | inr it ↦
                            let costs : a.label.cost ≡ last.cost = ap (λ (l : Reached Carry). l.cost) it in
                            omega (arith, a.cheaper, costs, cheap)
                      ]
                  | inr b ↦
                      let is_bound = b.is in
                      let one : last.cost ≡ b.bound = cc in
                      omega (arith, b.below, one, cheap)
                ];
          }

      -- the walks fall short of what is asked where the last label spends the limit
      spent-short :
          (want : Want) → PassesBy want last.cost Budget →
          IsFoundAfter task (quest_on task lawful unused want limit) found before →
          FallsShort (quest_on task lawful unused want limit) spent_walks want
      spent-short (Nodes nodes) passes is = spent-missed nodes is
      spent-short (Within most) passes is = λ k below. omega (arith, walk-below k below, passes)

      -- a spent limit has its evidence
      pub spent-known :
          (want : Want) → PassesBy want last.cost Budget →
          IsFoundAfter task (quest_on task lawful unused want limit) found before →
          IsSpentOn (quest_on task lawful unused want limit) spent_walks
      spent-known want passes is = record { reached = spent-reached; short = spent-short want passes is }
