-- Where settled labels arrive: each walk arrives where a label does that costs no more, or costs at least their floor.
use Rattle.std.proofs.Common.{◌≡◌, ◌≢◌, ℕ, ◌+◌, ◌<◌, ◌≤◌, ◌⊎◌, inl, inr, false, List, [], length, Option, Some, refl, sym, ap, ◌∙◌, subst, arith}
use Rattle.std.specs.List.{slice_get}
use Rattle.cost_model.specs.declared.parts.Carry.{Carry}
use Rattle.overpass_graph.specs.Walks.{link_at}
use Rattle.space_search.specs.Turns.{IsClosedAndOrdered, IsPassed, covered, hopeless, ranks}
use Rattle.space_search.specs.View.{KeepsPlaces, Reached}
use Rattle.space_search.proofs.CallerLemmas.{run-done, run-valid}
use Rattle.item_list.proofs.ListLemmas.{slice_get-there}
use Rattle.std.proofs.lemmas.Bool.{cases_eq}
use Rattle.std.proofs.lemmas.Option.{slice_get_within}
use Rattle.bike_space.specs.Alternatives.{is_used}
use Rattle.bike_space.specs.Lawful.{IsTask}
use Rattle.bike_space.specs.LegWalks.{IsWalkTo, leg_cost, leg_rank}
use Rattle.bike_space.specs.Runs.{IsWalkWith}
use Rattle.bike_space.specs.Tasks.{Task, rules_of, walk_by}
use Rattle.bike_space.proofs.CallerLemmas.{covers-parts, empty-least, first-least, keeps-laws, rank-agrees, run-walk, walk-run, walk-some}
use Rattle.bike_space.proofs.LeastLemmas.{arrives-one}
use Rattle.cost_table.specs.Costs.{IsLeastCost, Quest, leg_to}
use Rattle.cost_table.specs.Endless.{endless}
use Rattle.cost_table.specs.Reaches.{arrival}
use Rattle.cost_table.specs.declared.want.Want.{Want}
use Rattle.cost_table.proofs.EndlessLemmas.{endless-even, endless-laws, endless-run, run-endless}

-- ---- Lists that grow

-- labels, and those before them with one more, the last
pub record IsGrown (before after : List (Reached Carry)) (last : Reached Carry) : Type 0 where
  pub there : slice_get after (length before) ≡ Some last
  pub each : (place : ℕ) (label : Reached Carry) → slice_get after place ≡ Some label →
      (slice_get before place ≡ Some label) ⊎ (label ≡ last)

-- a label whose place is one of those before is the one that was there
pub place-before :
    (before after : List (Reached Carry)) → KeepsPlaces before after → (place : ℕ) (label : Reached Carry) →
    place < length before → slice_get after place ≡ Some label → slice_get before place ≡ Some label
place-before before after kept place label below at =
    let was = slice_get-there before place below in
    let now = kept place was.0 was.1 in
    let same : was.0 ≡ label = cc in
    was.1 ∙ ap Some same

-- places that are kept, and one more
pub grown-by :
    (before after : List (Reached Carry)) (last : Reached Carry) → KeepsPlaces before after →
    length after ≡ length before + 1 → slice_get after (length before) ≡ Some last → IsGrown before after last
grown-by before after last kept longer there = record {
  there = there;
  each = λ place label at.
      let within = slice_get_within after place label at in
      elim (below-or-at place (length before) (omega (arith, within, longer))) [
        | inl below ↦ inl (place-before before after kept place label below at)
        | inr is ↦
            let here : slice_get after (length before) ≡ Some label =
            subst (λ (n : ℕ). slice_get after n ≡ Some label) is at in
            let same : last ≡ label = cc in
            inr (sym same)
      ];
}
  where
    below-or-at : (place count : ℕ) → place < count + 1 → (place < count) ⊎ (place ≡ count)
    below-or-at place count h =
        elim (cases_eq place count) [ inl same ↦ inr same | inr differ ↦ inl (omega (arith, differ)) ]

module _ (task : Task) (lawful : IsTask task) (unused : (link : ℕ) → task.used link ≡ false) where
  -- ---- Labels and walks

  -- the rank of a walk is its cost
  pub cost-of : (walk : List ℕ) → leg_rank task.leg task.used walk ≡ leg_cost task.leg walk
  cost-of walk = rank-agrees task.leg task.used (is_used []) walk (λ k below. unused (link_at walk k))

  -- a settled label is a walk
  pub label-walk :
      (most : ℕ) (label : Reached Carry) → IsPassed (endless (rules_of task)) most label →
      IsWalkWith task (walk_by task.leg label.choices) label.state label.cost
  label-walk most label passed =
      run-walk task label.choices label.state label.cost (run-endless (rules_of task) passed.run.run)

  -- a label that arrives at a node, at no more than a cost
  pub record IsArrived (labels : List (Reached Carry)) (node cost : ℕ) : Type 0 where
    pub place : ℕ
    pub label : Reached Carry
    pub there : slice_get labels place ≡ Some label
    pub at : arrival task label ≡ node
    pub cheaper : label.cost ≤ cost

  -- the cost is at least the floor
  pub record IsBeyond (floor : Option ℕ) (cost : ℕ) : Type 0 where
    pub bound : ℕ
    pub is : floor ≡ Some bound
    pub below : bound ≤ cost

  -- a walk arrives where a settled label does, or costs at least the floor
  pub walk-arrives :
      (labels : List (Reached Carry)) (floor : Option ℕ) → IsClosedAndOrdered (endless (rules_of task)) labels floor →
      (node : ℕ) (walk : List ℕ) → 0 < length walk → IsWalkTo task.leg node walk →
      IsArrived labels node (leg_cost task.leg walk) ⊎ IsBeyond floor (leg_cost task.leg walk)
  walk-arrives labels floor closed node walk some is =
      let rules = rules_of task in
      let laws = endless-laws rules (keeps-laws task lawful) in
      let r = walk-run task walk node some is in
      let rank : ℕ = leg_rank task.leg task.used walk in
      let paid : rank ≡ leg_cost task.leg walk = cost-of walk in
      let with = run-walk task r.choices r.end rank r.run in
      let led : IsWalkTo task.leg (task.leg.ride.roads.to r.end.link) walk =
      subst (IsWalkTo task.leg (task.leg.ride.roads.to r.end.link)) r.is with.is_walk in
      let at : task.leg.ride.roads.to r.end.link ≡ node = arrives-one task.leg _ _ walk some led is in
      let run = endless-run rules r.run in
      let valid = run-valid (endless rules) laws run in
      elim (run-done (endless rules) laws (endless-even rules) labels floor closed run) [
        | covered c ↦
            let passed = closed.ordered.each c.place c.label c.there in
            let one : c.label.state.link ≡ r.end.link =
            (covers-parts task.leg c.label.state r.end c.label.cost rank c.covers).0 in
            inl (record {
              place = c.place;
              label = c.label;
              there = c.there;
              at = ap task.leg.ride.roads.to one ∙ at;
              cheaper = omega (
                arith,
                laws.covering.cheaper c.label.state r.end c.label.cost rank passed.valid valid c.covers,
                paid,
              );
            })
        | hopeless none ↦ absurd (cc)
        | ranks bound high at_floor ranked up ↦
            let none : 0 ≡ ranked.low = let low_is = ranked.is in cc in
            inr (record { bound = bound; is = at_floor; below = omega (arith, up, ranked.sum, none, paid) })
      ]

  module _ (want : Want) (limit : ℕ) where
    -- what is asked
    abbrev pub quest_on : Quest
    quest_on = record { ride = task.leg.ride; source = task.leg.start; want = want; limit = limit }

    -- the node that is left has cost 0
    pub home-least : IsLeastCost (leg_to quest_on task.leg.start) 0
    home-least = record {
      walk = [];
      least = first-least (leg_to quest_on task.leg.start) []
          (empty-least (leg_to quest_on task.leg.start) (is_used []) refl);
      costs = refl;
    }

    -- the cost of a label is least where no label before it arrives at its node
    pub last-least :
        (labels : List (Reached Carry)) (place : ℕ) (last : Reached Carry) → slice_get labels place ≡ Some last →
        IsClosedAndOrdered (endless (rules_of task)) labels (Some last.cost) → arrival task last ≢ task.leg.start →
        ((other : ℕ) (label : Reached Carry) → slice_get labels other ≡ Some label →
        arrival task label ≡ arrival task last → label ≡ last) →
        IsLeastCost (leg_to quest_on (arrival task last)) last.cost
    last-least labels place last there closed away alone =
        let with = label-walk _ last (closed.ordered.each place last there) in
        let walk : List ℕ = walk_by task.leg last.choices in
        let paid : leg_cost task.leg walk ≡ last.cost = sym (cost-of walk) ∙ with.ranks in
        record {
          walk = walk;
          least = record {
            is_walk = with.is_walk;
            least = λ other is.
                let some = walk-some (leg_to quest_on (arrival task last)) other (λ same. away (sym same)) is in
                elim (walk-arrives labels (Some last.cost) closed (arrival task last) other some is) [
                  | inl a ↦
                      let same : a.label.cost ≡ last.cost =
                      ap (λ (l : Reached Carry). l.cost) (alone a.place a.label a.there a.at) in
                      omega (arith, a.cheaper, same, paid)
                  | inr b ↦
                      let same : last.cost ≡ b.bound = let is = b.is in cc in
                      omega (arith, b.below, same, paid)
                ];
          };
          costs = paid;
        }
