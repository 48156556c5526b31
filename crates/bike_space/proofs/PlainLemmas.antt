-- A space of a leg in which no segment is used, and whose lower bound says nothing.
use Rattle.std.proofs.Common.{◌≡◌, ℕ, ℤ, pos, ◌<◌, Bool, false, ◌&&◌, int_le, nat_lt, List, [], get_or, Option, Some, None, ap, ◌∙◌, subst, arith}
use Rattle.std.proofs.lemmas.List.{get_or_past}
use Rattle.cost_model.specs.Rides.{Leg}
use Rattle.cost_model.specs.declared.parts.Carry.{Carry}
use Rattle.cost_model.proofs.CallerLemmas.{empty-held}
use Rattle.least_sums.specs.Prices.{Prices}
use Rattle.least_sums.specs.Sums.{AreLeastSumsUpTo, IsLeastSumUpTo, NodeSums, sum_of}
use Rattle.overpass_graph.specs.Roads.{Roads}
use Rattle.space_search.specs.Laws.{IsBlind}
use Rattle.bike_space.specs.Lawful.{IsTask}
use Rattle.bike_space.specs.Marks.{is_marked}
use Rattle.bike_space.specs.Tasks.{Task, is_carried, rules_of}
use Rattle.bike_space.proofs.CarryLemmas.{carried-is, is-carried}

-- no number is marked in a list without marks
pub unmarked : (marks : List Bool) → marks ≡ [] → (link : ℕ) → is_marked marks link ≡ false
unmarked marks none link = ap (λ (l : List Bool). get_or l link false) none ∙ get_or_past [] link false (omega arith)

-- up to a radius of 0 each least sum is 0
least-none : (roads : Roads) (prices : Prices) (target node : ℕ) (sum : Option ℕ) →
    IsLeastSumUpTo roads prices target (Some 0) node sum → sum ≡ Some 0
least-none roads prices target node None none = absurd none
least-none roads prices target node (Some sum) is =
    let none : sum ≡ 0 = omega (arith, is.within) in ap Some none

-- so are those that are found for the nodes of a map
pub sums-none : (roads : Roads) (prices : Prices) (target : ℕ) (low : NodeSums) → low.radius ≡ Some 0 →
    AreLeastSumsUpTo roads prices target low → (node : ℕ) → node < roads.nodes → sum_of low.sums node ≡ Some 0
sums-none roads prices target low none are node within =
    least-none roads prices target node _
    (subst (λ r. IsLeastSumUpTo roads prices target r node (sum_of low.sums node)) none (are.least node within))

-- a bound of 0 behind each link says nothing
pub none-blind : (task : Task) → ((link : ℕ) → link < task.leg.ride.roads.links → task.low link ≡ Some 0) →
    IsBlind (rules_of task)
none-blind task none state valid = none state.link (carried-is task.leg state valid).0

-- one that says nothing is 0 behind each link
pub none-behind : (task : Task) → IsTask task → IsBlind (rules_of task) → (link : ℕ) → link < task.leg.ride.roads.links →
    task.low link ≡ Some 0
none-behind task lawful blind link within =
    blind (record { link = link; down = pos 0; up = pos 0 })
    (is-carried task.leg _ within (empty-held task.leg.ride.prices lawful.prices))

-- ---- The test of a state

-- a state is one of a leg by the numbers of its terrain
pub carried-by : (leg : Leg) (carry : Carry) (links : ℕ) (most : ℤ) → links ≡ leg.ride.roads.links →
    most ≡ leg.ride.prices.limits.most →
    (nat_lt carry.link links && ((int_le (pos 0) carry.down && int_le carry.down most)
    && (int_le (pos 0) carry.up && int_le carry.up most))) ≡ is_carried leg carry
unfolding is_carried
carried-by leg carry links most is_links is_most =
    ap (λ (n : ℕ). nat_lt carry.link n && ((int_le (pos 0) carry.down && int_le carry.down most)
    && (int_le (pos 0) carry.up && int_le carry.up most))) is_links
    ∙ ap (λ (m : ℤ). nat_lt carry.link leg.ride.roads.links && ((int_le (pos 0) carry.down && int_le carry.down m)
    && (int_le (pos 0) carry.up && int_le carry.up m))) is_most
