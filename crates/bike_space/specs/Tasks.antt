-- What is searched on a leg: states are what a walk carries from link to link, starts and steps are choices
-- among the links that leave a node, and their prices are those of a rank (this project's own rule).
use Rattle.std.specs.Prelude.{ℕ, pos, Bool, not, ◌&&◌, nat_eq, nat_lt, int_le, if◌then◌else◌, List, [], ◌∷◌, length, get_or, Option, Some, None}
use Rattle.cost_model.specs.Labels.{label_of}
use Rattle.cost_model.specs.Parts.{entry_cost}
use Rattle.cost_model.specs.Walks.{carry_after, empty_pair, pair_of}
use Rattle.cost_model.specs.Prices.{Prices}
use Rattle.cost_model.specs.declared.facts.LinkFacts.{LinkFacts}
use Rattle.cost_model.specs.declared.parts.Carry.{Carry}
use Rattle.elev_buffer.specs.Covers.{covers_label}
use Rattle.elev_buffer.specs.Slots.{slot_of, slots_of}
use Rattle.elev_buffer.specs.Sums.{sums_of}
use Rattle.elev_buffer.specs.declared.labels.Pair.{Pair}
use Rattle.elev_buffer.specs.declared.sums.Sums.{Sums}
use Rattle.overpass_graph.specs.Roads.{Roads, out_links}
use Rattle.space_search.specs.Rules.{Rules}
use Rattle.space_search.specs.declared.point.Point.{Point}
use Rattle.cost_model.specs.Rides.{Leg}
use Rattle.bike_space.specs.Spent.{terms_of}

-- a search on a leg: the links whose segments were used, and for each link what still has to be paid behind it
-- at least. Without a radius that is the least sum of the low forms of what it costs
pub record Task : Type 0 where
  pub leg : Leg
  pub used : ℕ → Bool
  pub low : ℕ → Option ℕ
  pub radius : Option ℕ

-- the link of a choice: the one at this place among those that leave a node, ascending
abbrev pub chosen : Roads → ℕ → ℕ → ℕ
chosen roads node choice = get_or (out_links roads node) choice 0

-- the walk of choices from a node on
abbrev pub links_from : Roads → ℕ → List ℕ → List ℕ
links_from roads node [] = []
links_from roads node (choice ∷ choices) =
    chosen roads node choice ∷ links_from roads (roads.to (chosen roads node choice)) choices

-- the walk of choices from the start of a leg
abbrev pub walk_by : Leg → List ℕ → List ℕ
walk_by leg choices = links_from leg.ride.roads leg.start choices

-- both buffers lie within 0 and the most
abbrev pub is_within : Prices → Pair → Bool
is_within prices pair =
    (int_le (pos 0) pair.down && int_le pair.down prices.limits.most)
    && (int_le (pos 0) pair.up && int_le pair.up prices.limits.most)

-- what a walk may carry: its last link is one of the leg, and both buffers are held
unfoldable pub is_carried : Leg → Carry → Bool
is_carried leg carry = nat_lt carry.link leg.ride.roads.links && is_within leg.ride.prices (pair_of carry)

-- what entering a link costs, after another link or as the first, with these buffers before it
abbrev pub price_of : Task → Option LinkFacts → ℕ → Pair → ℕ
price_of task before link pair = entry_cost task.leg.ride.prices (task.used link) before
    (task.leg.ride.facts link) pair

-- what is carried on from a link that is entered with these buffers, and what entering it costs
unfoldable pub entered : Task → Option LinkFacts → ℕ → Pair → Carry × ℕ
entered task before link pair =
    (carry_after task.leg.ride.prices link (task.leg.ride.facts link) pair, price_of task before link pair)

-- a walk may go on by a link after its last link, which leaves the node where that arrives: it is open,
-- doesn't go back and isn't forbidden
unfoldable pub may_take : Leg → ℕ → ℕ → Bool
may_take leg last link =
    leg.ride.is_open link && (not (nat_eq (leg.ride.roads.to link) (leg.ride.roads.from last)) &&
    not (leg.ride.forbids last link))

-- the start of a link that is open
abbrev pub start_by : Task → ℕ → Option (Carry × ℕ)
start_by task link = if task.leg.ride.is_open link then Some (entered task None link empty_pair) else None

-- the step by a link
abbrev pub step_by : Task → Carry → ℕ → Option (Carry × ℕ)
step_by task carry link =
    if may_take task.leg carry.link link
    then Some (entered task (Some (task.leg.ride.facts carry.link)) link (pair_of carry)) else None

-- what is carried makes something else that is carried needless: they end in one link, and the one label
-- covers the other
unfoldable pub covers_carry : (leg : Leg) (a : Carry) (a_cost : ℕ) (b : Carry) (b_cost : ℕ) → Bool
covers_carry leg a a_cost b b_cost =
    nat_eq a.link b.link && covers_label (terms_of leg) (label_of a a_cost) (label_of b b_cost)

-- how many slots the labels of a leg have
abbrev pub slots_on : Leg → ℕ
slots_on leg = slots_of (terms_of leg).modes leg.ride.roads.links

-- the slot of what is carried: by its link, and by each buffer that must be equal
abbrev pub slot_on : Leg → Carry → ℕ
slot_on leg carry = slot_of (slots_on leg) (terms_of leg).modes carry.link (pair_of carry)

-- the point of three numbers of a label
abbrev pub point_of : Sums → Point
point_of sums = record { x = sums.down; y = sums.up; z = sums.both }

-- the point of what is carried at a cost: the three numbers of its label
abbrev pub point_on : Leg → Carry → ℕ → Point
point_on leg carry cost = point_of (sums_of (terms_of leg) (label_of carry cost))

-- the space that is searched
abbrev pub rules_of : Task → Rules Carry
rules_of task = record {
  is_valid = is_carried task.leg;
  cells = task.leg.ride.roads.links;
  cell = λ carry. carry.link;
  slots = slots_on task.leg;
  slot = slot_on task.leg;
  starts = length (out_links task.leg.ride.roads task.leg.start);
  start = λ choice. start_by task (chosen task.leg.ride.roads task.leg.start choice);
  steps = λ carry. length (out_links task.leg.ride.roads (task.leg.ride.roads.to carry.link));
  step = λ carry choice. step_by task carry (chosen task.leg.ride.roads (task.leg.ride.roads.to carry.link)
      choice);
  is_goal = λ carry. nat_eq (task.leg.ride.roads.to carry.link) task.leg.target;
  covers = covers_carry task.leg;
  point = point_on task.leg;
  low = λ carry. task.low carry.link;
}
