-- What it costs to come from a node to others at least, and what shows that a limit is spent before all of it
-- is known. It is said of walks that a rider may take, without a word of a search (this project's own rule).
use Rattle.std.specs.Prelude.{ℕ, pos, ◌≡◌, ◌+◌, ◌≤◌, ◌<◌, List, length, Option, Some, None}
use Rattle.std.specs.List.{Contains}
use Rattle.elev_buffer.specs.Covers.{CoversLabel, Label, label}
use Rattle.cost_model.specs.Rides.{Leg, Ride}
use Rattle.bike_space.specs.LegWalks.{HasNoWalk, IsLeastWalk, IsLegWalk, IsWalkOn, end_link, leg_cost}
use Rattle.bike_space.specs.Spent.{nth_walk, terms_of, walk_buffers}
use Rattle.cost_table.specs.declared.want.Want.{Want}
use Rattle.cost_table.specs.declared.want.Want.TheVariants.{Nodes, Within}

-- ---- What is asked

-- what is asked: on a ride, from a node, with so many labels at most
pub record Quest : Type 0 where
  pub ride : Ride
  pub source : ℕ
  pub want : Want
  pub limit : ℕ

-- the leg from the node that is left to another
abbrev pub leg_to : Quest → ℕ → Leg
leg_to quest node = record { ride = quest.ride; start = quest.source; target = node }

-- a node for which an answer is asked: one of those that are named; or any
abbrev pub IsAsked : Want → ℕ → Type 0
IsAsked (Nodes nodes) node = Contains nodes.items node
IsAsked (Within most) node = Unit {0}

-- ---- Costs

-- a walk of the leg costs this, and none costs less
pub record IsLeastCost (leg : Leg) (cost : ℕ) : Type 0 where
  pub walk : List ℕ
  pub least : IsLeastWalk leg walk
  pub costs : leg_cost leg walk ≡ cost

-- what a walk of the leg costs at least; none where it has no walk
abbrev pub IsCostOf : Leg → Option ℕ → Type 0
IsCostOf leg None = HasNoWalk leg
IsCostOf leg (Some cost) = IsLeastCost leg cost

-- a walk of the leg costs this, none costs less, and it is at most so much
pub record IsLeastWithin (leg : Leg) (most cost : ℕ) : Type 0 where
  pub least : IsLeastCost leg cost
  pub within : cost ≤ most

-- what a walk of the leg costs at least, where that is at most so much; none where each of its walks costs
-- more
abbrev pub IsCostWithin : (leg : Leg) (most : ℕ) → Option ℕ → Type 0
IsCostWithin leg most None = (walk : List ℕ) → IsLegWalk leg walk → most < leg_cost leg walk
IsCostWithin leg most (Some cost) = IsLeastWithin leg most cost

-- what is told of a leg, by what is asked
abbrev pub TellsCost : Want → Leg → Option ℕ → Type 0
TellsCost (Nodes nodes) leg cost = IsCostOf leg cost
TellsCost (Within most) leg cost = IsCostWithin leg most cost

-- these are the costs of all that is asked
abbrev pub AreCosts : (quest : Quest) (costs : ℕ → Option ℕ) → Type 0
AreCosts quest costs =
    (node : ℕ) → IsAsked quest.want node → TellsCost quest.want (leg_to quest node) (costs node)

-- ---- The evidence of a spent limit

-- the label of a walk: its buffers, and its cost
abbrev pub cost_label : Leg → List ℕ → Label
cost_label leg walk = label (walk_buffers leg walk) (pos (leg_cost leg walk))

-- so many walks of at least one link from the start of the leg. Of two that end in one link the later costs
-- no less, and the earlier doesn't make it needless
pub record AreReached (leg : Leg) (count : ℕ) (walks : List (List ℕ)) : Type 0 where
  pub counted : length walks ≡ count
  pub each : (k : ℕ) → k < length walks → IsWalkOn leg (nth_walk walks k)
  pub rising : (i j : ℕ) → i < j → j < length walks →
      end_link (nth_walk walks i) ≡ end_link (nth_walk walks j) →
      leg_cost leg (nth_walk walks i) ≤ leg_cost leg (nth_walk walks j)
  pub apart : (i j : ℕ) → i < j → j < length walks →
      end_link (nth_walk walks i) ≡ end_link (nth_walk walks j) →
      CoversLabel (terms_of leg) (cost_label leg (nth_walk walks i)) (cost_label leg (nth_walk walks j)) → ⊥

-- no walk of the leg costs less than any of these
abbrev pub CostNoMore : (leg : Leg) (walks : List (List ℕ)) → Type 0
CostNoMore leg walks = (k : ℕ) → k < length walks → (other : List ℕ) → IsLegWalk leg other →
    leg_cost leg (nth_walk walks k) ≤ leg_cost leg other

-- a node that is named, to which no walk costs less than any of these
pub record IsMissed (quest : Quest) (nodes : List ℕ) (walks : List (List ℕ)) : Type 0 where
  pub node : ℕ
  pub named : Contains nodes node
  pub below : CostNoMore (leg_to quest node) walks

-- each of these walks costs at most so much
abbrev pub AreWithin : (leg : Leg) (most : ℕ) (walks : List (List ℕ)) → Type 0
AreWithin leg most walks = (k : ℕ) → k < length walks → leg_cost leg (nth_walk walks k) ≤ most

-- the walks fall short of what is asked: of one of the nodes that are named; or of the cost
abbrev pub FallsShort : (quest : Quest) (walks : List (List ℕ)) → Want → Type 0
FallsShort quest walks (Nodes nodes) = IsMissed quest nodes.items walks
FallsShort quest walks (Within most) = AreWithin (leg_to quest quest.source) most walks

-- the evidence of a spent limit: walks that fall short of what is asked, one more than the limit
pub record IsSpentOn (quest : Quest) (walks : List (List ℕ)) : Type 0 where
  pub reached : AreReached (leg_to quest quest.source) (quest.limit + 1) walks
  pub short : FallsShort quest walks quest.want
