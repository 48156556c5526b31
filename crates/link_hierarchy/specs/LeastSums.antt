-- The least sum from a node to one of several, as a function of a topology and its weights (this project's own rule).
use Rattle.std.specs.Prelude.{ℕ, zero, suc, ◌+◌, ◌-◌, ◌&&◌, nat_le, if◌then◌else◌, min, List, length, replicate, set, get_or, Option, Some, None}
use Rattle.link_hierarchy.specs.Topologies.{Topology, Weights, Half, back_of, head_of, into_of, out_of, start_of, up_of}
use Rattle.link_hierarchy.specs.Potentials.{at}
use Rattle.link_hierarchy.specs.declared.limits.TheConstants.{FAR, NONE, UNKNOWN}

-- the number of two sums, one after the other: a number above the limit stands for none
abbrev pub plus_of : ℕ → ℕ → ℕ
plus_of a b = if nat_le a FAR && nat_le b FAR then min FAR (a + b) else NONE

-- how many places a node has
abbrev pub places_of : Half → ℕ → ℕ
places_of half node = start_of half (node + 1) - start_of half node

-- ---- Walks that only go down

-- the first targets have the number 0, all other nodes none
abbrev pub begun_of : (nodes : ℕ) (targets : List ℕ) (count : ℕ) → List ℕ
begun_of nodes targets zero = replicate nodes NONE
begun_of nodes targets (suc count) = set (begun_of nodes targets count) (get_or targets count 0) 0

-- a node's number, where it is taken by a number
abbrev pub lowered : (numbers : List ℕ) (node number : ℕ) → List ℕ
lowered numbers node number = set numbers node (min (at numbers node) number)

-- the numbers down, with the edges from the first tails above a node to it
abbrev pub spread_of : (topology : Topology) (weights : Weights) (node : ℕ) (old : List ℕ) (count : ℕ) → List ℕ
spread_of topology weights node old zero = old
spread_of topology weights node old (suc count) =
    lowered (spread_of topology weights node old count) (head_of (into_of topology) (start_of (into_of topology) node + count))
    (plus_of (back_of weights (start_of (into_of topology) node + count)) (at old node))

-- the numbers of walks that only go down to a target, by the edges to the first nodes
abbrev pub down_of : (topology : Topology) (weights : Weights) (targets : List ℕ) (count : ℕ) → List ℕ
down_of topology weights targets zero = begun_of topology.nodes targets (length targets)
down_of topology weights targets (suc node) =
    spread_of topology weights node (down_of topology weights targets node) (places_of (into_of topology) node)

-- ---- All walks

-- a node's number by that of walks down and the edges to the first heads above it
abbrev pub over_of : (topology : Topology) (weights : Weights) (down over : List ℕ) (node count : ℕ) → ℕ
over_of topology weights down over node zero = at down node
over_of topology weights down over node (suc count) =
    min (over_of topology weights down over node count)
    (plus_of (out_of weights (start_of (up_of topology) node + count))
    (at over (head_of (up_of topology) (start_of (up_of topology) node + count))))

-- the numbers of so many nodes, from the most important one
abbrev pub sums_of : (topology : Topology) (weights : Weights) (down : List ℕ) (count : ℕ) → List ℕ
sums_of topology weights down zero = replicate topology.nodes UNKNOWN
sums_of topology weights down (suc count) =
    set (sums_of topology weights down count) (topology.nodes - suc count)
    (over_of topology weights down (sums_of topology weights down count) (topology.nodes - suc count)
    (places_of (up_of topology) (topology.nodes - suc count)))

-- what a number tells
abbrev pub told_of : ℕ → Option ℕ
told_of number = if nat_le number FAR then Some number else None

-- the least sum from a node to one of several or the limit, whichever is less; none where no walk leads to one
unfoldable pub least_sum_of : (topology : Topology) (weights : Weights) (targets : List ℕ) (node : ℕ) → Option ℕ
least_sum_of topology weights targets node =
    told_of (at (sums_of topology weights (down_of topology weights targets topology.nodes) topology.nodes) node)
