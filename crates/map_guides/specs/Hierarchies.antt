-- The hierarchy of a map while it is made in spells (this project's own rule).
use Rattle.std.specs.Prelude.{◌≡◌, ◌<◌, ◌≤◌, ℕ, Bool, true, false, Option, Some, None}
use Rattle.std.specs.declared.alloc.Global.{Global}
use Rattle.std.specs.declared.rc.Rc.{Rc}
use Rattle.link_order.specs.Orderings.{left_of, links_of}
use Rattle.link_order.specs.declared.ordering.Ordering.{Ordering}
use Rattle.map_guides.specs.declared.hierarchy_making.HierarchyMaking.{HierarchyMaking}
use Rattle.map_guides.specs.declared.hierarchy_making.HierarchyMaking.TheVariants as making
use Rattle.overpass_graph.specs.Roads.{Roads}
use Rattle.ride_bounds.specs.Hierarchies.{IsMapElimination, IsMapHierarchy}
use Rattle.ride_bounds.specs.declared.hierarchy.MapHierarchy.{MapHierarchy}

-- how far the hierarchy of a map is: all of its links are put in order, or are eliminated, or it is that of the map
abbrev pub IsHierarchyMaking : Roads → HierarchyMaking → Type 0
IsHierarchyMaking roads making.Unbegun = Unit {0}
IsHierarchyMaking roads (making.Ordering it) = links_of it ≡ roads.links
IsHierarchyMaking roads (making.Eliminating it) = IsMapElimination roads it
IsHierarchyMaking roads (making.Made it) = IsMapHierarchy roads it.value
IsHierarchyMaking roads making.GivenUp = Unit {0}

-- it is made or given up
abbrev pub is_over_of : HierarchyMaking → Bool
is_over_of making.Unbegun = false
is_over_of (making.Ordering it) = false
is_over_of (making.Eliminating it) = false
is_over_of (making.Made it) = true
is_over_of making.GivenUp = true

-- the hierarchy, where it is made
abbrev pub made_of : HierarchyMaking → Option (Rc MapHierarchy Global)
made_of making.Unbegun = None
made_of (making.Ordering it) = None
made_of (making.Eliminating it) = None
made_of (making.Made it) = Some it
made_of making.GivenUp = None

-- ---- It goes on

-- its stages in their order
abbrev pub stage_of : HierarchyMaking → ℕ
stage_of making.Unbegun = 0
stage_of (making.Ordering it) = 1
stage_of (making.Eliminating it) = 2
stage_of (making.Made it) = 3
stage_of making.GivenUp = 3

-- where an ordering goes on it has fewer steps left
abbrev pub OrdersFewer : Ordering → HierarchyMaking → Type 0
OrdersFewer before making.Unbegun = Unit {0}
OrdersFewer before (making.Ordering after) = left_of after < left_of before
OrdersFewer before (making.Eliminating it) = Unit {0}
OrdersFewer before (making.Made it) = Unit {0}
OrdersFewer before making.GivenUp = Unit {0}

-- it doesn't go back to an earlier stage, and where it stays an ordering, that has fewer steps left
pub record IsOnward (before after : HierarchyMaking) : Type 0 where
  pub stage : stage_of before ≤ stage_of after
  pub fewer : (it : Ordering) → before ≡ making.Ordering it → OrdersFewer it after
