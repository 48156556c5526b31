use Rattle.std.proofs.Common.{◌≡◌, ◌+◌, ◌-◌, ◌≤◌}
use Rattle.cost_table.specs.Reaches.{cost_in}
use Rattle.route_engine.specs.Listings.{IsListedBelow}
use Rattle.route_engine.proofs.listing.Listing.looked.Given as goal

abbrev pub invariant-nodes : goal.invariant-nodes
invariant-nodes l =
    IsListedBelow (cost_in l.reach) l.node l.list.items × (l.fn.self.node + l.spent ≤ l.node) × (l.node ≤ l.nodes) × (l.spent ≤ l.room)
    × (l.spent ≡ 0 → l.node ≡ l.fn.self.node)

abbrev pub decreases-nodes : goal.decreases-nodes
decreases-nodes l = l.room - l.spent
