use Rattle.std.proofs.Common.{◌≡◌, ℕ, not, ◌&&◌, nat_eq, take}
use Rattle.std.specs.List.{list_any}
use Rattle.cost_table.specs.Waiting.{waits_among}
use Rattle.cost_table.proofs.found.wait_all.Given as goal

abbrev pub invariant-nodes : goal.invariant-nodes
invariant-nodes l = (q : ℕ) →
    waits_among l.waiting q ≡ (list_any (nat_eq q) (take l.node-index l.nodes) && not (nat_eq q l.source))
