use Rattle.std.proofs.Common.{◌≡◌, inl, inr, ℕ, ◌≤◌, List, Bool, arith, subst, sym}
use Rattle.std.proofs.lemmas.Bool.{cases_eq}
use Rattle.cost_table.specs.Reaches.{cost_in}
use Rattle.route_engine.specs.Listings.{AreMarked}
use Rattle.route_engine.proofs.listing.Listing.looked.Goals as goal
use Rattle.route_engine.proofs.listing.Listing.looked.Goals.{then-nodes-test+else-node-nodes, else-nodes-test}

pub look-requires-clause-marked : goal.look-requires-clause-marked
look-requires-clause-marked c =
    subst (λ (marks : List Bool). AreMarked (cost_in c.args.self.reach) marks) (sym c.as_slice.ensures.value) c.requires.on.marked

pub returns-clause-counts : goal.returns-clause-counts
returns-clause-counts c = elim c.nodes-test.branch [
  | then-nodes-test+else-node-nodes w ↦ elim (cases_eq c.nodes.spent 0) [
    | inl none ↦
        let same = c.nodes.invariant.4 none in
        absurd (omega (arith, same, w.if-node-nodes, c.requires.left))
    | inr some ↦ omega (arith, some)
  ]
  | else-nodes-test w ↦ omega (arith, w.nodes-test, c.requires.some)
]
