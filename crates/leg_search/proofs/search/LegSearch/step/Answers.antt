use Rattle.std.proofs.Common.{IfOk, length, subst, sym}
use Rattle.leg_search.specs.Steps.{CountsLegStep}
use Rattle.leg_search.proofs.search.LegSearch.step.Goals as goal

pub returns-in-Opening-clause-counts : goal.returns-in-Opening-clause-counts
returns-in-Opening-clause-counts g c =
    let links = length (g.G.TerrainOf.terrain c.args.terrain).map.links in
    let aim = c.args.self.aim in
    subst (λ s. IfOk c.open_on.result (CountsLegStep links c.args.quota (record { stage = s; aim = aim }))) (sym c.in-Opening.is)
    (c.open_on.ensures.counts c.args.quota c.requires.some)
