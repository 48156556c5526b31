use Rattle.std.proofs.Common.{◌+◌, ◌≤◌, arith, length, subst}
use Rattle.least_sums.specs.Findings.{most_found}
use Rattle.ride_bounds.specs.Guides.{IsGuided}
use Rattle.std.proofs.lemmas.Result.{IfOk-weaker}
use Rattle.leg_search.proofs.AnewLemmas.{begins-other, may-fewer, may-other}
use Rattle.leg_search.proofs.anew.begin_anew.Goals as goal

pub begin_guided-requires-clause-may : goal.begin_guided-requires-clause-may
begin_guided-requires-clause-may g c =
    may-other (g.G.TerrainOf.terrain c.args.terrain) c.args.kept c.args.aim _ c.requires.may

pub begin_guided-requires-clause-fits : goal.begin_guided-requires-clause-fits
begin_guided-requires-clause-fits g c =
    subst (IsGuided (g.G.TerrainOf.terrain c.args.terrain)) c.in-Some.is c.requires.may.guided

pub begin_whole-requires-clause-may : goal.begin_whole-requires-clause-may
begin_whole-requires-clause-may g c =
    let terrain = g.G.TerrainOf.terrain c.args.terrain in
    may-fewer terrain c.args.kept _ (c.args.aim.limit + (most_found (length terrain.map.links) + c.args.aim.limit)) _ (omega arith)
    (may-other terrain c.args.kept c.args.aim _ c.requires.may)

pub returns-in-Some : goal.returns-in-Some
returns-in-Some g c =
    let terrain = g.G.TerrainOf.terrain c.args.terrain in
    record {
      begins = IfOk-weaker c.begin_guided.result _ _ (λ next begins. begins-other terrain c.args.kept c.args.aim 3 3 next (omega arith) begins)
          c.begin_guided.ensures.begins;
    }

pub returns-in-None : goal.returns-in-None
returns-in-None g c =
    let terrain = g.G.TerrainOf.terrain c.args.terrain in
    record {
      begins = IfOk-weaker c.begin_whole.result _ _ (λ next begins. begins-other terrain c.args.kept c.args.aim 2 3 next (omega arith) begins)
          c.begin_whole.ensures.begins;
    }
