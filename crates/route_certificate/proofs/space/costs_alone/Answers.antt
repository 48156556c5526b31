use Rattle.std.proofs.Common.{arith}
use Rattle.bike_space.specs.Kept.{task_of}
use Rattle.bike_space.proofs.CallerLemmas.{none-behind}
use Rattle.route_certificate.proofs.SpaceLemmas.{both-ok}
use Rattle.route_certificate.proofs.space.costs_alone.Goals as goal

pub plain-requires : goal.plain-requires
plain-requires g c = record {
  start = c.requires.asked.nodes c.args.place (omega (arith, c.requires.within));
  target = c.requires.asked.nodes _ c.requires.within;
}

pub returns-clause-rests : goal.returns-clause-rests
returns-clause-rests g c =
    let terrain = g.G.TerrainOf.terrain c.args.terrain in
    both-ok (λ space wakes blind. none-behind (task_of terrain space.kept) wakes.lawful blind) c.plain.result
    c.plain.ensures.wakes c.plain.ensures.blind
