use Rattle.std.proofs.Common.{◌≡◌, ap, ◌∙◌, subst, take, true, false, IsTrue}
use Rattle.cost_model.specs.Rides.{ride_of}
use Rattle.overpass_graph.specs.Maps.{MapValue, link_of}
use Rattle.overpass_graph.specs.Walks.{link_at}
use Rattle.overpass_graph.specs.declared.link.Link.{Link}
use Rattle.track_legs.proofs.WalkLemmas.{stands-more, stands-only, stands-reached, stands-start}
use Rattle.track_legs.proofs.walks.is_walk.Goals as goal

pub links-preserved : goal.links-preserved
links-preserved g c =
    let terrain = g.G.TerrainOf.terrain c.args.terrain.now in
    stands-more (ride_of (record { terrain = terrain; cut = c.args.cut.now; turns = c.args.turns })) c.args.start
    c.args.walk.now c.links.place c.links.node _ c.links.last c.links-test.true c.links.invariant
    (c.may_come_next.ensures.exact.0 c.if-not-may_come_next.false)
    (ap (λ (l : Link). l.to) c.link-node.ensures.value
    ∙ ap (λ (m : MapValue). (link_of m (link_at c.args.walk.now c.links.place)).to) c.map.ensures.value)

pub links-init : goal.links-init
links-init g c =
    stands-start (ride_of (record { terrain = g.G.TerrainOf.terrain c.args.terrain.now; cut = c.args.cut.now; turns = c.args.turns }))
    c.args.start

pub may_come_next-requires : goal.may_come_next-requires
may_come_next-requires g c = record {
  reached = stands-reached
      (ride_of (record { terrain = g.G.TerrainOf.terrain c.args.terrain.now; cut = c.args.cut.now; turns = c.args.turns })) c.args.start
      (take c.links.place c.args.walk.now) c.links.node c.links.last c.links.invariant;
}

pub returns-then-not-may_come_next : goal.returns-then-not-may_come_next
returns-then-not-may_come_next g c =
    let ride = ride_of (record { terrain = g.G.TerrainOf.terrain c.args.terrain.now; cut = c.args.cut.now; turns = c.args.turns }) in
    record {
      exact = (
        λ no. (let clash : false ≡ true = no in absurd cc),
        λ is. subst IsTrue c.if-not-may_come_next.true
            (c.may_come_next.ensures.exact.1
            (stands-only ride c.args.start c.args.walk.now c.links.place c.args.target c.links.node c.links.last c.links-test.true is
            c.links.invariant)),
      );
    }
