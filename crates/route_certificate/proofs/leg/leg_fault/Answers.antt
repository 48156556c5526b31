use Rattle.std.proofs.Common.{◌≡◌, ◌∙◌, ap, sym, subst, Ok, None, IfOk}
use Rattle.cost_model.specs.Rides.{Leg, Terrain}
use Rattle.bike_space.specs.Kept.{task_of}
use Rattle.bike_space.specs.LegWalks.{IsLeastWalk}
use Rattle.route_certificate.specs.Legs.{AreRestsBelow, IsFirstFault, IsWalkOf}
use Rattle.route_certificate.proofs.leg.leg_fault.Goals as goal

pub space_fault-requires : goal.space_fault-requires
space_fault-requires g c =
    let kept = c.in_ok-space.space.kept in
    let same = ap (λ (t : Terrain). (task_of t kept).leg) (ap g.G.TerrainOf.terrain c.in_ok-space.ensures.terrain)
    ∙ c.in_ok-space.ensures.leg in
    record {
      unused = c.in_ok-space.ensures.unused;
      walk = subst (λ (leg : Leg). IsWalkOf leg c.args.proof.now) (sym same)
          (c.is_walk_of.ensures.exact.0 c.if-not-is_walk_of.false);
    }

pub returns : goal.returns
returns g c =
    let kept = c.in_ok-space.space.kept in
    let same = ap (λ (t : Terrain). (task_of t kept).leg) (ap g.G.TerrainOf.terrain c.in_ok-space.ensures.terrain)
    ∙ c.in_ok-space.ensures.leg in
    let rests = subst (λ (t : Terrain). AreRestsBelow c.args.bound (task_of t kept).leg c.args.proof.now.cost (task_of t kept).low)
    (sym (ap g.G.TerrainOf.terrain c.in_ok-space.ensures.terrain)) c.in_ok-space.ensures.rests in
    record {
      exact = subst (λ (leg : Leg). IfOk c.space_fault.result (IsFirstFault c.args.bound leg c.args.proof.now)) same
          (c.space_fault.ensures.exact c.args.bound rests);
      least = subst (λ (leg : Leg). c.space_fault.result ≡ Ok None → IsLeastWalk leg c.args.proof.now.walk.items) same
          c.space_fault.ensures.least;
      fits = c.space_fault.ensures.fits;
    }
