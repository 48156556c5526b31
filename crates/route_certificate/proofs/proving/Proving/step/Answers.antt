use Rattle.std.proofs.Common.{IfOk, subst, sym, arith}
use Rattle.route_certificate.specs.Provings.{IsProvingFor, IsStageFor, StepsProving}
use Rattle.route_certificate.proofs.proving.Proving.step.Goals as goal

pub returns-in-Home : goal.returns-in-Home
returns-in-Home g c = record {
  steps = λ bound leg limit is.
      let terrain = g.G.TerrainOf.terrain c.args.terrain in
      let was = is.counts in
      record {
        answers = c.home_proof.ensures.least bound leg (subst (IsStageFor terrain bound leg limit) c.in-Home.is is.stage);
        fits = c.home_proof.ensures.fits terrain.map;
        goes = c.requires.some;
        within = omega (arith, was);
      };
}

pub returns-in-Opening : goal.returns-in-Opening
returns-in-Opening g c = record {
  steps = λ bound leg limit is.
      let terrain = g.G.TerrainOf.terrain c.args.terrain in
      let most = c.args.self.limit in
      let counted = c.args.self.counted in
      subst (λ s. IfOk c.open_on.result (StepsProving terrain bound leg limit c.args.quota
      (record { stage = s; limit = most; counted = counted }))) (sym c.in-Opening.is)
      (c.open_on.ensures.steps bound leg limit c.args.quota c.requires.some
      (subst (λ s. IsProvingFor terrain bound leg limit (record { stage = s; limit = most; counted = counted })) c.in-Opening.is is));
}

pub returns-in-Settling : goal.returns-in-Settling
returns-in-Settling g c = record {
  steps = λ bound leg limit is.
      let terrain = g.G.TerrainOf.terrain c.args.terrain in
      let most = c.args.self.limit in
      let counted = c.args.self.counted in
      subst (λ s. IfOk c.settle_on.result (StepsProving terrain bound leg limit c.args.quota
      (record { stage = s; limit = most; counted = counted }))) (sym c.in-Settling.is)
      (c.settle_on.ensures.steps bound leg limit
      (subst (λ s. IsProvingFor terrain bound leg limit (record { stage = s; limit = most; counted = counted })) c.in-Settling.is is));
}
