use Rattle.std.proofs.Common.{refl, sym, ◌∙◌}
use Rattle.grid_map.specs.Rules.{costs_of}
use Rattle.grid_map.proofs.AnswerLemmas.{step_forward-none, step_forward-some}
use Rattle.grid_map.proofs.space.GridSpace.forward_step.Goals as goal

pub returns-in_err-cost : goal.returns-in_err-cost
returns-in_err-cost c = record {
  exact = c.from_residual.ensures
      ∙ step_forward-none c.args.self.now.grid.now (costs_of c.args.self.now) c.args.k (sym c.cost_in.ensures.exact ∙ c.in_err-cost.was);
}

pub returns : goal.returns
returns c = record {
  exact = step_forward-some c.args.self.now.grid.now (costs_of c.args.self.now) c.args.k _ _ c.end.ensures.exact
      (sym c.cost_in.ensures.exact ∙ c.in_ok-cost.was) (c.in_ok-cost.ensures.there refl);
}
