use Rattle.std.proofs.Common.{◌+◌, ◌-◌, ◌*◌, ◌<◌, ap, ◌∙◌, arith}
use Rattle.grid_map.specs.Space.{step_backward}
use Rattle.grid_map.specs.Rules.{costs_of}
use Rattle.grid_map.proofs.AnswerLemmas.{step_of-is_east, step_of-is_north, step_of-no_west, step_of-is_west, step_of-no_south, step_of-is_south}
use Rattle.grid_map.proofs.space.GridSpaceSpace.step.Goals as goal

pub returns-in_err-checked_sub-in-2 : goal.returns-in_err-checked_sub-in-2
returns-in_err-checked_sub-in-2 c =
    let first : c.args.state.now < 1 = omega (arith, c.in_err-checked_sub-in-2.ensures) in
    record { value = c.from_residual.ensures ∙ step_of-no_west c.args.self.now.grid.now (costs_of c.args.self.now) _ _ c.in-2.is first }

pub returns-in_err-checked_sub-in_default : goal.returns-in_err-checked_sub-in_default
returns-in_err-checked_sub-in_default c =
    let last : 2 < c.args.number = omega arith in
    let first : c.args.state.now < c.args.self.now.grid.now.width =
    omega (arith, c.in_err-checked_sub-in_default.ensures, c.width.ensures.exact) in
    record {
      value = c.from_residual-in_err-checked_sub-in_default.ensures
          ∙ step_of-no_south c.args.self.now.grid.now (costs_of c.args.self.now) _ _ last first;
    }

pub returns-in-0 : goal.returns-in-0
returns-in-0 c =
    record { value = c.forward_step.ensures.exact ∙ step_of-is_east c.args.self.now.grid.now (costs_of c.args.self.now) _ _ c.in-0.is }

pub returns-in-1 : goal.returns-in-1
returns-in-1 c =
    record {
      value = c.forward_step-in-1.ensures.exact
          ∙ step_of-is_north c.args.self.now.grid.now (costs_of c.args.self.now) _ _ c.in-1.is;
    }

pub returns-in_ok-checked_sub-in-2 : goal.returns-in_ok-checked_sub-in-2
returns-in_ok-checked_sub-in-2 c =
    let found = c.in_ok-checked_sub-in-2.ensures in
    record {
      value = c.backward_step.ensures.exact
          ∙ ap (λ west. step_backward c.args.self.now.grid.now (costs_of c.args.self.now) (2 * west)) found.1
          ∙ step_of-is_west c.args.self.now.grid.now (costs_of c.args.self.now) _ _ c.in-2.is found.0;
    }

pub returns-in_ok-checked_sub-in_default : goal.returns-in_ok-checked_sub-in_default
returns-in_ok-checked_sub-in_default c =
    let last : 2 < c.args.number = omega arith in
    let found = c.in_ok-checked_sub-in_default.ensures in
    let south = found.1 ∙ ap (λ width. c.args.state.now - width) c.width.ensures.exact in
    record {
      value = c.backward_step-in_default.ensures.exact
          ∙ ap (λ south. step_backward c.args.self.now.grid.now (costs_of c.args.self.now) (2 * south + 1)) south
          ∙ step_of-is_south c.args.self.now.grid.now (costs_of c.args.self.now) _ _ last (omega (arith, found.0, c.width.ensures.exact));
    }
