use Rattle.std.proofs.Common.{ℕ, ◌-◌, List, ◌++◌, take, drop, length, refl, ap, arith}
use Rattle.grid_map.specs.Rules.{rules_of}
use Rattle.grid_map.specs.Space.{states_along}
use Rattle.grid_map.proofs.WalkLemmas.{run_numbers, next-within, next-taken}
use Rattle.grid_map.proofs.space.GridSpace.walk.Goals as goal

pub steps-init : goal.steps-init
steps-init c =
    let numbers = take (length c.args.choices.now - 1) (drop 1 c.args.choices.now) in
    record {
      on = run_numbers (rules_of c.args.self.now) _ _ c.args.self.now.keeps (omega arith) (λ number. refl) c.requires.run;
      states =
          ap (λ (cells : List ℕ). cells ++ states_along (rules_of c.args.self.now) c.args.self.now.from numbers)
          c.in_ok-cells.ensures.items;
    }

pub next-cell-requires-clause-within : goal.next-cell-requires-clause-within
next-cell-requires-clause-within c =
    next-within (rules_of c.args.self.now) _ _ _ c.args.self.now.keeps c.steps-test.true c.steps.invariant.on

pub steps-preserved : goal.steps-preserved
steps-preserved c =
    let taken =
    next-taken (rules_of c.args.self.now) _ _ _ _ _ _ _
    (record {
      laws = c.args.self.now.keeps;
      within = c.steps-test.true;
      on = c.steps.invariant.on;
      states = c.steps.invariant.states;
    })
    c.in_ok-push.ensures.items c.next-cell.ensures.exact in
    record { on = taken.on; states = taken.states }
