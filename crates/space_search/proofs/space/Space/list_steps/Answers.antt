use Rattle.std.proofs.Common.{sym, ◌∙◌}
use Rattle.space_search.proofs.KnownLemmas.{leaves-none, leaves-adds, leaves-skips}
use Rattle.space_search.proofs.space.Space.list_steps.Goals as goal
use Rattle.space_search.proofs.space.Space.list_steps.Goals.{in-Some+in_ok-put, in_default}

pub steps-init : goal.steps-init
steps-init g c = leaves-none _ _ _ _ _ c.clear.ensures.value

pub steps-preserved : goal.steps-preserved
steps-preserved g c =
    let rules = g.Self.Space.rules c.args.self.now in
    let step = rules.step c.args.state.now in
    elim c.match-step.branch [
      | in-Some+in_ok-put w ↦
          rw w.found-is
          (leaves-adds rules c.args._known.now c.args._cost step c.steps.choice c.steps.found w.put.new.self w.in-Some.reached
          c.steps.invariant w.in-Some.ensures.value w.in_ok-put.ensures.value)
      | in_default w ↦
          rw w.found-is
          (leaves-skips rules c.args._known.now c.args._cost step c.steps.choice c.steps.found c.steps.invariant
          (sym c.step.ensures.value ∙ w.in_default.is))
    ]
