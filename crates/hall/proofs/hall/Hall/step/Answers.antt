use Rattle.std.proofs.Common.{◌∙◌, ap, subst}
use Rattle.hall.specs.Parts.{state_in}
use Rattle.hall.specs.Steps.{Step}
use Rattle.hall.specs.View.{HallValue, service_of, state_of}
use Rattle.hall.proofs.hall.Hall.step.Goals as goal

pub returns-clause-step : goal.returns-clause-step
unfolding state_of service_of
returns-clause-step c =
    subst (λ (v : HallValue). Step (service_of v) (state_of v) c.args.event.now c.args.bytes.now (state_in c.step.new.room) c.step.result)
    c.self.view_is
    c.step.ensures.step

pub returns-clause-same : goal.returns-clause-same
unfolding service_of
returns-clause-same c = c.step.ensures.same ∙ ap service_of c.self.view_is
