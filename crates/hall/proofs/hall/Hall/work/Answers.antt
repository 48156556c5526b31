use Rattle.std.proofs.Common.{◌∙◌, ap, subst}
use Rattle.hall.specs.View.{HallValue, service_of, state_of}
use Rattle.hall.specs.Parts.{state_in}
use Rattle.hall.specs.Steps.{Works}
use Rattle.hall.proofs.hall.Hall.work.Goals as goal

pub returns-clause-works : goal.returns-clause-works
unfolding state_of service_of
returns-clause-works c =
    subst (λ (v : HallValue). Works (service_of v) (state_of v) (state_in c.work.new.room)) c.self.view_is c.work.ensures.works

pub returns-clause-same : goal.returns-clause-same
unfolding service_of
returns-clause-same c = c.work.ensures.same ∙ ap service_of c.self.view_is
