-- Making guides, by what is kept of a hall.
use Rattle.std.proofs.Common.{◌∙◌, ap}
use Rattle.hall.specs.View.{service_of, state_of}
use Rattle.hall.proofs.hall.Hall.make_guides.Goals as goal

pub returns-clause-state : goal.returns-clause-state
unfolding state_of
returns-clause-state c = c.make_guides_in.ensures.state ∙ ap state_of c.self.view_is

pub returns-clause-same : goal.returns-clause-same
unfolding service_of
returns-clause-same c = c.make_guides_in.ensures.same ∙ ap service_of c.self.view_is
