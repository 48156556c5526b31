-- Making a profile ready, by what is kept of a hall.
use Rattle.std.proofs.Common.{◌≡◌, ◌<◌, ◌∙◌, ap, length, subst, sym}
use Rattle.hall.specs.State.{empty_hall}
use Rattle.hall.specs.View.{HallValue, service_of, state_of}
use Rattle.session_answers.specs.Warming.{MakesReady}
use Rattle.hall.proofs.hall.Hall.make_ready.Goals as goal

pub make_ready_in-requires : goal.make_ready_in-requires
unfolding state_of
make_ready_in-requires c = record {
  held = c.self.invariant;
  new = subst (λ (v : HallValue). state_of v ≡ empty_hall (state_of v).stored) (sym c.self.view_is) c.requires.new;
  fits = subst (λ (v : HallValue). c.args.place < length (state_of v).stored) (sym c.self.view_is) c.requires.fits;
}

pub returns-clause-exact : goal.returns-clause-exact
unfolding state_of service_of
returns-clause-exact c =
    subst (λ (v : HallValue). MakesReady (service_of v).world (state_of v).stored c.args.place c.make_ready_in.result) c.self.view_is
    c.make_ready_in.ensures.exact

pub returns-clause-state : goal.returns-clause-state
unfolding state_of
returns-clause-state c = c.make_ready_in.ensures.state ∙ ap state_of c.self.view_is

pub returns-clause-same : goal.returns-clause-same
unfolding service_of
returns-clause-same c = c.make_ready_in.ensures.same ∙ ap service_of c.self.view_is
