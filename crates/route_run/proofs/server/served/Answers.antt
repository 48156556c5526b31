use Rattle.std.proofs.Common.{subst, sym}
use Rattle.hall.specs.Allowed.{AreAllowed}
use Rattle.hall.specs.Sound.{IsSound}
use Rattle.hall.specs.State.{Service, State}
use Rattle.hall.specs.View.{service_of, state_of}
use Rattle.hall.proofs.CallerLemmas.{AreLive-empty, EndedEachWait-served, GetsOwn-served, GrowsByUploads-served}
use Rattle.hall.specs.Serving.{AreLive}
use Rattle.hall.specs.Turns.{Turns}
use Rattle.route_run.proofs.server.served.Goals as goal

pub serve-requires : goal.serve-requires
serve-requires g c = record {
  live = subst (λ (s : State). AreLive s (g.H.Hub.seen c.args.hub.now)) (sym c.requires.empty)
      (AreLive-empty (state_of c.args.hall).stored (g.H.Hub.seen c.args.hub.now));
}

pub returns : goal.returns
returns g c =
    let s = c.serve.ensures.run in
    let state = state_of c.args.hall in
    let service = service_of c.args.hall in
    let left = state_of c.serve.new.hall in
    let old = g.H.Hub.seen c.args.hub.now in
    let new = g.H.Hub.seen c.serve.new.hub in
    record {
      exact = record {
        left = left;
        served = s;
        in_time =
            EndedEachWait-served service state.stored state c.requires.empty c.args.turns old new _ left s
            (c.each_wait_ends.ensures.law service);
        after_any = λ n acts between turns.
            c.each_wait_ends.ensures.law service (state_of c.args.hall).stored n acts between
            (subst (λ (from : State). Turns service from n acts between) c.requires.empty turns);
        sound = subst (λ (x : Service). IsSound x left) c.serve.ensures.same c.serve.ensures.sound;
        few = c.serve.ensures.few;
        allowed = subst (λ (x : Service). AreAllowed x left) c.serve.ensures.same c.serve.ensures.allowed;
        own = λ before told id.
            GetsOwn-served service state.stored state c.requires.empty c.args.turns old new _ left before told s
            (c.connections_keep_apart.ensures.law service) id;
        grows = λ before told.
            GrowsByUploads-served service state.stored state c.requires.empty c.args.turns old new _ left before told s
            (c.accepted_uploads_are_stored.ensures.law service);
      };
    }
