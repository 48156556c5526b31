use Rattle.std.proofs.Common.{ap, refl, subst, sym, ◌∙◌}
use Rattle.hall.proofs.PeerCountLemmas.{counts}
use Rattle.hall.proofs.SoundLemmas.{are_allowed}
use Rattle.hall.proofs.hall.Hall.serve_all.Goals as goal
use Rattle.hall.specs.Parts.{count_of, service_in, state_in}
use Rattle.hall.specs.Serving.{AreLive, ServedAll}
use Rattle.hall.specs.View.{HallValue, service_of, state_of}

pub serve_peers-requires : goal.serve_peers-requires
unfolding state_of
serve_peers-requires g c = record {
  held = c.self.invariant;
  live = subst (λ (v : HallValue). AreLive (state_of v) (g.H.Hub.seen c.args.hub.now)) (sym c.self.view_is) c.requires.live;
}

pub returns-clause-served : goal.returns-clause-served
unfolding state_of
returns-clause-served g c =
    subst (λ (v : HallValue). ServedAll (state_of v) (g.H.Hub.seen c.args.hub.now) (state_in c.serve_peers.new.room)
    (g.H.Hub.seen c.serve_peers.new.hub)) c.self.view_is
    c.serve_peers.ensures.served

pub returns-clause-live : goal.returns-clause-live
unfolding state_of
returns-clause-live g c = c.serve_peers.ensures.live

pub returns-clause-same : goal.returns-clause-same
unfolding service_of
returns-clause-same g c = c.serve_peers.ensures.same ∙ ap service_of c.self.view_is

-- what is left is sound
pub returns-clause-sound : goal.returns-clause-sound
unfolding state_of service_of
returns-clause-sound g c = c.serve_peers.ensures.held.sound

pub returns-clause-few : goal.returns-clause-few
unfolding state_of
returns-clause-few g c = λ away.
    let room = c.serve_peers.new.room in
    let held = c.serve_peers.ensures.held in
    let peers = room.peers.items in
    (count_of peers away, counts (state_in room) peers away refl held.ascending, held.few away)

pub returns-clause-allowed : goal.returns-clause-allowed
unfolding state_of service_of
returns-clause-allowed g c =
    let room = c.serve_peers.new.room in
    are_allowed (service_in room) (state_in room) c.serve_peers.ensures.held.sound
