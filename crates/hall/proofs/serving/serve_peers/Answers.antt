-- None is served, and then one more.
use Rattle.std.proofs.Common.{◌≡◌, ◌∙◌, Bool, List, add-one, ap, arith, drop, if◌then◌else◌, length, refl, suc, subst, sym, take, ℕ}
use Rattle.std.proofs.lemmas.List.{length-drop}
use Rattle.hall.proofs.PeerCountLemmas.{ids_of, next_at}
use Rattle.hall.proofs.ServingLemmas.{all_served, next_rest, next_there}
use Rattle.hall.proofs.ServedLemmas.{none_served, one_more}
use Rattle.hall.proofs.serving.serve_peers.Goals as goal
use Rattle.hall.proofs.serving.serve_peers.Goals.{then-serve_peer, else-serve_peer}
use Rattle.hall.specs.Parts.{connection_of, state_in}
use Rattle.hall.specs.Serving.{ServedEach}

pub peers-init : goal.peers-init
peers-init g c = record {
  served = none_served (state_in c.args.room.now) (g.H.Hub.seen c.args.hub.now);
  rest = refl;
  few = omega arith;
  live = c.requires.live;
  held = c.requires.held;
  same = refl;
}

pub serve_peer-requires-clause-there : goal.serve_peer-requires-clause-there
serve_peer-requires-clause-there g c =
    let old = c.args.room.now.peers in
    let now = c.peers.room.peers in
    omega (
      arith,
      c.peers-test.true,
      old.ok.0,
      length-drop c.peers.k now.items,
      length-drop c.peers._served old.items,
      ap length c.peers.invariant.rest,
    )

pub peers-preserved : goal.peers-preserved
peers-preserved g c =
    let s = state_in c.args.room.now in
    let left = state_in c.serve_peer.new.room in
    let old = c.args.room.now.peers.items in
    let now = c.peers.room.peers.items in
    let gone = c.serve_peer.new.room.peers.items in
    let n = c.peers._served in
    let first = g.H.Hub.seen c.args.hub.now in
    let seen = g.H.Hub.seen c.serve_peer.new.hub in
    let next = next_at old n (omega (arith, c.peers-test.true, c.args.room.now.peers.ok.0)) in
    let here = c.peers.invariant.rest ∙ next.rest in
    let own = c.serve_peer.ensures.served next.peer (next_there now c.peers.k next.peer _ here) in
    let more = one_more next.peer.id (connection_of next.peer) s (state_in c.peers.room) left first (g.H.Hub.seen c.peers.hub) seen
    (ids_of (take n old)) c.peers.invariant.served own in
    let rest = c.serve_peer.ensures.rest ∙ next_rest now c.peers.k next.peer _ here in
    record {
      served =
          subst (λ (m : ℕ). ServedEach s first (ids_of (take m old)) left seen) (sym (add-one n))
          (subst (λ (l : List ℕ). ServedEach s first l left seen) (sym next.ids) more);
      rest = elim c.if-serve_peer.branch [
        | then-serve_peer w ↦
            ap (λ (m : ℕ). drop m gone) (w.k-is ∙ add-one c.peers.k)
            ∙ subst (λ (b : Bool). drop (if b then suc c.peers.k else c.peers.k) gone ≡ drop (suc n) old) w.if-serve_peer.true rest
            ∙ sym (ap (λ (m : ℕ). drop m old) (add-one n))
        | else-serve_peer w ↦
            ap (λ (m : ℕ). drop m gone) w.k-is
            ∙ subst (λ (b : Bool). drop (if b then suc c.peers.k else c.peers.k) gone ≡ drop (suc n) old) w.if-serve_peer.false rest
            ∙ sym (ap (λ (m : ℕ). drop m old) (add-one n))
      ];
      few = elim c.if-serve_peer.branch [
        | then-serve_peer w ↦ omega (arith, w.k-is, c.peers.invariant.few)
        | else-serve_peer w ↦ omega (arith, w.k-is, c.peers.invariant.few)
      ];
      live = c.serve_peer.ensures.live;
      held = c.serve_peer.ensures.held;
      same = c.serve_peer.ensures.same ∙ c.peers.invariant.same;
    }

pub returns-clause-served : goal.returns-clause-served
returns-clause-served g c =
    let room = c.args.room.now in
    all_served room c.requires.held c.peers._served (omega (arith, c.peers-test.false, room.peers.ok.0)) (state_in c.peers.room)
    (g.H.Hub.seen c.args.hub.now) (g.H.Hub.seen c.peers.hub) c.peers.invariant.served
