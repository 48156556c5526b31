use Rattle.std.proofs.Common.{◌≡◌, inl, subst}
use Rattle.hall.proofs.ReadingLemmas.{goes_on, settles_frame}
use Rattle.hall.specs.Parts.{Settles, connection_of}
use Rattle.hall.specs.State.{Connection}
use Rattle.hall.specs.Steps.{gives_up, with_bytes}
use Rattle.hall.specs.declared.peer.Frame.TheVariants as frames
use Rattle.hall.specs.declared.peer.Peer.{Peer}
use Rattle.std.proofs.Common.{refl}
use Rattle.hall.proofs.reading.read.Goals as goal

pub returns-in-Ok : goal.returns-in-Ok
returns-in-Ok c =
    let old = connection_of c.args.peer.now in
    let peer : Peer = record c.args.peer.now { received = c.add.new.self } in
    let same : connection_of peer ≡ with_bytes c.args.bytes.now old = λ i. record old { bytes = c.in-Ok.ensures.value i } in
    record {
      settles = subst (λ (d : Connection).
          Settles c.args.desk.now c.settled.new.desk old d c.args.peer.now.id c.args.peer.now.away c.settled.new.peer) same
          (c.settled.ensures.settles old);
    }

pub returns-in-Err : goal.returns-in-Err
returns-in-Err c =
    let desk = c.args.desk.now in
    let old = connection_of c.args.peer.now in
    let peer : Peer = record c.args.peer.now { received = c.add.new.self } in
    let same : connection_of peer ≡ old = λ i. record old { bytes = c.in-Err.ensures.kept i } in
    let now = with_bytes c.args.bytes.now old in
    record {
      settles = settles_frame desk desk.kept c.requires.kept (λ place overrides left k is. is) old now c.args.peer.now.id c.args.peer.now.away c.answered.new.peer peer frames.Memory
          c.answered.ensures.value refl refl
          (gives_up {kept = connection_of peer} (goes_on now.bytes now.ended c.requires.unended) (inl same));
    }
