use Rattle.std.proofs.Common.{◌≡◌, ap, ◌∙◌}
use Rattle.hall.proofs.ReadingLemmas.{settles_no_upload, settles_upload}
use Rattle.hall.specs.Parts.{answered_by}
use Rattle.hall.specs.declared.peer.Frame.TheVariants as frames
use Rattle.hall.specs.declared.peer.Peer.{Peer}
use Rattle.route_ready.specs.World.{world_of}
use Rattle.session_answers.specs.Profiles.{uploads_of}
use Rattle.session_answers.specs.Received.{received_of}
use Rattle.session_answers.specs.Stored.{upload_of}
use Rattle.session_answers.specs.Verdicts.{part}
use Rattle.hall.proofs.reading.uploaded.Goals as goal

pub returns-in-Ok : goal.returns-in-Ok
returns-in-Ok c =
    let desk = c.args.desk.now in
    let seen = upload_of c.table.result.now (uploads_of desk.profiles) c.part-text.result.now in
    let same : seen ≡ upload_of (world_of desk.world).table (uploads_of desk.profiles)
    (part (received_of c.args.peer.now.received) c.args.span) =
    λ i. upload_of (c.table.ensures.value i) (uploads_of desk.profiles) (c.part-text.ensures.value i) in
    let frame = frames.Own c.in-Ok.frame in
    record {
      settles = λ old.
          settles_upload desk c.upload.new.profiles old c.args.peer.now c.args.span c.requires.verdict c.requires.kept c.upload.ensures.given
          c.answered.new.peer
          c.len-before.result frame seen same c.in-Ok.ensures.exact c.len-before.ensures.value c.in-Ok.ensures.stored
          (c.answered.ensures.value ∙ ap (λ (s : Peer). answered_by s frame) c.whole.ensures.value);
    }

pub returns-in-Err : goal.returns-in-Err
returns-in-Err c = record {
  settles = λ old.
      settles_no_upload c.args.desk.now c.upload.new.profiles old c.args.peer.now c.args.span c.requires.verdict c.requires.kept
      c.upload.ensures.given
      c.answered-in-Err.new.peer c.in-Err.ensures.kept c.answered-in-Err.ensures.value;
}
