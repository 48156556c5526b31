use Rattle.std.proofs.Common.{refl, subst, take}
use Rattle.hall.proofs.WorkingLemmas.{works_frame, works_memory, works_more}
use Rattle.hall.proofs.working.turned.Goals as goal
use Rattle.hall.specs.declared.desk.Desk.{Desk}
use Rattle.hall.specs.declared.peer.Frame.TheVariants as frames
use Rattle.hall.specs.Parts.{site_at}
use Rattle.session_answers.proofs.CallerLemmas.{job_place}
use Rattle.session_answers.specs.Jobs.{CountsDown, TurnsTo}
use Rattle.session_answers.specs.Profiles.{stored_of}
use Rattle.session_answers.specs.Received.{received_of}
use Rattle.session_answers.specs.Verdicts.{part}

pub turn-requires : goal.turn-requires
turn-requires c =
    let desk = c.args.desk.now in
    let search = c.requires.search in
    record {
      kept = c.requires.kept;
      over = search.job.is.over;
      fits = job_place (site_at desk) search.aim (part (received_of c.args.peer.now.received) search.span) c.args.pending desk.kept
          search.before (stored_of desk.profiles) search.job;
    }

pub returns-in-Ok-More : goal.returns-in-Ok-More
returns-in-Ok-More c =
    let desk = c.args.desk.now in
    let search = c.requires.search in
    let site = site_at desk in
    let stored = take search.before (stored_of desk.profiles) in
    let query = part (received_of c.args.peer.now.received) search.span in
    let kept = c.turn.new.kept in
    let new : Desk = record desk { kept = kept; queue = c.joined.new.queue } in
    let turned = subst (TurnsTo site stored kept search.aim query) c.in-Ok-More.field-0-is
    (c.in-Ok-More.ensures.exact desk.labels search.before search.aim query search.job) in
    let counted = subst (CountsDown c.args.pending.left) c.in-Ok-More.field-0-is c.in-Ok-More.ensures.counts in
    record {
      works = works_more desk c.args.peer.now c.args.pending search kept c.turn.ensures.kept c.turn.ensures.stay new refl refl refl refl
          c.in-Ok-More.pending turned counted c.joined.new.peer c.joined.ensures.joins;
    }

pub returns-in-Ok-Done : goal.returns-in-Ok-Done
returns-in-Ok-Done c =
    let desk = c.args.desk.now in
    let search = c.requires.search in
    let site = site_at desk in
    let stored = take search.before (stored_of desk.profiles) in
    let query = part (received_of c.args.peer.now.received) search.span in
    let kept = c.turn.new.kept in
    let turned = subst (TurnsTo site stored kept search.aim query) c.in-Ok-Done.field-0-is
    (c.in-Ok-Done.ensures.exact desk.labels search.before search.aim query search.job) in
    record {
      works = works_frame desk c.args.peer.now c.args.pending search kept c.turn.ensures.kept c.turn.ensures.stay c.answered.new.peer
          (frames.Own c.in-Ok-Done.frame) turned c.answered.ensures.value;
    }

pub returns-in-Err : goal.returns-in-Err
returns-in-Err c = record {
  works = works_memory c.args.desk.now c.args.peer.now c.args.pending c.requires.search c.turn.new.kept c.turn.ensures.kept
      c.turn.ensures.stay c.answered-in-Err.new.peer c.answered-in-Err.ensures.value;
}
