use Rattle.std.proofs.Common.{List, ℕ, refl, subst, ap, ◌∙◌}
use Rattle.hall.proofs.ReadingLemmas.{has_byte, settles_early, settles_frame, settles_search}
use Rattle.std.proofs.Common.{inl, inr}
use Rattle.hall.specs.Parts.{Joins, answered_by, connection_of, site_at}
use Rattle.hall.specs.Steps.{gives_up}
use Rattle.hall.specs.declared.desk.Desk.{Desk}
use Rattle.hall.specs.declared.peer.Frame.TheVariants as frames
use Rattle.hall.specs.declared.peer.Peer.{Peer}
use Rattle.session_answers.specs.Jobs.{Begins, IsBegun}
use Rattle.session_answers.specs.Profiles.{stored_of}
use Rattle.session_answers.specs.Received.{received_of}
use Rattle.session_answers.specs.declared.verdict.Verdict.TheVariants.{Query}
use Rattle.hall.proofs.reading.asked.Goals as goal

pub returns-in-Ok-Frame : goal.returns-in-Ok-Frame
returns-in-Ok-Frame c =
    let desk = c.args.desk.now in
    let early = subst (Begins (site_at desk) (stored_of desk.profiles) c.begin.new.kept c.args.aim c.part-query.result.now) c.in-Ok-Frame.field-0-is
    c.in-Ok-Frame.ensures.exact in
    let frame = frames.Own c.in-Ok-Frame.frame in
    record {
      settles = λ old.
          settles_early desk c.begin.new.kept c.begin.ensures.kept c.begin.ensures.stay old c.args.peer.now c.len-before.result c.len-before.ensures.value
          c.args.aim c.args.span c.requires.verdict
          c.answered.new.peer frame c.part-query.result.now (c.answered.ensures.value
          ∙ ap (λ (s : Peer). answered_by s frame) c.whole.ensures.value)
          c.part-query.ensures.value early;
    }

pub returns-in-Ok-Job : goal.returns-in-Ok-Job
returns-in-Ok-Job c =
    let desk = c.args.desk.now in
    let new : Desk = record desk { kept = c.begin.new.kept; queue = c.joined.new.queue } in
    let kept = c.begin.new.kept in
    let pending = c.in-Ok-Job.pending in
    let begun = subst (Begins (site_at desk) (stored_of desk.profiles) c.begin.new.kept c.args.aim c.part-query.result.now) c.in-Ok-Job.field-0-is
    c.in-Ok-Job.ensures.exact in
    let here = subst (λ (q : List ℕ). IsBegun (site_at desk) (stored_of desk.profiles) kept c.args.aim q pending) c.part-query.ensures.value
    begun in
    record {
      settles = λ old.
          settles_search desk c.begin.new.kept c.begin.ensures.kept c.begin.ensures.stay old c.args.peer.now c.len-before.result c.len-before.ensures.value
          c.args.aim c.args.span c.requires.verdict
          new refl refl refl c.begin.ensures.kept c.begin.ensures.stay pending here c.joined.new.peer
          (subst (λ (s : Peer). Joins desk.queue.items c.joined.new.queue.items s pending c.joined.new.peer)
          c.whole-in-Ok-Job.ensures.value c.joined.ensures.joins);
    }

pub returns-in-Err : goal.returns-in-Err
returns-in-Err c =
    let peer = c.args.peer.now in
    record {
      settles = λ old.
          settles_frame c.args.desk.now c.begin.new.kept c.begin.ensures.kept c.begin.ensures.stay old (connection_of peer) peer.id peer.away
          c.answered-in-Err.new.peer peer frames.Memory
          c.answered-in-Err.ensures.value refl refl
          (gives_up (has_byte (received_of peer.received) peer.ended (Query c.args.aim c.args.span) c.requires.verdict (λ e. cc)) (inr (inl refl)));
    }
