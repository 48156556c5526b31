use Rattle.std.proofs.Common.{List, Result, String, Vec, subst, sym, true}
use Rattle.std.specs.declared.alloc.Global.{Global}
use Rattle.command_words.specs.Help.{told_of}
use Rattle.command_words.specs.Refusals.{texts_of}
use Rattle.route_run.proofs.EdgeLemmas.{end-read, end-unread}
use Rattle.route_run.specs.Edge.{IsEnd, IsReplyBy, IsTelling, args_in, told_by}
use Rattle.route_run.specs.Outcome.{reach}
use Rattle.run_files.specs.declared.status.Status.{Status}
use Rattle.route_run.proofs.reply.edge.Goals as goal

pub returns-in-Ok : goal.returns-in-Ok
returns-in-Ok g c =
    let files = g.F.Files.seen c.reply-status.new.files in
    let out = g.O.Sink.seen c.reply-status.new.out in
    let hub = g.H.Hub.seen c.reply-status.new.hub in
    let noted = c.reply-status.new.notes in
    let said = c.tell.new.err in
    let status = c.reply-status.result in
    let number = c.tell.result in
    let old = reach (g.F.Files.seen c.args.files.now) (g.O.Sink.seen c.args.out.now) (g.H.Hub.seen c.args.hub.now) c.args.err.now in
    let reply = subst (λ (w : List (String Global)). IsReplyBy (texts_of w) (told_of (texts_of w)) old (reach files out hub noted) status)
    c.as_slice.ensures.value c.reply-status.ensures.exact in
    let telling = subst (λ (w : List (String Global)). IsTelling (told_by true (texts_of w)) status noted.sink said.sink number)
    c.as_slice-in-Ok.ensures.value c.tell.ensures.exact in
    record {
      outcome = subst (λ (args : Result (Vec (String Global) Global) Status). IsEnd (args_in args) old (reach files out hub said) number)
          (sym c.in-Ok.is) (end-read (texts_of c.in-Ok.words.items) old files out hub noted said status number reply telling);
    }

pub returns-in-Err : goal.returns-in-Err
returns-in-Err g c =
    let files = g.F.Files.seen c.args.files.now in
    let out = g.O.Sink.seen c.args.out.now in
    let hub = g.H.Hub.seen c.args.hub.now in
    let notes = c.args.err.now in
    let said = c.tell-in-Err.new.err in
    let number = c.tell-in-Err.result in
    record {
      outcome = subst (λ (args : Result (Vec (String Global) Global) Status). IsEnd (args_in args) (reach files out hub notes)
          (reach files out hub said) number) (sym c.in-Err.is)
          (end-unread c.in-Err.refusal files out hub notes said number c.tell-in-Err.ensures.exact);
    }
