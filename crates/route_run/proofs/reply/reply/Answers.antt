use Rattle.route_run.proofs.EdgeLemmas.{reply-told, reply-memory}
use Rattle.route_run.specs.Outcome.{reach}
use Rattle.command_words.specs.Help.{told_of}
use Rattle.command_words.specs.Refusals.{texts_of}
use Rattle.route_run.proofs.reply.reply.Goals as goal

pub returns-in-Ok-Some : goal.returns-in-Ok-Some
returns-in-Ok-Some g c = record {
  exact = reply-told (texts_of c.args.words.now) c.in-Ok-Some.text.items (g.F.Files.seen c.args.files.now) (g.H.Hub.seen c.args.hub.now)
      c.args.notes.now (g.O.Sink.seen c.args.out.now) (g.O.Sink.seen c.send.new.out) c.send.result (rw c.in-Ok-Some.field-0-is at c.in-Ok-Some.ensures.exact)
      c.send.ensures.ends;
}

pub returns-in-Err : goal.returns-in-Err
returns-in-Err g c = record {
  exact = reply-memory (texts_of c.args.words.now) (told_of (texts_of c.args.words.now))
      (reach (g.F.Files.seen c.args.files.now) (g.O.Sink.seen c.args.out.now) (g.H.Hub.seen c.args.hub.now) c.args.notes.now);
}
