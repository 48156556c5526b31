use Rattle.std.proofs.Common.{inr, refl, codes}
use Rattle.command_words.specs.Refusals.{texts_of}
use Rattle.route_run.specs.Edge.{told_by}
use Rattle.route_run.proofs.EdgeLemmas.{telling}
use Rattle.run_files.specs.declared.status.Status.TheVariants.{NoMemory}
use Rattle.route_run.proofs.reply.tell.Goals as goal

pub returns : goal.returns
returns g c = record {
  exact = telling c.say-in-Err.result (told_by c.args.is_read (texts_of c.args.words.now)) c.args.status NoMemory (codes "out of memory\n") c.args.err.now.sink
      c.say-in-Err.new.self.sink c.number-in-Err.result
      (inr (refl, c.in-Err.ensures.only)) refl c.say-in-Err.ensures.value c.say-in-Err.ensures.kept c.number-in-Err.ensures.value;
}
