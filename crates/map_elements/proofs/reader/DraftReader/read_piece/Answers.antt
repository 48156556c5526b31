-- A piece of a text.
use Rattle.std.proofs.Common.{◌++◌, false}
use Rattle.map_elements.proofs.reader.DraftReader.read_piece.Goals as goal

pub returns-clause-value : goal.returns-clause-value
returns-clause-value c limits bytes stands =
    c.read_on.ensures.value limits (bytes ++ c.args.piece.now) false (record {
      steps = stands.steps;
      scanned = c.in-Ok.ensures.value bytes stands.steps stands.scanned;
      holds = stands.holds;
    })
