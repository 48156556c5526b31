-- A piece that is read whole.
use Rattle.std.proofs.Common.{◌++◌}
use Rattle.map_elements.proofs.ReadingLemmas.{open_draft}
use Rattle.map_elements.proofs.reader.DraftReader.feed.Goals as goal

pub returns-in-Ok-clause-found : goal.returns-in-Ok-clause-found
returns-in-Ok-clause-found c limits bytes stands = (
  c.read_piece.new.self.reading.progress.tables.draft,
  open_draft limits c.read_piece.new.self.reading (bytes ++ c.args.piece.now) (c.in-Ok.ensures.value limits bytes stands.stands),
)
