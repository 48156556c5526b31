use Rattle.std.proofs.Common.{drop}
use Rattle.command_words.specs.Fit.{AreOnceAfter}
use Rattle.route_ready.specs.Shelves.{shelf_of}
use Rattle.route_ready.specs.Entries.{names_of}
use Rattle.run_files.proofs.EachLemmas.{GoesFor}
use Rattle.run_files.specs.Notes.{inputs}
use Rattle.run_files.specs.Profiles.{NotesNamed}
use Rattle.run_files.proofs.profiles.take_profiles.Given as goal

abbrev pub invariant-profiles : goal.invariant-profiles
invariant-profiles g l = record {
  once : AreOnceAfter (names_of (shelf_of l.shelf)) (drop l.file-index l.profiles);
  goes : GoesFor (NotesNamed l.table) l.profiles (inputs (g.F.Files.seen l.initial.files) l.initial.notes) (shelf_of l.shelf) (drop l.file-index l.profiles)
      (inputs (g.F.Files.seen l.files) l.notes);
}
