use Rattle.std.proofs.Common.{◌≡◌, ◌+◌, ℕ, List, length, true}
use Rattle.edge_io.proofs.WholeLemmas.{HasRead}
use Rattle.overpass_graph.specs.Builder.{StandsForText, fed}
use Rattle.run_files.specs.NoteLines.{read_notes}
use Rattle.run_files.specs.Notes.{IsNoted}
use Rattle.run_files.proofs.map_reading.read_map.Given as goal

abbrev pub invariant-reading : goal.invariant-reading
invariant-reading g l = record {
  bytes : List ℕ;
  stands : StandsForText l.builder bytes;
  counted : fed l.builder ≡ length bytes;
  held : length bytes + l.room ≡ l.limit;
  is_open : (g.F.Files.seen l.files).is_open ≡ true;
  noted : IsNoted (read_notes l.file (length bytes)) l.initial.notes l.notes;
  read : HasRead (g.F.Files.seen l.initial.files) (g.F.Files.seen l.files) bytes;
}

abbrev pub decreases-reading : goal.decreases-reading
decreases-reading g l = l.room
