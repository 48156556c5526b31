use Rattle.std.proofs.Common.{length, drop, ◌-◌, ◌≡◌, ◌≤◌}
use Rattle.edge_io.specs.Files.{content_of}
use Rattle.edge_memory.specs.MemoryFiles.{listed}
use Rattle.edge_memory.proofs.memory_files.place_of.Given as goal

abbrev pub invariant-finding : goal.invariant-finding
invariant-finding l = record {
  within : l.place ≤ length l.files;
  rest : content_of (listed l.files) l.name ≡ content_of (listed (drop l.place l.files)) l.name;
}

abbrev pub decreases-finding : goal.decreases-finding
decreases-finding l = length l.files - l.place
