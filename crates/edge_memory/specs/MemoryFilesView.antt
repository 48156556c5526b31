-- What the fields of files in memory stand for.
use Rattle.std.specs.Prelude.{◌≤◌, length, drop, Some, None, if◌then◌else◌}
use Rattle.edge_memory.specs.MemoryFiles.{Folder, listed, content_at}
use Rattle.edge_memory.specs.declared.memory_files.MemFiles.TheInside.{Inside}

-- the folder that the fields make
abbrev pub folder_of : Inside → Folder
folder_of s = record {
  files = listed s.files.items;
  left = if s.opened then Some (drop s.at (content_at (listed s.files.items) s.place)) else None;
  piece = s.piece;
  failing = s.failing.items;
  calls = s.calls;
  opens = s.opens;
  reads = s.reads;
  faults = s.faults;
}

-- a read can give a byte, and the bytes given so far are of the file
pub record IsWithin (s : Inside) : Type 0 where
  pub piece : 1 ≤ s.piece
  pub at : s.at ≤ length (content_at (listed s.files.items) s.place)
