-- This project's own rule: what files in memory give, when a call on them fails, and what it then leaves.
use Rattle.std.specs.Prelude.{ℕ, List, [], ◌∷◌, zero, suc, ◌++◌, length, take, drop, min, Contains, Option, Some, None, option_map, unwrap_or, is_some, map, Vec}
use Rattle.std.specs.declared.alloc.Global.{Global}
use Rattle.edge_io.specs.Faults.{next_count}
use Rattle.edge_io.specs.Files.{FilesSeen, content_of}

-- files in memory: their names and contents, what is left of the open one, if one is, the most bytes of a
-- read, the numbers of the calls that fail, and the counts of calls, openings, reads and faults
pub record Folder : Type 0 where
  pub files : List (List ℕ × List ℕ)
  pub left : Option (List ℕ)
  pub piece : ℕ
  pub failing : List ℕ
  pub calls : ℕ
  pub opens : ℕ
  pub reads : ℕ
  pub faults : ℕ

-- what they show as files
abbrev pub seen_of : Folder → FilesSeen
seen_of s = record {
  files = Some s.files;
  left = s.left;
  is_open = is_some s.left;
  opens = s.opens;
  reads = s.reads;
  faults = s.faults;
}

-- the names and contents of files
abbrev pub listed : List (List ℕ × Vec ℕ Global) → List (List ℕ × List ℕ)
listed files = map (λ f. (f.0, f.1.items)) files

-- the content of the file at a place
abbrev pub content_at : List (List ℕ × List ℕ) → ℕ → List ℕ
content_at [] place = []
content_at (f ∷ fs) zero = f.1
content_at (f ∷ fs) (suc place) = content_at fs place

-- files of which none was opened
abbrev pub fresh_folder : List (List ℕ × List ℕ) → ℕ → List ℕ → Folder
fresh_folder files piece failing = record {
  files = files;
  left = None;
  piece = piece;
  failing = failing;
  calls = 0;
  opens = 0;
  reads = 0;
  faults = 0;
}

-- the next call fails: its number is among the failing ones
abbrev pub FailsCall : Folder → Type 0
FailsCall s = Contains s.failing s.calls

-- what is left of the open file
abbrev pub left_of : Folder → List ℕ
left_of s = unwrap_or s.left []

-- how many bytes the next read gives into a buffer of this length
abbrev pub given_of : Folder → ℕ → ℕ
given_of s room = min (min (length (left_of s)) room) s.piece

-- the buffer after a read: the given bytes, and then its old ones
abbrev pub buffer_after : Folder → List ℕ → List ℕ
buffer_after s buffer =
    take (given_of s (length buffer)) (left_of s) ++ drop (given_of s (length buffer)) buffer

-- the files after a call that opened the file of this name, or found none
abbrev pub after_opening : Folder → List ℕ → Folder
after_opening s name = record s {
  left = content_of s.files name;
  calls = next_count s.calls;
  opens = next_count s.opens;
}

-- the files after a read of so many bytes
abbrev pub after_reading : Folder → ℕ → Folder
after_reading s n = record s {
  left = option_map (drop n) s.left;
  calls = next_count s.calls;
  reads = next_count s.reads;
}

-- the files after a read that failed
abbrev pub after_failed_read : Folder → Folder
after_failed_read s = record s {
  calls = next_count s.calls;
  reads = next_count s.reads;
  faults = next_count s.faults;
}

-- the files after an opening that failed
abbrev pub after_failed_opening : Folder → Folder
after_failed_opening s = record s {
  calls = next_count s.calls;
  opens = next_count s.opens;
  faults = next_count s.faults;
}
