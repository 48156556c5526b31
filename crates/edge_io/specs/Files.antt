-- This project's own rule: what the files of the outside show at a moment, and what opening and reading
-- change in it.
use Rattle.std.specs.Prelude.{ℕ, ◌≡◌, Bool, List, [], ◌∷◌, take, Option, Some, None, is_some, if◌then◌else◌}
use Rattle.std.specs.Io.KnownBytes.{Consumes, Keeps, IsAtEnd}
use Rattle.std.specs.Str.{bytes_eq}
use Rattle.edge_io.specs.Faults.{CountRose, next_count}

-- what files show: their names and contents and what is left of the open file, where they are told; whether a
-- file is open; and how many openings, reads and failed calls there were
pub record FilesSeen : Type 0 where
  pub files : Option (List (List ℕ × List ℕ))
  pub left : Option (List ℕ)
  pub is_open : Bool
  pub opens : ℕ
  pub reads : ℕ
  pub faults : ℕ

-- the content of the first file of a name
abbrev pub content_of : List (List ℕ × List ℕ) → List ℕ → Option (List ℕ)
content_of [] name = None
content_of (f ∷ fs) name = if bytes_eq f.0 name then Some f.1 else content_of fs name

-- a file has the name, where the files are told
abbrev pub IsFound : Option (List (List ℕ × List ℕ)) → List ℕ → Bool → Type 0
IsFound None name found = Unit {0}
IsFound (Some files) name found = found ≡ is_some (content_of files name)

-- the first file of the name is left whole, where the files are told; nothing is where none has it
abbrev pub IsLeft : Option (List (List ℕ × List ℕ)) → List ℕ → Option (List ℕ) → Type 0
IsLeft None name left = Unit {0}
IsLeft (Some files) name left = left ≡ content_of files name

-- the file of this name was opened, or none has it
pub record Opens (old new : FilesSeen) (name : List ℕ) (is_found : Bool) : Type 0 where
  pub found : IsFound old.files name is_found
  pub left : IsLeft old.files name new.left
  pub is_open : new.is_open ≡ is_found
  pub files : new.files ≡ old.files
  pub opens : new.opens ≡ next_count old.opens
  pub reads : new.reads ≡ old.reads
  pub faults : new.faults ≡ old.faults

-- an opening failed: the file that was open stays so, and the call counts among the openings
pub record FailsToOpen (old new : FilesSeen) : Type 0 where
  pub left : Keeps old.left new.left
  pub is_open : new.is_open ≡ old.is_open
  pub files : new.files ≡ old.files
  pub opens : new.opens ≡ next_count old.opens
  pub reads : new.reads ≡ old.reads
  pub rose : CountRose old.faults new.faults

-- so many bytes at the front of the buffer are the next ones of the open file, none alone at its end
pub record Reads (old new : FilesSeen) (buffer : List ℕ) (n : ℕ) : Type 0 where
  pub left : Consumes old.left new.left (take n buffer)
  pub end : n ≡ 0 → IsAtEnd new.left
  pub is_open : new.is_open ≡ old.is_open
  pub files : new.files ≡ old.files
  pub opens : new.opens ≡ old.opens
  pub reads : new.reads ≡ next_count old.reads
  pub faults : new.faults ≡ old.faults

-- a read failed: nothing of the open file is lost
pub record FailsToRead (old new : FilesSeen) : Type 0 where
  pub left : Keeps old.left new.left
  pub is_open : new.is_open ≡ old.is_open
  pub files : new.files ≡ old.files
  pub opens : new.opens ≡ old.opens
  pub reads : new.reads ≡ next_count old.reads
  pub rose : CountRose old.faults new.faults
