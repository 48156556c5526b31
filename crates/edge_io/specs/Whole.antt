-- This project's own rule: a file that is read as a whole.
use Rattle.std.specs.Prelude.{ℕ, ◌+◌, ◌<◌, ◌≤◌, ◌≡◌, List, length, Option, Some, None, Result, Ok, Err}
use Rattle.std.specs.Io.KnownBytes.{Consumes}
use Rattle.edge_io.specs.Faults.{CountRose, count_after}
use Rattle.edge_io.specs.Files.{FilesSeen}
use Rattle.edge_io.specs.declared.whole_error.WholeError.{WholeError}
use Rattle.edge_io.specs.declared.whole_error.WholeError.TheVariants.{Fault, TooLong, NoMemory}

-- the bytes are all that was left of the open file, where it is told
abbrev pub IsAllLeft : Option (List ℕ) → List ℕ → Type 0
IsAllLeft None bytes = Unit {0}
IsAllLeft (Some rest) bytes = rest ≡ bytes

-- more bytes than the limit were left of the open file, where it is told
abbrev pub IsTooLong : Option (List ℕ) → ℕ → Type 0
IsTooLong None limit = Unit {0}
IsTooLong (Some rest) limit = limit < length rest

-- these bytes of the open file were read, by so many reads: at most one more than bytes, and at most one more
-- than the limit; nothing else happened but what the count of faults tells
pub record ReadsBytes (limit : ℕ) (old new : FilesSeen) (bytes : List ℕ) : Type 0 where
  pub times : ℕ
  pub few : times ≤ length bytes + 1
  pub limited : times ≤ limit + 1
  pub left : Consumes old.left new.left bytes
  pub is_open : new.is_open ≡ old.is_open
  pub files : new.files ≡ old.files
  pub opens : new.opens ≡ old.opens
  pub reads : new.reads ≡ count_after times old.reads

-- some bytes of the open file were read
pub record ReadsOn (limit : ℕ) (old new : FilesSeen) : Type 0 where
  pub bytes : List ℕ
  pub how : ReadsBytes limit old new bytes

-- some bytes were read, no more than the limit
pub record ReadsWithin (limit : ℕ) (old new : FilesSeen) : Type 0 where
  pub bytes : List ℕ
  pub fits : length bytes ≤ limit
  pub how : ReadsBytes limit old new bytes

-- a fault is answered where the count of faults rose, and every other answer leaves it
abbrev pub CountsFault : {T : Type 0} → ℕ → ℕ → Result T WholeError → Type 0
CountsFault old new (Ok a) = new ≡ old
CountsFault old new (Err Fault) = CountRose old new
CountsFault old new (Err TooLong) = new ≡ old
CountsFault old new (Err NoMemory) = new ≡ old
