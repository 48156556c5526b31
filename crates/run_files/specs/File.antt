-- One file that is asked for by its name. This project's own rule.
use Rattle.std.specs.Prelude.{ℕ, ◌≡◌, ◌≤◌, true, false, List, length, Result, Ok, Err}
use Rattle.edge_io.specs.Faults.{CountRose}
use Rattle.command_words.specs.Given.{Named}
use Rattle.edge_io.specs.Files.{FailsToOpen, FilesSeen, Opens}
use Rattle.edge_io.specs.Whole.{IsAllLeft, IsTooLong, ReadsBytes}
use Rattle.run_files.specs.Chain.{Stage}
use Rattle.run_files.specs.declared.status.Status.{Status}
use Rattle.run_files.specs.declared.status.Status.TheVariants.{TooLong, NotFound, ReadFault, NoMemory}

-- a stage over one file, which a word names and which is opened once: the opening failed, which is a read fault;
-- it said that no file has the name, and so does the answer; or the file was open, and these bytes of it were
-- read, by at most one read more than the limit, with an answer of which this holds
pub data Asks {A : Type 0} (file : Named) (limit : ℕ) (Is : List ℕ →
    Stage A) (old new : FilesSeen) : Result A Status → Type 0 where
  failed : FailsToOpen old new → Asks file limit Is old new (Err (ReadFault file.word))
  missing : Opens old new file.name false → Asks file limit Is old new (Err (NotFound file.word))
  reading :
      {opened : FilesSeen} {bytes : List ℕ} {result : Result A Status} → Opens old opened file.name true →
      ReadsBytes limit opened new bytes → Is bytes opened new result → Asks file limit Is old new result

-- what is answered of an open file by the bytes that were read of it: these, which are all that was left and no
-- more than the limit; that more was left; a read fault where the count of faults rose; or want of memory. Every
-- answer but the fault leaves that count
abbrev pub IsFileAnswer : Named → ℕ → List ℕ → Stage (List ℕ)
IsFileAnswer file limit read old new (Ok bytes) = (bytes ≡ read) × IsAllLeft old.left bytes ×
    (length bytes ≤ limit) × (new.faults ≡ old.faults)
IsFileAnswer file limit read old new (Err (TooLong at)) = (at ≡ file.word) × IsTooLong old.left limit ×
    (new.faults ≡ old.faults)
IsFileAnswer file limit read old new (Err (ReadFault at)) = (at ≡ file.word) ×
    CountRose old.faults new.faults
IsFileAnswer file limit read old new (Err NoMemory) = new.faults ≡ old.faults
IsFileAnswer file limit read old new (Err status) = ⊥

-- the stage of a file that is taken whole, where it has no more bytes than the limit
abbrev pub TakesFile : Named → ℕ → Stage (List ℕ)
TakesFile file limit = Asks file limit (IsFileAnswer file limit)
