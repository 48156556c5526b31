-- What the program does with a command line, as the system sees it. This project's own rule.
use Rattle.std.specs.Prelude.{ℕ, ◌≡◌, ◌≢◌, ◌==◌, ◌⊎◌, Bool, true, false, cond, List, [], ◌∷◌, ◌++◌, Option, Some, None, Result, Ok, Err, Vec, String, codes}
use Rattle.std.specs.declared.alloc.Global.{Global}
use Rattle.edge_io.specs.Sink.{SinkSeen, Grows, BreaksOff}
use Rattle.item_list.specs.Answer.{answer_map}
use Rattle.route_run.specs.Ends.{Ends}
use Rattle.route_run.specs.Outcome.{Reach, IsOutcome}
use Rattle.run_files.specs.Chain.{Settles}
use Rattle.run_files.specs.Notes.{NotesSeen}
use Rattle.run_files.specs.Status.{number_of_status, line_of}
use Rattle.command_words.specs.Help.{told_of}
use Rattle.command_words.specs.Refusals.{texts_of}
use Rattle.command_words.specs.Usage.{usage_text}
use Rattle.run_files.specs.declared.status.Status.{Status}
use Rattle.run_files.specs.declared.status.Status.TheVariants.{NoMemory, Usage}

-- the texts of words that were read, or why they weren't
abbrev pub args_in : Result (Vec (String Global) Global) Status → Result (List (List ℕ)) Status
args_in args = answer_map (λ (v : Vec (String Global) Global). texts_of v.items) (λ (s : Status). s) args

-- a text is told: written whole, or a front of it before a write fault, or nothing where memory ran out; the
-- files, the hub and the notes are left
pub record Tells (text : List ℕ) (old new : Reach) (status : Status) : Type 0 where
  pub answer : Result (List ℕ) Status
  pub given : Settles {A = List ℕ} (Ok text) old.files new.files answer
  pub ends : Ends answer status old.out new.out
  pub hub : new.hub ≡ old.hub
  pub notes : new.notes ≡ old.notes

-- words are told something, or are answered as a command
abbrev pub IsReplyBy : (words : List (List ℕ)) (told : Option (List ℕ)) (old new : Reach) (status : Status) →
    Type 0
IsReplyBy words (Some text) old new status = Tells text old new status
IsReplyBy words None old new status = IsOutcome words old new status

-- the status in which the command line ends; one that couldn't be read leaves all as it was
abbrev pub IsReply : Result (List (List ℕ)) Status → Reach → Reach → Status → Type 0
IsReply (Ok words) old new status = IsReplyBy words (told_of words) old new status
IsReply (Err refusal) old new status = (status ≡ refusal) × (new ≡ old)

-- what is told of a command line that is no text
abbrev pub unread_text : List ℕ
unread_text = codes "the words can't be read as UTF-8\n"

-- what stands below the line of a status: of a faulty command line the word, why it is at fault and the row of
-- its command, or that it is no text
abbrev pub below_line : (is_read : Bool) (words : List (List ℕ)) → Status → List ℕ
below_line is_read words (Usage word) = cond is_read (usage_text words word) unread_text
below_line is_read words status = []

-- what tells a status of words, which may be those of a command line that is no text: its line, and what stands
-- below it; success has none
abbrev pub told_by : (is_read : Bool) (words : List (List ℕ)) → Status → List ℕ
told_by is_read words status =
    cond (number_of_status status == 0) [] (line_of status ++ (10 ∷ below_line is_read words status))

-- what tells a status of a command line
abbrev pub told_lines : Result (List (List ℕ)) Status → Status → List ℕ
told_lines (Ok words) status = told_by true words status
told_lines (Err refusal) status = told_by false [] status

-- these bytes were written, whole or a front of them before a write fault
abbrev pub IsPrinted : List ℕ → SinkSeen → SinkSeen → Type 0
IsPrinted bytes old new = Grows old new bytes ⊎ BreaksOff old new bytes

-- the status that is told: the one in which the command line ended; or want of memory, where the line of one
-- that isn't success could not be made
abbrev pub IsTold : Status → Status → Type 0
IsTold status told = (told ≡ status) ⊎ ((told ≡ NoMemory) × (number_of_status status ≢ 0))

-- a status is told by these lines, and its number is the exit status
pub record IsTelling (lines : Status → List ℕ) (status : Status) (old new : SinkSeen) (number : ℕ) : Type 0 where
  pub told : Status
  pub is_told : IsTold status told
  pub line : IsPrinted (lines told) old new
  pub number_is : number ≡ number_of_status told

-- what the program does with a command line, and the exit status with which it ends: it notes what it does, and
-- behind the notes it tells how it ended
pub record IsEnd (args : Result (List (List ℕ)) Status) (old new : Reach) (number : ℕ) : Type 0 where
  pub status : Status
  pub noted : NotesSeen
  pub reply : IsReply args old (record new { notes = noted }) status
  pub telling : IsTelling (told_lines args) status noted.sink new.notes.sink number
