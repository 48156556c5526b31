-- What the program answers to words over files and an output. This project's own rule.
use Rattle.std.specs.Prelude.{ℕ, suc, ◌≡◌, ◌≤◌, ◌⊎◌, Bool, false, List, [], ◌∷◌, ◌++◌, length, map, slice_get, Option, Some, None, Result, Ok, Err}
use Rattle.edge_io.specs.Faults.{CountRose, count_after}
use Rattle.edge_io.specs.Files.{FilesSeen}
use Rattle.edge_io.specs.Hub.{HubSeen}
use Rattle.edge_io.specs.Sink.{SinkSeen}
use Rattle.run_answers.specs.Asks.{AnswersQuery}
use Rattle.run_answers.specs.Certify.{IsWritten as IsCertificateWritten}
use Rattle.run_answers.specs.First.{first_in}
use Rattle.run_answers.specs.Check.{IsCheckedAnswer}
use Rattle.run_answers.specs.Code.{IsCodeAnswer}
use Rattle.run_answers.specs.Grid.{IsGridAnswer}
use Rattle.run_answers.specs.Hills.{IsHillsAnswer}
use Rattle.run_answers.specs.Make.{made_by}
use Rattle.run_answers.specs.Route.{IsReplied, any_in, route_files}
use Rattle.run_answers.specs.Table.{IsTabled, tabled_query}
use Rattle.run_answers.specs.Within.{IsNearbyTold, near_in}
use Rattle.route_run.specs.Serving.{IsServeOutcome}
use Rattle.route_run.specs.Ends.{Ends}
use Rattle.route_run.specs.Offer.{serve_files}
use Rattle.item_list.specs.Answer.{answer_map}
use Rattle.run_files.specs.Chain.{Leaves, Settles, Then}
use Rattle.run_files.specs.Notes.{Inputs, NotedStage, NotesSeen, Unnoted, heard, inputs}
use Rattle.run_files.specs.World.{WorldFiles}
use Rattle.command_words.specs.Command.{command_of}
use Rattle.command_words.specs.Given.{Named}
use Rattle.command_words.specs.declared.command.CheckCommand.{CheckCommand}
use Rattle.command_words.specs.declared.command.CodeCommand.{CodeCommand}
use Rattle.command_words.specs.declared.command.Command.{Command}
use Rattle.command_words.specs.declared.command.Command as Form
use Rattle.command_words.specs.declared.command.ServeCommand.{ServeCommand}
use Rattle.run_files.specs.declared.status.Status.{Status}
use Rattle.run_files.specs.declared.status.Status.TheVariants.{Done, Usage, ReadFault, WriteFault, TurnsSpent, HubFault}

-- the command of the words, or the status of the word at fault
abbrev pub command_in : List (List ℕ) → Result Command Status
command_in words = answer_map (λ (c : Command). c) Usage (command_of words)

-- whether what a command does is to be noted
abbrev pub wants_notes : Command → Bool
wants_notes (Form.TheVariants.Route command) = command.notes
wants_notes (Form.TheVariants.Certify command) = command.route.notes
wants_notes (Form.TheVariants.Check command) = command.route.notes
wants_notes (Form.TheVariants.Table command) = command.notes
wants_notes (Form.TheVariants.Within command) = command.route.notes
wants_notes (Form.TheVariants.Serve command) = command.notes
wants_notes command = false

-- what is answered of a command that has something to write; `make` and `hills` leave the files untouched, and they
-- note nothing, nor do `grid` and `code`
abbrev pub IsCommandAnswer : Command → NotedStage (List ℕ)
IsCommandAnswer (Form.TheVariants.Grid command) old new answer = Unnoted (IsGridAnswer command) old new answer
IsCommandAnswer (Form.TheVariants.Make command) old new answer = Settles (Ok (made_by command)) old new answer
IsCommandAnswer (Form.TheVariants.Code command) old new answer = Unnoted (IsCodeAnswer command) old new answer
IsCommandAnswer (Form.TheVariants.Route command) old new answer = AnswersQuery any_in IsReplied command old new answer
IsCommandAnswer (Form.TheVariants.Certify command) old new answer =
    AnswersQuery first_in (IsCertificateWritten command.bound) command.route old new answer
IsCommandAnswer (Form.TheVariants.Check command) old new answer = IsCheckedAnswer command old new answer
IsCommandAnswer (Form.TheVariants.Table command) old new answer = AnswersQuery tabled_query IsTabled command old new answer
IsCommandAnswer (Form.TheVariants.Within command) old new answer =
    AnswersQuery (near_in command.cost) IsNearbyTold command.route old new answer
IsCommandAnswer (Form.TheVariants.Hills command) old new answer =
    Leaves (IsHillsAnswer command) old new answer
IsCommandAnswer (Form.TheVariants.Serve command) old new answer = ⊥

-- files and notes at which a command begins: notes are written only if it wants them
abbrev pub begun : Command → Inputs → Inputs
begun command old = inputs old.files (heard (wants_notes command) old.notes)

-- what is answered to words over files: the words are read, and then their command is answered
abbrev pub IsAnswer : List (List ℕ) → NotedStage (List ℕ)
IsAnswer words =
    Then (Settles (command_in words)) (λ command old new answer. IsCommandAnswer command (begun command old) new answer)

-- what the program reaches at a moment: the files, its output, the hub, and where notes go
pub record Reach : Type 0 where
  pub files : FilesSeen
  pub out : SinkSeen
  pub hub : HubSeen
  pub notes : NotesSeen

-- files, an output, a hub and notes together
abbrev pub reach : FilesSeen → SinkSeen → HubSeen → NotesSeen → Reach
reach files out hub notes = record { files = files; out = out; hub = hub; notes = notes }

-- of these the files and the notes
abbrev pub inputs_in : Reach → Inputs
inputs_in reach = inputs reach.files reach.notes

-- the words are answered over the files, and the answer ends in this status over the output; the hub is left
pub record IsWritten (words : List (List ℕ)) (old new : Reach) (status : Status) : Type 0 where
  pub answer : Result (List ℕ) Status
  pub given : IsAnswer words (inputs_in old) (inputs_in new) answer
  pub ends : Ends answer status old.out new.out
  pub hub : new.hub ≡ old.hub

-- the words are the command `serve`: it is done over the files and the hub, and nothing is written
pub record IsServed (words : List (List ℕ)) (old new : Reach) (status : Status) : Type 0 where
  pub command : ServeCommand
  pub named : command_of words ≡ Ok (Form.TheVariants.Serve command)
  pub serves :
      IsServeOutcome command (begun (Form.TheVariants.Serve command) (inputs_in old)) (inputs_in new) old.hub
      new.hub status
  pub out : new.out ≡ old.out

-- what the program does to words: it writes their answer, or it serves
abbrev pub IsOutcome : List (List ℕ) → Reach → Reach → Status → Type 0
IsOutcome words old new status = IsWritten words old new status ⊎ IsServed words old new status

-- what the program does to a command, from where it begins
pub data IsDone (command : Command) (old new : Reach) (status : Status) : Type 0 where
  writes :
      (answer : Result (List ℕ) Status) → IsCommandAnswer command (inputs_in old) (inputs_in new) answer →
      Ends answer status old.out new.out →
      new.hub ≡ old.hub → IsDone command old new status
  serves :
      (serve : ServeCommand) → command ≡ Form.TheVariants.Serve serve →
      IsServeOutcome serve (inputs_in old) (inputs_in new) old.hub new.hub status → new.out ≡ old.out →
      IsDone command old new status

-- a write fault comes where the output's count of faults rose, and every other status leaves it
abbrev pub HasWriteCause : Status → ℕ → ℕ → Type 0
HasWriteCause WriteFault old new = CountRose old new
HasWriteCause status old new = new ≡ old

-- a hub fault comes where the hub's count of faults rose, and every other status leaves it
abbrev pub HasHubCause : Status → ℕ → ℕ → Type 0
HasHubCause HubFault old new = CountRose old new
HasHubCause status old new = new ≡ old

-- the words of named files
abbrev pub words_in : List Named → List ℕ
words_in files = map (λ (file : Named). file.word) files

-- the words of the files of a profile, if there are any
abbrev pub profile_words : Option CodeCommand → List ℕ
profile_words None = []
profile_words (Some files) = files.lookups.word ∷ files.profile.word ∷ []

-- the words of the files of a world
abbrev pub world_words : WorldFiles → List ℕ
world_words files = files.lookups.word ∷ (words_in files.profiles ++ (files.map.word ∷ words_in files.tiles))

-- the words of the files of a world and of a certificate
abbrev pub check_words : CheckCommand → List ℕ
check_words command = world_words (route_files command.route) ++ command.certificate.word ∷ []

-- the words of a command's files, in the order in which they are opened
abbrev pub file_words : Result Command ℕ → List ℕ
file_words (Ok (Form.TheVariants.Grid command)) = profile_words command.files
file_words (Ok (Form.TheVariants.Make command)) = []
file_words (Ok (Form.TheVariants.Code command)) = profile_words (Some command)
file_words (Ok (Form.TheVariants.Route command)) = world_words (route_files command)
file_words (Ok (Form.TheVariants.Certify command)) = world_words (route_files command.route)
file_words (Ok (Form.TheVariants.Check command)) = check_words command
file_words (Ok (Form.TheVariants.Table command)) = world_words (route_files command)
file_words (Ok (Form.TheVariants.Within command)) = world_words (route_files command.route)
file_words (Ok (Form.TheVariants.Hills command)) = []
file_words (Ok (Form.TheVariants.Serve command)) = world_words (serve_files command)
file_words (Err fault) = []

-- a read fault comes where the count of faults rose, and names the word of the file that was opened last
pub record IsReadFault (words : List ℕ) (word : ℕ) (old new : FilesSeen) : Type 0 where
  pub rose : CountRose old.faults new.faults
  pub before : ℕ
  pub opened : new.opens ≡ count_after (suc before) old.opens
  pub named : slice_get words before ≡ Some word

-- no call on the files failed, and so many of them were opened, no more than there are
pub record HasOpened (most : ℕ) (old new : FilesSeen) : Type 0 where
  pub faults : new.faults ≡ old.faults
  pub times : ℕ
  pub few : times ≤ most
  pub opened : new.opens ≡ count_after times old.opens

-- no call on the files failed, and each of them was opened once
pub record HasOpenedAll (all : ℕ) (old new : FilesSeen) : Type 0 where
  pub faults : new.faults ≡ old.faults
  pub opened : new.opens ≡ count_after all old.opens

-- what a status says of the files whose words stand in this order: a read fault comes where their count of
-- faults rose; every other status leaves it; where the output was begun, or the hub was used, each file was
-- opened once
abbrev pub HasReadCause : List ℕ → Status → FilesSeen → FilesSeen → Type 0
HasReadCause words (ReadFault word) old new = IsReadFault words word old new
HasReadCause words Done old new = HasOpenedAll (length words) old new
HasReadCause words WriteFault old new = HasOpenedAll (length words) old new
HasReadCause words TurnsSpent old new = HasOpenedAll (length words) old new
HasReadCause words HubFault old new = HasOpenedAll (length words) old new
HasReadCause words status old new = HasOpened (length words) old new

-- the status is neither a usage fault nor a fault of the outside
abbrev pub IsComplete : Status → Type 0
IsComplete (Usage word) = ⊥
IsComplete (ReadFault word) = ⊥
IsComplete WriteFault = ⊥
IsComplete HubFault = ⊥
IsComplete status = Unit {0}

-- the word of the query of a command that certifies or checks, which has to ask for a first track
abbrev pub IsQueryWord : Command → ℕ → Type 0
IsQueryWord (Form.TheVariants.Certify command) word = word ≡ command.route.query.word
IsQueryWord (Form.TheVariants.Check command) word = word ≡ command.route.query.word
IsQueryWord command word = ⊥

-- so it is of a command, but that the word of a query which asks for no first track may be at fault
abbrev pub IsCompleteOf : Command → Status → Type 0
IsCompleteOf command (Usage word) = IsQueryWord command word
IsCompleteOf command status = IsComplete status
