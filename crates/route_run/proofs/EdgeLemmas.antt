-- What a command line comes to at the edge of the program.
use Rattle.std.proofs.Common.{◌≡◌, ℕ, inl, inr, true, false, List, [], Option, Some, None, Result, Ok, Err, OnOk, OnErr, refl, subst}
use Rattle.edge_io.specs.Files.{FilesSeen}
use Rattle.edge_io.specs.Sink.{SinkSeen, Grows, BreaksOff}
use Rattle.route_run.specs.Edge.{IsEnd, IsReplyBy, IsTelling, IsPrinted, IsTold, told_by}
use Rattle.route_run.specs.Ends.{Ends}
use Rattle.route_run.specs.Outcome.{Reach, reach}
use Rattle.run_files.specs.Notes.{NotesSeen}
use Rattle.run_files.specs.Status.{number_of_status}
use Rattle.command_words.specs.Help.{told_of}
use Rattle.edge_io.specs.Hub.{HubSeen}
use Rattle.run_files.specs.declared.status.Status.{Status}
use Rattle.run_files.specs.declared.status.Status.TheVariants.{NoMemory}

-- a text that was told
pub reply-told : (words : List (List ℕ)) (text : List ℕ) (files : FilesSeen) (hub : HubSeen) (notes : NotesSeen) (old new : SinkSeen)
    (status : Status) → Some text ≡ told_of words → Ends (Ok text) status old new →
    IsReplyBy words (told_of words) (reach files old hub notes) (reach files new hub notes) status
reply-told words text files hub notes old new status is ends =
    subst (λ (told : Option (List ℕ)). IsReplyBy words told (reach files old hub notes) (reach files new hub notes) status) is
    (record { answer = Ok text; given = record { gives = refl; same = refl }; ends = ends; hub = refl; notes = refl })

-- want of memory before anything was told or read
pub reply-memory : (words : List (List ℕ)) (told : Option (List ℕ)) (at : Reach) → IsReplyBy words told at at NoMemory
reply-memory words (Some text) at =
    record { answer = Err NoMemory; given = record { gives = inl refl; same = refl }; ends = (refl, refl); hub = refl; notes = refl }
reply-memory words None at = inl (record {
  answer = Err NoMemory;
  given = inl (record { status = NoMemory; refused = record { gives = inl refl; same = refl }; answer = refl });
  ends = (refl, refl);
  hub = refl;
})

-- bytes that were sent were written, whole or a front of them
pub is_written : {T E : Type 0} (result : Result T E) (bytes : List ℕ) (old new : SinkSeen) → OnOk result (Grows old new bytes) →
    OnErr result (BreaksOff old new bytes) → IsPrinted bytes old new
is_written (Ok a) bytes old new whole front = inl whole
is_written (Err e) bytes old new whole front = inr front

-- a status whose line was sent is told
pub telling : {T E : Type 0} (result : Result T E) (lines : Status → List ℕ) (status told : Status) (bytes : List ℕ)
    (old new : SinkSeen) (number : ℕ) → IsTold status told → bytes ≡ lines told
    → OnOk result (Grows old new bytes) → OnErr result (BreaksOff old new bytes) → number ≡ number_of_status told →
    IsTelling lines status old new number
telling result lines status told bytes old new number is_told is whole front number_is = record {
  told = told;
  is_told = is_told;
  line = subst (λ b. IsPrinted b old new) is (is_written result bytes old new whole front);
  number_is = number_is;
}

-- words that were read are answered, and behind the notes it is told how that ended
pub end-read : (words : List (List ℕ)) (old : Reach) (files : FilesSeen) (out : SinkSeen) (hub : HubSeen) (noted said : NotesSeen)
    (status : Status) (number : ℕ) → IsReplyBy words (told_of words) old (reach files out hub noted) status →
    IsTelling (told_by true words) status noted.sink said.sink number → IsEnd (Ok words) old (reach files out hub said) number
end-read words old files out hub noted said status number reply telling =
    record { status = status; noted = noted; reply = reply; telling = telling }

-- words that couldn't be read are told to be so
pub end-unread : (refusal : Status) (files : FilesSeen) (out : SinkSeen) (hub : HubSeen) (notes said : NotesSeen) (number : ℕ) →
    IsTelling (told_by false []) refusal notes.sink said.sink number →
    IsEnd (Err refusal) (reach files out hub notes) (reach files out hub said) number
end-unread refusal files out hub notes said number telling =
    record { status = refusal; noted = notes; reply = (refl, refl); telling = telling }
