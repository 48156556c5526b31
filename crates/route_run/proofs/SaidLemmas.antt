-- What the statuses of the whole program say: of the files, of the output, of the hub, and without a fault of the outside.
use Rattle.std.proofs.Common.{◌≡◌, ℕ, Bool, inl, inr, List, length, Result, Ok, Err, refl, sym, ap, ◌∙◌, subst}
use Rattle.command_words.specs.Command.{address_of, command_of}
use Rattle.command_words.specs.declared.command.Command.{Command}
use Rattle.command_words.specs.declared.command.Command as Form
use Rattle.command_words.specs.declared.command.ServeCommand.{ServeCommand}
use Rattle.edge_io.specs.Faults.{CountRose}
use Rattle.edge_io.specs.Files.{FilesSeen}
use Rattle.edge_io.specs.Hub.{HubSeen}
use Rattle.edge_io.specs.Sink.{SinkSeen}
use Rattle.item_list.specs.Answer.{Answers, answer_map}
use Rattle.route_run.proofs.CauseLemmas.{Cause, RefusalCause, files_in, opened-none}
use Rattle.route_run.proofs.CommandLemmas.{command-cause, offers-cause}
use Rattle.route_run.specs.Ends.{Ends}
use Rattle.route_run.specs.Offer.{Offer}
use Rattle.route_run.specs.Outcome.{IsDone as done}
use Rattle.route_run.specs.Outcome.{HasWriteCause, HasHubCause, HasOpenedAll, HasReadCause, IsAnswer, IsCompleteOf, IsDone, IsOutcome, IsQueryWord, Reach, begun, command_in, file_words, inputs_in, wants_notes}
use Rattle.route_run.specs.Serving.{IsServeOutcome as outcome}
use Rattle.route_run.specs.Serving.{IsServedAt as serves}
use Rattle.route_run.specs.Serving.{IsServeOutcome, IsServedAt, status_of_end}
use Rattle.run_files.specs.Notes.{Inputs, NotesSeen, heard, inputs}
use Rattle.run_files.specs.declared.status.Status.{Status}
use Rattle.run_files.specs.declared.status.Status.TheVariants.{Done, Usage, Query, TooLong, Lookup, Text, Check, Map, Tile, Certificate, Route, Refuted, NotFound, ReadFault, WriteFault, TurnsSpent, HubFault, NoMemory}
use Rattle.hall.specs.Served.{EndsBy}
use Rattle.hall.specs.declared.serve_end.ServeEnd.{ServeEnd}
use Rattle.hall.specs.declared.serve_end.ServeEnd.TheVariants as end

-- the words of a command that may be told at fault
abbrev pub Faulty : Result Command ℕ → ℕ → Type 0
Faulty named word = (command : Command) → named ≡ Ok command → IsQueryWord command word

-- all that is said of the status of words that are this command, or are at fault here
pub record Said (named : Result Command ℕ) (old new : Reach) (status : Status) : Type 0 where
  pub read : HasReadCause (file_words named) status old.files new.files
  pub written : HasWriteCause status old.out.faults new.out.faults
  pub hub : HasHubCause status old.hub.faults new.hub.faults
  pub complete :
      (command : Command) → named ≡ Ok command → (CountRose old.out.faults new.out.faults → ⊥) →
      (CountRose old.files.faults new.files.faults → ⊥) →
      (CountRose old.hub.faults new.hub.faults → ⊥) → IsCompleteOf command status

module _ (named : Result Command ℕ) (old new : Reach)
  where
    -- of a refusal with its cause, where the output and the hub have the faults that they had
    refusal-said : (status : Status) → RefusalCause (Faulty named) (file_words named) old.files new.files status →
        new.out.faults ≡ old.out.faults → new.hub.faults ≡ old.hub.faults → Said named old new status
    refusal-said (ReadFault word) c out hub =
        record { read = c; written = out; hub = hub; complete = λ command is still calm quiet. absurd (calm c.rose) }
    refusal-said (Usage word) c out hub =
        record { read = c.1; written = out; hub = hub; complete = λ command is still calm quiet. c.0 command is }
    refusal-said Done c out hub = absurd c
    refusal-said WriteFault c out hub = absurd c
    refusal-said TurnsSpent c out hub = absurd c
    refusal-said HubFault c out hub = absurd c
    refusal-said (Query error) c out hub = record { read = c; written = out; hub = hub; complete = λ command is still calm quiet. tt }
    refusal-said (TooLong word) c out hub = record { read = c; written = out; hub = hub; complete = λ command is still calm quiet. tt }
    refusal-said (Lookup word error) c out hub = record { read = c; written = out; hub = hub; complete = λ command is still calm quiet. tt }
    refusal-said (Text word error) c out hub = record { read = c; written = out; hub = hub; complete = λ command is still calm quiet. tt }
    refusal-said (Check word error) c out hub = record { read = c; written = out; hub = hub; complete = λ command is still calm quiet. tt }
    refusal-said (Map word error) c out hub = record { read = c; written = out; hub = hub; complete = λ command is still calm quiet. tt }
    refusal-said (Certificate word error) c out hub =
        record { read = c; written = out; hub = hub; complete = λ command is still calm quiet. tt }
    refusal-said (Refuted leg why) c out hub = record { read = c; written = out; hub = hub; complete = λ command is still calm quiet. tt }
    refusal-said (Tile word error) c out hub = record { read = c; written = out; hub = hub; complete = λ command is still calm quiet. tt }
    refusal-said (Route error line) c out hub = record { read = c; written = out; hub = hub; complete = λ command is still calm quiet. tt }
    refusal-said (NotFound word) c out hub = record { read = c; written = out; hub = hub; complete = λ command is still calm quiet. tt }
    refusal-said NoMemory c out hub = record { read = c; written = out; hub = hub; complete = λ command is still calm quiet. tt }

    -- of an answer that ends over the output, where the hub has the faults that it had
    answer-said : (answer : Result (List ℕ) Status) (status : Status) → Cause (Faulty named) (file_words named) old.files new.files answer →
        Ends answer status old.out new.out → new.hub.faults ≡ old.hub.faults → Said named old new status
    answer-said (Err refusal) status cause ends hub =
        subst (Said named old new) (sym ends.0) (refusal-said refusal cause (ap (λ (s : SinkSeen). s.faults) ends.1) hub)
    answer-said (Ok bytes) Done all ends hub =
        record { read = all; written = ends.faults; hub = hub; complete = λ command is still calm quiet. tt }
    answer-said (Ok bytes) WriteFault all ends hub =
        record { read = all; written = ends.rose; hub = hub; complete = λ command is still calm quiet. absurd (still ends.rose) }
    answer-said (Ok bytes) TurnsSpent all ends hub = absurd ends
    answer-said (Ok bytes) HubFault all ends hub = absurd ends
    answer-said (Ok bytes) (Usage word) all ends hub = absurd ends
    answer-said (Ok bytes) (Query error) all ends hub = absurd ends
    answer-said (Ok bytes) (TooLong word) all ends hub = absurd ends
    answer-said (Ok bytes) (Lookup word error) all ends hub = absurd ends
    answer-said (Ok bytes) (Text word error) all ends hub = absurd ends
    answer-said (Ok bytes) (Check word error) all ends hub = absurd ends
    answer-said (Ok bytes) (Map word error) all ends hub = absurd ends
    answer-said (Ok bytes) (Certificate word error) all ends hub = absurd ends
    answer-said (Ok bytes) (Refuted leg why) all ends hub = absurd ends
    answer-said (Ok bytes) (Tile word error) all ends hub = absurd ends
    answer-said (Ok bytes) (Route error line) all ends hub = absurd ends
    answer-said (Ok bytes) (NotFound word) all ends hub = absurd ends
    answer-said (Ok bytes) (ReadFault word) all ends hub = absurd ends
    answer-said (Ok bytes) NoMemory all ends hub = absurd ends

    -- of the end of a server, where the output has the faults that it had
    served-said : (address : List ℕ) (hangup : Bool) (turns : ℕ) (offer : Offer) (between : NotesSeen) (status : Status) →
        HasOpenedAll (length (file_words named)) old.files new.files →
        IsServedAt address hangup turns offer old.hub new.hub between new.notes status → new.out.faults ≡ old.out.faults →
        Said named old new status
    served-said address hangup turns offer between _ all (serves.shut fails same) out =
        record { read = all; written = out; hub = fails.rose; complete = λ command is still calm quiet. absurd (quiet fails.rose) }
    served-said address hangup turns offer between _ all (serves.served {opened = opened} {end = how} does noted to) out = go how to.served.ends
      where
        go : (how : ServeEnd) → EndsBy how turns to.served.n to.served.over opened new.hub → Said named old new (status_of_end how)
        go end.Over ends = record { read = all; written = out; hub = ends.2 ∙ does.faults; complete = λ command is still calm quiet. tt }
        go end.TurnsSpent ends = record {
          read = all;
          written = out;
          hub = ends.2
              ∙ does.faults;
          complete = λ command is still calm quiet. tt;
        }
        go end.HubFault ends =
            let rose : CountRose old.hub.faults new.hub.faults = subst (λ (n : ℕ). CountRose n new.hub.faults) does.faults ends.2 in
            record { read = all; written = out; hub = rose; complete = λ command is still calm quiet. absurd (quiet rose) }

-- of the command `serve`
serve-said : (command : ServeCommand) (old new : Reach) (begins : Inputs) (status : Status) → begins.files ≡ old.files →
    IsServeOutcome command begins (inputs_in new) old.hub new.hub status →
    new.out.faults ≡ old.out.faults → Said (Ok (Form.TheVariants.Serve command)) old new status
serve-said command old new begins status is (outcome.refused offers same) out =
    refusal-said (Ok (Form.TheVariants.Serve command)) old new status
    (subst (λ (s : FilesSeen). RefusalCause (Faulty (Ok (Form.TheVariants.Serve command))) (file_words (Ok (Form.TheVariants.Serve command)))
    s new.files status) is
    (offers-cause (Faulty (Ok (Form.TheVariants.Serve command))) command begins (inputs_in new) (Err status) offers)) out
    (ap (λ (s : HubSeen). s.faults) same)
serve-said command old new begins status is (outcome.served {offer = offer} {between = between} offers to) out =
    served-said (Ok (Form.TheVariants.Serve command)) old new (address_of command.listen) command.hangup command.turns offer between status
    (subst (λ (s : FilesSeen). HasOpenedAll (length (file_words (Ok (Form.TheVariants.Serve command)))) s new.files) is
    (offers-cause (Faulty (Ok (Form.TheVariants.Serve command))) command begins (inputs new.files between) (Ok offer) offers)) to out

-- of words that are at fault, where nothing is done
words-said : (named : Result Command ℕ) (old new : Reach) (status : Status) → answer_map (λ (c : Command). c) Usage named ≡ Err status →
    new.files ≡ old.files → new.out.faults ≡ old.out.faults → new.hub.faults ≡ old.hub.faults → Said named old new status
words-said (Ok command) old new status is files out hub = cc
words-said (Err fault) old new status is files out hub =
    let same : Usage fault ≡ status = cc in
    subst (Said (Err fault) old new) same
    (record { read = opened-none 0 old.files new.files files; written = out; hub = hub; complete = λ command named still calm quiet. cc })

-- a value of the words is their command
pub mapped-ok : {A E : Type 0} (told : E → Status) (r : Result A E) (a : A) → answer_map (λ (x : A). x) told r ≡ Ok a → r ≡ Ok a
mapped-ok told (Ok x) a is = let same : x ≡ a = cc in ap Ok same
mapped-ok told (Err e) a is = cc

-- of words that are answered over the output, where the hub has the faults that it had
written-said : (words : List (List ℕ)) (old new : Reach) (answer : Result (List ℕ) Status) (status : Status) →
    IsAnswer words (inputs_in old) (inputs_in new) answer →
    Ends answer status old.out new.out → new.hub.faults ≡ old.hub.faults → Said (command_of words) old new status
written-said words old new answer status (inl stops) ends hub =
    let ended : Ends (Err stops.status) status old.out new.out =
    subst (λ (a : Result (List ℕ) Status). Ends a status old.out new.out) stops.answer ends in
    let out : new.out.faults ≡ old.out.faults = ap (λ (s : SinkSeen). s.faults) ended.1 in
    let none : Said (command_of words) old new NoMemory =
    refusal-said (command_of words) old new NoMemory
    (opened-none (length (file_words (command_of words))) old.files new.files (ap files_in stops.refused.same)) out hub in
    subst (Said (command_of words) old new) (sym ended.0)
    (elim stops.refused.gives [
      | inl is ↦ subst (Said (command_of words) old new) (sym is) none
      | inr is ↦ words-said (command_of words) old new stops.status is (ap files_in stops.refused.same) out hub
    ])
written-said words old new answer status (inr goes) ends hub =
    let named : command_of words ≡ Ok goes.value = mapped-ok Usage (command_of words) goes.value goes.given.gives in
    let may : (word : ℕ) → IsQueryWord goes.value word → Faulty (Ok goes.value) word =
    λ word is command same. (let one : goes.value ≡ command = cc in subst (λ (c : Command). IsQueryWord c word) one is) in
    let cause : Cause (Faulty (Ok goes.value)) (file_words (Ok goes.value)) old.files new.files answer =
    subst (λ (s : Inputs). Cause (Faulty (Ok goes.value)) (file_words (Ok goes.value)) s.files new.files answer) goes.given.same
    (command-cause (Faulty (Ok goes.value)) goes.value may (begun goes.value goes.between) (inputs_in new) answer goes.rest) in
    subst (λ (c : Result Command ℕ). Said c old new status) (sym named) (answer-said (Ok goes.value) old new answer status cause ends hub)

-- of all words
pub outcome-said : (words : List (List ℕ)) (old new : Reach) (status : Status) → IsOutcome words old new status →
    Said (command_of words) old new status
outcome-said words old new status (inl is) =
    written-said words old new is.answer status is.given is.ends (ap (λ (s : HubSeen). s.faults) is.hub)
outcome-said words old new status (inr is) =
    subst (λ (c : Result Command ℕ). Said c old new status) (sym is.named)
    (serve-said is.command old new (begun (Form.TheVariants.Serve is.command) (inputs_in old)) status refl is.serves
    (ap (λ (s : SinkSeen). s.faults) is.out))

-- ---- What is done to words

-- where a command begins: notes are written only if it wants them
abbrev pub begins_at : Command → Reach → Reach
begins_at command old = record old { notes = heard (wants_notes command) old.notes }

-- words that are a command, which was done
pub outcome-done : (words : List (List ℕ)) (old new : Reach) (status : Status) (command : Command) →
    Answers (λ (c : Command). c) (command_in words) NoMemory (Ok command) → IsDone command (begins_at command old) new status →
    IsOutcome words old new status
outcome-done words old new status command read (done.writes answer given ends hub) =
    inl (record {
      answer = answer;
      given = inr (record {
        value = command;
        between = inputs_in old;
        given = record { gives = read; same = refl };
        rest = given;
      });
      ends = ends;
      hub = hub;
    })
outcome-done words old new status command read (done.serves serve is serves out) =
    inr (record {
      command = serve;
      named = mapped-ok Usage (command_of words) (Form.TheVariants.Serve serve) (read ∙ ap Ok is);
      serves = subst (λ (c : Command). IsServeOutcome serve (begun c (inputs_in old)) (inputs_in new) old.hub new.hub status) is serves;
      out = out;
    })

-- words that are refused
pub outcome-refused : (words : List (List ℕ)) (at : Reach) (status : Status) →
    Answers (λ (c : Command). c) (command_in words) NoMemory (Err status) → IsOutcome words at at status
outcome-refused words at status gives =
    inl (record {
      answer = Err status;
      given = inl (record { status = status; refused = record { gives = gives; same = refl }; answer = refl });
      ends = (refl, refl);
      hub = refl;
    })
