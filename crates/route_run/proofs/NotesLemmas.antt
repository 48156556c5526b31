-- What commands note, as one text.
use Rattle.std.proofs.Common.{◌≡◌, ℕ, inl, inr, Bool, List, [], take, Result, Ok, Err, refl, sym, ap, subst}
use Rattle.command_words.specs.Command.{address_of, command_of}
use Rattle.command_words.specs.Given.{Named}
use Rattle.command_words.specs.declared.command.CheckCommand.{CheckCommand}
use Rattle.command_words.specs.declared.command.Command.{Command}
use Rattle.command_words.specs.declared.command.Command as Form
use Rattle.command_words.specs.declared.command.RouteCommand.{RouteCommand}
use Rattle.command_words.specs.declared.command.ServeCommand.{ServeCommand}
use Rattle.edge_io.specs.Hub.{HubSeen}
use Rattle.route_engine.specs.Settings.{Question}
use Rattle.route_http.specs.Asked.{Asked}
use Rattle.route_run.proofs.NotedLemmas.{Told, ToldFront, all-front, first-told, front-all, front-more, front-writes, last-told, none-writes, noting-told, quiet-told, ready-notes, ready-told, then-told, world-notes, world-told}
use Rattle.route_run.proofs.SaidLemmas.{mapped-ok}
use Rattle.route_run.specs.Noted.{AreNotesOf, AreReadyNotes, AreWorldNotes, Is, Joins, WritesNotes}
use Rattle.route_run.specs.Offer.{MakesReady, Offer, Offers, Opens, serve_files}
use Rattle.route_run.specs.Outcome.{IsAnswer, IsCommandAnswer, IsOutcome, Reach, begun, inputs_in, wants_notes}
use Rattle.route_run.specs.Readying.{most_ready}
use Rattle.route_run.specs.Serving.{IsServeOutcome, IsServedAt, listen_note}
use Rattle.route_run.specs.Serving.{IsServeOutcome as outcome}
use Rattle.route_run.specs.Serving.{IsServedAt as serves}
use Rattle.run_answers.specs.Asks.{AnswersQuery}
use Rattle.run_answers.specs.Certify.{IsWritten}
use Rattle.run_answers.specs.Check.{IsCheckedAnswer}
use Rattle.run_answers.specs.First.{first_in}
use Rattle.run_answers.specs.Route.{IsReplied, any_in, route_files}
use Rattle.run_answers.specs.Table.{IsTabled, tabled_query}
use Rattle.run_answers.specs.Within.{IsNearbyTold, near_in}
use Rattle.run_files.proofs.NoteLemmas.{noted-none}
use Rattle.run_files.specs.Certificate.{TakesCertificate}
use Rattle.run_files.specs.NoteLines.{certificate_note}
use Rattle.run_files.specs.Notes.{Inputs, IsNoted, NotesSeen, heard}
use Rattle.run_files.specs.World.{OfferedValue}
use Rattle.run_files.specs.declared.status.Status.{Status}
use Rattle.run_files.specs.declared.status.Status.TheVariants.{Usage}

-- ---- The commands

-- a command that asks something of its query
query-told : (reads : Named → Result Asked Status) (answers : Question → Result (List ℕ) Status → Type 0) (command : RouteCommand)
    (old new : Inputs) (r : Result (List ℕ) Status) → AnswersQuery reads answers command old new r →
    Told (AreWorldNotes (route_files command)) old.notes new.notes r
query-told reads answers command =
    first-told _ _ (AreWorldNotes (route_files command)) _ (world-notes (route_files command))
    (λ old new r is. ap (λ (i : Inputs). i.notes) is.same)
    (λ asked. last-told _ _ (AreWorldNotes (route_files command)) (world-told (route_files command))
    (λ offered old new r is. ap (λ (i : Inputs). i.notes) is.1))

-- notes on a world and a certificate
abbrev AreCheckNotes : CheckCommand → List ℕ → Type 0
AreCheckNotes command = Joins (AreWorldNotes (route_files command.route)) (Is (certificate_note command.certificate))

check-notes : (command : CheckCommand) → (text : List ℕ) × AreCheckNotes command text
check-notes command = (
  _,
  record {
    first = _;
    second = certificate_note command.certificate;
    is_first = world-notes (route_files command.route);
    is_second = refl;
    parts = refl;
  },
)

-- the command `check`
check-told : (command : CheckCommand) (old new : Inputs) (r : Result (List ℕ) Status) → IsCheckedAnswer command old new r →
    Told (AreCheckNotes command) old.notes new.notes r
check-told command =
    let some = check-notes command in
    first-told _ _ (AreCheckNotes command) some.0 some.1 (λ old new r is. ap (λ (i : Inputs). i.notes) is.same)
    (λ asked. then-told _ _ (AreWorldNotes (route_files command.route)) (Is (certificate_note command.certificate))
    (certificate_note command.certificate) refl (world-told (route_files command.route))
    (λ offered. last-told _ _ (Is (certificate_note command.certificate))
    (noting-told (TakesCertificate offered.world.map command.certificate) (certificate_note command.certificate))
    (λ certificate old new r is. ap (λ (i : Inputs). i.notes) is.1)))

-- all commands that have something to write
answer-told : (command : Command) (old new : Inputs) (r : Result (List ℕ) Status) → IsCommandAnswer command old new r →
    Told (AreNotesOf command) old.notes new.notes r
answer-told (Form.TheVariants.Grid command) old new r is = quiet-told old.notes new.notes r is.1
answer-told (Form.TheVariants.Make command) old new r is = quiet-told old.notes new.notes r (ap (λ (i : Inputs). i.notes) is.same)
answer-told (Form.TheVariants.Code command) old new r is = quiet-told old.notes new.notes r is.1
answer-told (Form.TheVariants.Route command) old new r is = query-told any_in IsReplied command old new r is
answer-told (Form.TheVariants.Certify command) old new r is = query-told first_in (IsWritten command.bound) command.route old new r is
answer-told (Form.TheVariants.Check command) old new r is = check-told command old new r is
answer-told (Form.TheVariants.Table command) old new r is = query-told tabled_query IsTabled command old new r is
answer-told (Form.TheVariants.Within command) old new r is = query-told (near_in command.cost) IsNearbyTold command.route old new r is
answer-told (Form.TheVariants.Hills command) old new r is = quiet-told old.notes new.notes r (ap (λ (i : Inputs). i.notes) is.1)
answer-told (Form.TheVariants.Serve command) old new r is = absurd is

-- what was noted with an answer is a front, whatever the answer is
told-front : {A : Type 0} (Texts : List ℕ → Type 0) (old new : NotesSeen) (r : Result A Status) → Told Texts old new r →
    ToldFront Texts old new
told-front Texts old new (Ok a) told = front-all Texts old new told
told-front Texts old new (Err status) told = told

-- ---- The command `serve`

-- the profiles that are made ready
abbrev AreFirstNotes : ServeCommand → List ℕ → Type 0
AreFirstNotes command = AreReadyNotes (take most_ready command.profiles)

-- what is offered
abbrev AreOfferNotes : ServeCommand → List ℕ → Type 0
AreOfferNotes command = Joins (AreWorldNotes (serve_files command)) (AreFirstNotes command)

made-told : (files : List Named) (offer : Offer) (old new : Inputs) (r : Result Offer Status) → MakesReady files offer old new r →
    Told (AreReadyNotes (take most_ready files)) old.notes new.notes r
made-told files offer old new r is =
    subst (Told (AreReadyNotes (take most_ready files)) old.notes new.notes) (sym is.gives)
    (ready-told offer.0.world offer.1.stored 0 (take most_ready files) old.notes new.notes is.readied)

opens-told : (command : ServeCommand) (offered : OfferedValue) (old new : Inputs) (r : Result Offer Status) →
    Opens command offered old new r → Told (AreFirstNotes command) old.notes new.notes r
opens-told command offered =
    let some = ready-notes (take most_ready command.profiles) in
    first-told _ _ (AreFirstNotes command) some.text some.is (λ old new r is. ap (λ (i : Inputs). i.notes) is.same)
    (made-told command.profiles)

offers-told : (command : ServeCommand) (old new : Inputs) (r : Result Offer Status) → Offers command old new r →
    Told (AreOfferNotes command) old.notes new.notes r
offers-told command =
    let some = ready-notes (take most_ready command.profiles) in
    then-told _ _ (AreWorldNotes (serve_files command)) (AreFirstNotes command) some.text some.is (world-told (serve_files command))
    (opens-told command)

-- where it listens
served-told : (address : List ℕ) (hangup : Bool) (turns : ℕ) (offer : Offer) (hub_old hub_new : HubSeen) (old new : NotesSeen)
    (status : Status) → IsServedAt address hangup turns offer hub_old hub_new old new status → ToldFront (Is (listen_note address)) old new
served-told address hangup turns offer hub_old hub_new old new _ (serves.shut fails same) = record {
  front = [];
  rest = listen_note address;
  is = refl;
  noted = subst (λ (s : NotesSeen). IsNoted [] old s) (sym same) (noted-none old);
}
served-told address hangup turns offer hub_old hub_new old new _ (serves.served does is to) =
    front-all (Is (listen_note address)) old new (record { text = listen_note address; is = refl; noted = is })

serve-told : (command : ServeCommand) (old new : Inputs) (hub_old hub_new : HubSeen) (status : Status) →
    IsServeOutcome command old new hub_old hub_new status → ToldFront (AreNotesOf (Form.TheVariants.Serve command)) old.notes new.notes
serve-told command old new hub_old hub_new status (outcome.refused offers same) =
    front-more (AreOfferNotes command) (Is (listen_note (address_of command.listen))) old.notes new.notes
    (listen_note (address_of command.listen)) refl (offers-told command old new (Err status) offers)
serve-told command old new hub_old hub_new status (outcome.served {offer = offer} {between = between} offers to) =
    all-front (AreOfferNotes command) (Is (listen_note (address_of command.listen))) old.notes between new.notes
    (offers-told command old (record { files = new.files; notes = between }) (Ok offer) offers)
    (served-told (address_of command.listen) command.hangup command.turns offer hub_old hub_new between new.notes status to)

-- ---- All words

-- each command has notes
notes-of : (command : Command) → (text : List ℕ) × AreNotesOf command text
notes-of (Form.TheVariants.Grid command) = ([], refl)
notes-of (Form.TheVariants.Make command) = ([], refl)
notes-of (Form.TheVariants.Code command) = ([], refl)
notes-of (Form.TheVariants.Route command) = (_, world-notes (route_files command))
notes-of (Form.TheVariants.Certify command) = (_, world-notes (route_files command.route))
notes-of (Form.TheVariants.Check command) = check-notes command
notes-of (Form.TheVariants.Table command) = (_, world-notes (route_files command))
notes-of (Form.TheVariants.Within command) = (_, world-notes (route_files command.route))
notes-of (Form.TheVariants.Hills command) = ([], refl)
notes-of (Form.TheVariants.Serve command) =
    let some = ready-notes (take most_ready command.profiles) in (
      _,
      record {
        first = _;
        second = listen_note (address_of command.listen);
        is_first = record {
          first = _;
          second = some.text;
          is_first = world-notes (serve_files command);
          is_second = some.is;
          parts = refl;
        };
        is_second = refl;
        parts = refl;
      },
    )

-- where nothing was noted
same-notes : (named : Result Command ℕ) (old new : NotesSeen) → new ≡ old → WritesNotes named old new
same-notes (Ok command) old new same =
    none-writes (AreNotesOf command) (wants_notes command) (notes-of command).0 old.sink new.sink (notes-of command).1
    (ap (λ (s : NotesSeen). s.sink) same)
same-notes (Err word) old new same = ap (λ (s : NotesSeen). s.sink) same

-- what the program writes to its notes
pub outcome-noted : (words : List (List ℕ)) (old new : Reach) (status : Status) → IsOutcome words old new status →
    WritesNotes (command_of words) old.notes new.notes
outcome-noted words old new status (inl is) = go is.given
  where
    go : IsAnswer words (inputs_in old) (inputs_in new) is.answer → WritesNotes (command_of words) old.notes new.notes
    go (inl stops) = same-notes (command_of words) old.notes new.notes (ap (λ (i : Inputs). i.notes) stops.refused.same)
    go (inr goes) =
        let named : command_of words ≡ Ok goes.value = mapped-ok Usage (command_of words) goes.value goes.given.gives in
        let told : Told (AreNotesOf goes.value) (heard (wants_notes goes.value) old.notes) new.notes is.answer =
        subst (λ (i : Inputs). Told (AreNotesOf goes.value) (heard (wants_notes goes.value) i.notes) new.notes is.answer) goes.given.same
        (answer-told goes.value (begun goes.value goes.between) (inputs_in new) is.answer goes.rest) in
        subst (λ (c : Result Command ℕ). WritesNotes c old.notes new.notes) (sym named)
        (front-writes (AreNotesOf goes.value) (wants_notes goes.value) old.notes new.notes
        (told-front (AreNotesOf goes.value) (heard (wants_notes goes.value) old.notes) new.notes is.answer told))
outcome-noted words old new status (inr is) =
    subst (λ (c : Result Command ℕ). WritesNotes c old.notes new.notes) (sym is.named)
    (front-writes (AreNotesOf (Form.TheVariants.Serve is.command)) is.command.notes old.notes new.notes
    (serve-told is.command (begun (Form.TheVariants.Serve is.command) (inputs_in old)) (inputs_in new) old.hub new.hub status is.serves))
