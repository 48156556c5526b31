-- What the command `serve` does: what it offers is served over a hub. This project's own rule.
use Rattle.std.specs.Prelude.{ℕ, ◌≡◌, Bool, List, [], ◌∷◌, ◌++◌, Some, Ok, Err, codes}
use Rattle.command_words.specs.Command.{address_of}
use Rattle.command_words.specs.declared.command.ServeCommand.{ServeCommand}
use Rattle.edge_io.specs.Acts.{Act, Listens}
use Rattle.edge_io.specs.Hub.{Does, Fails, HubSeen}
use Rattle.hall.specs.State.{State}
use Rattle.route_run.specs.Offer.{Offer, Offers}
use Rattle.run_files.specs.Notes.{Inputs, IsNoted, NotesSeen, inputs}
use Rattle.run_files.specs.declared.status.Status.{Status}
use Rattle.run_files.specs.declared.status.Status.TheVariants as status
use Rattle.hall.specs.Allowed.{AreAllowed}
use Rattle.hall.specs.Held.{AreFew}
use Rattle.hall.specs.Law.{GetsOwn}
use Rattle.hall.specs.Served.{Served}
use Rattle.hall.specs.Sound.{IsSound}
use Rattle.hall.specs.Turns.{EventOf, Turns}
use Rattle.hall.specs.Uploads.{GrowsByUploads}
use Rattle.hall.specs.Waiting.{AllEndInTime, EndedEachWait}
use Rattle.hall.specs.declared.serve_end.ServeEnd.{ServeEnd}
use Rattle.hall.specs.declared.serve_end.ServeEnd.TheVariants.{Over, TurnsSpent, HubFault}

-- the status in which a server ends
abbrev pub status_of_end : ServeEnd → Status
status_of_end Over = status.Done
status_of_end TurnsSpent = status.TurnsSpent
status_of_end HubFault = status.HubFault

-- an offer was served to so many turns from an opened hub on: all that the hub told since is a run of turns.
-- In this run no search went on for ever: each session that waited was answered or lost in time; and so it is
-- after any turns from the offer. What is left is sound, with no more connections than may be, and each frame
-- in it is allowed. Where the hub tells, each connection got its own, and what is stored grew by the accepted
-- uploads alone
pub record IsServedTo (turns : ℕ) (offer : Offer) (opened : HubSeen) (end : ServeEnd) (new : HubSeen) :
    Type 0 where
  pub left : State
  pub served : Served offer.0 turns offer.1 opened end left new
  pub in_time : EndedEachWait served.run.turns
  pub after_any : (n : ℕ) (acts : List Act) (between : State) → Turns offer.0 offer.1 n acts between →
      AllEndInTime offer.0 between
  pub sound : IsSound offer.0 left
  pub few : (away : Bool) → AreFew left away
  pub allowed : AreAllowed offer.0 left
  pub own :
      (before : List Act) → opened.acts ≡ Some before → (id : ℕ) →
      GetsOwn offer.0 (EventOf served.run.turns) id served.acts
  pub grows : (before : List Act) → opened.acts ≡ Some before → GrowsByUploads served.run

-- the note that a server listens
abbrev pub listen_note : List ℕ → List ℕ
listen_note address = codes "listening on " ++ (address ++ codes "\n")

-- an offer is served: the hub couldn't be opened; or it was, once, at this address and with an end of a peer as
-- the loss of its connection or not, which is noted, and then turns were taken
pub data IsServedAt (address : List ℕ) (hangup : Bool) (turns : ℕ) (offer : Offer) (old new : HubSeen) (notes_old
    notes_new : NotesSeen) : Status → Type 0 where
  shut :
      Fails old new → notes_new ≡ notes_old →
      IsServedAt address hangup turns offer old new notes_old notes_new status.HubFault
  served :
      {opened : HubSeen} {end : ServeEnd} → Does old opened (Listens address hangup ∷ []) →
      IsNoted (listen_note address) notes_old notes_new → IsServedTo turns offer opened end new →
      IsServedAt address hangup turns offer old new notes_old notes_new (status_of_end end)

-- what the command `serve` does: what it offers is refused, and the hub is left; or it is served at the
-- command's address, with ends as the command says, and the files are left
pub data IsServeOutcome (command : ServeCommand) (old new : Inputs) (hub_old hub_new : HubSeen) (status :
    Status) : Type 0 where
  refused : Offers command old new (Err status) → hub_new ≡ hub_old →
      IsServeOutcome command old new hub_old hub_new status
  served :
      {offer : Offer} {between : NotesSeen} → Offers command old (inputs new.files between) (Ok offer) →
      IsServedAt (address_of command.listen) command.hangup command.turns offer hub_old hub_new between new.notes
      status →
      IsServeOutcome command old new hub_old hub_new status
