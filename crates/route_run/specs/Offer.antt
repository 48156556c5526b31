-- What a server offers: a world and profiles, taken in from files. This project's own rule.
use Rattle.std.specs.Prelude.{◌≡◌, ℕ, List, length, Result, Ok}
use Rattle.command_words.specs.Given.{Named}
use Rattle.command_words.specs.declared.command.ServeCommand.{ServeCommand}
use Rattle.hall.specs.State.{Service, State, empty_hall}
use Rattle.hall.specs.View.{HallValue, service_of, state_of}
use Rattle.route_run.specs.Readying.{ReadiesFirst}
use Rattle.run_files.specs.Chain.{Settles, Then}
use Rattle.run_files.specs.Notes.{Inputs, NotedStage}
use Rattle.run_files.specs.declared.status.Status.{Status}
use Rattle.run_files.specs.World.{OfferedValue, TakesWorld, WorldFiles}

-- what is offered: what all connections share, and what the hall holds at first
abbrev pub Offer : Type 0
Offer = Service × State

-- a world with profiles as an offer, to which nobody is connected yet, and whose searches settle so many labels
-- at most
abbrev pub offer_over : ℕ → OfferedValue → Offer
offer_over labels offered =
    (record { world = offered.world; given = length offered.profiles; labels = labels }, empty_hall offered.profiles)

-- nobody is connected yet
abbrev pub IsNew : Offer → Type 0
IsNew offer = offer.1 ≡ empty_hall offer.1.stored

-- the files of the command
abbrev pub serve_files : ServeCommand → WorldFiles
serve_files command = record {
  lookups = command.lookups;
  profiles = command.profiles;
  map = command.map;
  tiles = command.tiles;
}

-- the first of what is offered by the profiles of these files are made ready, and each is noted; the offer stays
pub record MakesReady (files : List Named) (offer : Offer) (old new : Inputs) (result : Result Offer Status) :
    Type 0 where
  pub readied : ReadiesFirst offer.0.world offer.1.stored files old.notes new.notes
  pub same : new.files ≡ old.files
  pub gives : result ≡ Ok offer

-- what is opened over what the files hold: a hall, in which the first profiles are made ready
abbrev pub Opens : ServeCommand → OfferedValue → NotedStage Offer
Opens command offered =
    Then (Settles (Ok (offer_over command.labels offered))) (MakesReady command.profiles)

-- what the command `serve` offers: the files of the tag table, of the profiles, of the map and of the tiles
-- are taken in one after the other, and then the first profiles are made ready; each is noted. The first refusal
-- of a file ends it
abbrev pub Offers : ServeCommand → NotedStage Offer
Offers command = Then (TakesWorld (serve_files command)) (Opens command)

-- what a hall is, as an offer
abbrev pub offer_of : HallValue → Offer
offer_of hall = (service_of hall, state_of hall)
