-- Profiles that are made ready one after the other.
use Rattle.std.proofs.Common.{◌≡◌, ℕ, List, drop, sym, subst}
use Rattle.command_words.specs.Given.{Named}
use Rattle.route_ready.specs.Worlds.{WorldValue}
use Rattle.route_run.specs.Offer.{IsNew, Offer}
use Rattle.route_run.specs.Readying.{ReadiesFrom}
use Rattle.run_files.specs.Notes.{NotesSeen}
use Rattle.session_answers.specs.Stored.{Stored}

-- what is noted of the profiles from a place on is noted of all
abbrev pub GoesReady : (world : WorldValue) (stored : List Stored) (all : List Named) (old : NotesSeen) (place : ℕ) (mid : NotesSeen) →
    Type 0
GoesReady world stored all old place mid =
    (new : NotesSeen) → ReadiesFrom world stored place (drop place all) mid new → ReadiesFrom world stored 0 all old new

-- a new hall that is told as another
pub new-as : (offer other : Offer) → other ≡ offer → IsNew offer → IsNew other
new-as offer other is new = subst IsNew (sym is) new
