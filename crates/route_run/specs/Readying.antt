-- The profiles of a server that are made ready before it listens, each noted. This project's own rule.
use Rattle.std.specs.Prelude.{◌≡◌, ℕ, ◌+◌, List, [], ◌∷◌, Result, Ok, Err, codes, take}
use Rattle.command_words.specs.Given.{Named}
use Rattle.route_ready.specs.Worlds.{WorldValue}
use Rattle.route_ready.specs.declared.error.RouteError.{RouteError}
use Rattle.route_ready.specs.declared.error.RouteError.TheVariants.{NoMemory}
use Rattle.run_files.specs.NoteLines.{note_on}
use Rattle.run_files.specs.Notes.{IsNoted, NotesSeen}
use Rattle.session_answers.specs.Stored.{Stored}
use Rattle.session_answers.specs.Warming.{MakesReady}

-- the note on a profile that was to be made ready: it is, or memory ran out, or it is refused
abbrev pub ready_note : {T : Type 0} → Named → Result T RouteError → List ℕ
ready_note file (Ok done) = note_on file.name (codes "ready")
ready_note file (Err NoMemory) = note_on file.name (codes "out of memory")
ready_note file (Err error) = note_on file.name (codes "refused")

-- how many profiles are made ready at most
abbrev pub most_ready : ℕ
most_ready = 8

-- the stored profile at a place is made ready and noted, and then this holds of where notes go
pub record Readies (world : WorldValue) (stored : List Stored) (place : ℕ) (file : Named) (Rest : NotesSeen →
    Type 0) (old : NotesSeen) : Type 0 where
  pub result : Result (Unit {0}) RouteError
  pub makes : MakesReady world stored place result
  pub between : NotesSeen
  pub noted : IsNoted (ready_note file result) old between
  pub rest : Rest between

-- the profiles of these files, the first of which is stored at a place, are made ready one after the other, and
-- each is noted
abbrev pub ReadiesFrom :
    (world : WorldValue) (stored : List Stored) (place : ℕ) (files : List Named) (old new : NotesSeen) → Type 0
ReadiesFrom world stored place [] old new = new ≡ old
ReadiesFrom world stored place (file ∷ files) old new =
    Readies world stored place file (λ between. ReadiesFrom world stored (place + 1) files between new) old

-- the profiles of the first of these files are, as many as are kept
abbrev pub ReadiesFirst :
    (world : WorldValue) (stored : List Stored) (files : List Named) (old new : NotesSeen) → Type 0
ReadiesFirst world stored files old new = ReadiesFrom world stored 0 (take most_ready files) old new
