-- Profiles by the names of their files, taken in one after the other. This project's own rule.
use Rattle.std.specs.Prelude.{ℕ, List, slice_get, Option, Some, None, Ok}
use Rattle.command_words.specs.FileNames.{profile_name}
use Rattle.command_words.specs.Given.{Named}
use Rattle.lookup_table.specs.First.{TagTable}
use Rattle.lookup_table.specs.Tag.{name_place}
use Rattle.profile_text.specs.Tree.{Sections}
use Rattle.route_ready.specs.Entries.{names_of, profiles_of}
use Rattle.run_files.specs.Chain.{Settles, Stage, TakesEach, Then}
use Rattle.run_files.specs.Checked.{TakesChecked}
use Rattle.run_files.specs.NoteLines.{profile_note}
use Rattle.run_files.specs.Notes.{NotedStage, Noting}

-- a profile with its name
abbrev pub NamedProfile : Type 0
NamedProfile = List ℕ × Sections

-- a profile of these sections, under the name of its file
abbrev pub named_by : Named → Sections → NamedProfile
named_by file sections = (profile_name file.name, sections)

-- a profile is taken in and checked under a tag table, and gets the name of its file
abbrev pub TakesNamed : TagTable → Named → Stage NamedProfile
TakesNamed table file = Then (TakesChecked table file) (λ sections. Settles (Ok (named_by file sections)))

-- so it is, and then noted
abbrev pub NotesNamed : TagTable → Named → NotedStage NamedProfile
NotesNamed table file = Noting (TakesNamed table file) (λ named. profile_note file)

-- the profiles of these files are taken in and noted so, one after the other
abbrev pub TakesProfiles : TagTable → List Named → NotedStage (List NamedProfile)
TakesProfiles table files = TakesEach (NotesNamed table) files

-- the profile at a place, where there is one
abbrev pub profile_at : List NamedProfile → Option ℕ → Option Sections
profile_at profiles None = None
profile_at profiles (Some place) = slice_get (profiles_of profiles) place

-- the profile of a name, where one of these has it
abbrev pub profile_named : List NamedProfile → List ℕ → Option Sections
profile_named profiles name = profile_at profiles (name_place (names_of profiles) name)
