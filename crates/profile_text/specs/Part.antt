-- What reading one section line or assignment does to the profile that was read so far; this joins the code
-- to the words on readings.
use Rattle.std.specs.Prelude.{◌≡◌, ◌++◌, Option, Result, Ok, Err}
use Rattle.profile_text.specs.declared.error.TextError.{TextError}
use Rattle.profile_text.specs.declared.kind.Section.{Section}
use Rattle.profile_text.specs.Read.{from_front}
use Rattle.profile_text.specs.Kind.{kind_of}
use Rattle.profile_text.specs.Token.{Token, Place}
use Rattle.profile_text.specs.Tree.{Sections}

-- how far a reading came: what was read, the section that is open, and the place
pub record Stand : Type 0 where
  pub sections : Sections
  pub current : Option Section
  pub place : Place

-- the sections of one profile, each followed by that of another
abbrev pub joined : Sections → Sections → Sections
joined a b = record { global = a.global ++ b.global; way = a.way ++ b.way; node = a.node ++ b.node }

-- what was read so far, followed by what is read from here on, or its refusal
abbrev pub onto : Sections → Result Sections TextError → Result Sections TextError
onto so_far (Ok s) = Ok (joined so_far s)
onto so_far (Err e) = Err e

-- reading on after a token comes to reading on from another stand
abbrev pub TakesPart : Stand → Token → Stand → Type 0
TakesPart old t new =
    (more : Option Section → Place → Result Sections TextError)
    → onto old.sections (from_front (kind_of t.text) old.current more t old.place)
    ≡ onto new.sections (more new.current new.place)

-- reading on after a token is refused, whatever follows
abbrev pub RefusesPart : Stand → Token → TextError → Type 0
RefusesPart old t e =
    (more : Option Section → Place → Result Sections TextError)
    → from_front (kind_of t.text) old.current more t old.place ≡ Err e
