-- The profiles that a server has stored, and what an upload comes to. This project's own rule.
use Rattle.std.specs.Prelude.{◌≡◌, ◌≢◌, ℕ, ◌+◌, ◌<◌, ◌≤◌, ◌==◌, List, [], ◌∷◌, ◌++◌, length, take, get_or, if◌then◌else◌, Option, Some, None, Result, Ok, Err, bytes_eq, codes, decimal}
use Rattle.context_check.specs.Lines.{check_line}
use Rattle.context_check.specs.Refusal.{refusal_of}
use Rattle.context_check.specs.declared.error.CheckError.{CheckError}
use Rattle.lookup_table.specs.First.{TagTable}
use Rattle.profile_text.specs.Lines.{text_line}
use Rattle.profile_text.specs.Read.{profile_of}
use Rattle.profile_text.specs.Tree.{Sections}
use Rattle.profile_text.specs.declared.error.TextError.{TextError}
use Rattle.route_ready.specs.Entries.{names_of}
use Rattle.route_http.specs.Frames.{frame_of}
use Rattle.route_http.specs.declared.kind.Kind.TheVariants.{Json}
use Rattle.session_answers.specs.Frames.{line_frame, refusal_frame}
use Rattle.session_answers.specs.declared.refusal.Refusal.TheVariants.{UploadsFull}

-- ---- What an upload comes to

-- the most uploads that are stored
abbrev pub most_uploads : ℕ
most_uploads = 64

-- the name of an upload, counted from 1
abbrev pub upload_name : ℕ → List ℕ
upload_name n = codes "custom_" ++ decimal n

-- what is answered to a stored upload: one line that tells its name
abbrev pub upload_reply : ℕ → List ℕ
upload_reply n = codes "{\"profileid\":\"" ++ upload_name n ++ codes "\"}\n"

-- a stored profile: its name and its sections
abbrev pub Stored : Type 0
Stored = List ℕ × Sections

-- what an upload comes to: the frame that answers it, and the profile that is stored, where one is
pub record Uploaded : Type 0 where
  pub frame : List ℕ
  pub added : List Stored

-- an upload that is refused with a line
abbrev pub refused_with : List ℕ → Uploaded
refused_with line = record { frame = line_frame 422 line; added = [] }

-- what an accepted profile comes to, after so many uploads
abbrev pub stored_after : ℕ → Sections → Uploaded
stored_after uploads sections =
    if uploads == most_uploads then record { frame = refusal_frame UploadsFull; added = [] }
    else record {
      frame = frame_of 200 Json (upload_reply (uploads + 1));
      added = (upload_name (uploads + 1), sections) ∷ [];
    }

-- what a profile comes to by the check without overrides
abbrev pub by_check : ℕ → Sections → Option CheckError → Uploaded
by_check uploads sections (Some e) = refused_with (check_line e)
by_check uploads sections None = stored_after uploads sections

-- what a text comes to that is read as a profile
abbrev pub by_text : TagTable → ℕ → Result Sections TextError → Uploaded
by_text table uploads (Err e) = refused_with (text_line e)
by_text table uploads (Ok sections) = by_check uploads sections (refusal_of table sections [])

-- what an upload comes to, after so many uploads
abbrev pub upload_of : TagTable → ℕ → List ℕ → Uploaded
upload_of table uploads text = by_text table uploads (profile_of text)

-- ---- What is stored

-- the sections of the first stored profile of a name
abbrev pub find_stored : List Stored → List ℕ → Option Sections
find_stored [] name = None
find_stored (stored ∷ rest) name = if bytes_eq name stored.0 then Some stored.1 else find_stored rest name

-- no name of these begins as those of uploads do
abbrev pub AreGiven : List (List ℕ) → Type 0
AreGiven names = (k : ℕ) (rest : List ℕ) → get_or names k [] ≢ codes "custom_" ++ rest

-- so many of the stored profiles were given, which stand first and of which no name begins as those of
-- uploads do; the others are uploads, at most so many as may be, and have their names in their order
pub record AreStored (given : ℕ) (stored : List Stored) : Type 0 where
  pub within : given ≤ length stored
  pub few : length stored ≤ given + most_uploads
  pub names : AreGiven (names_of (take given stored))
  pub uploads : (k : ℕ) → given + k < length stored →
      get_or (names_of stored) (given + k) [] ≡ upload_name (k + 1)
