-- The first members of the names that elements have, while members are looked through (this project's own
-- rule).
use Rattle.std.specs.Prelude.{◌≡◌, ℕ, List, [], ◌∷◌, Option, Some, None, if◌then◌else◌}
use lib.Chars.{codes}
use Rattle.json_text.specs.Marks.{Step}
use Rattle.map_elements.specs.Entries.{Entry, is_named, member, whole_entry}
use Rattle.map_elements.specs.declared.fields.element.Slots.{Slots}

-- what was found first, or else what is found later
abbrev pub first_of : {A : Type 0} → Option A → Option A → Option A
first_of None later = later
first_of (Some a) later = Some a

-- what is noted of one member, unless something was noted
abbrev pub noted : List ℕ → Option (List Step) → Entry → Option (List Step)
noted name slot entry = first_of slot (if is_named name entry then Some entry.value else None)

-- one member was looked at
pub record Notes (old : Slots) (entry : Entry) (new : Slots) : Type 0 where
  pub kind_is : new.kind ≡ noted (codes "type") old.kind entry
  pub id_is : new.id ≡ noted (codes "id") old.id entry
  pub lat_is : new.lat ≡ noted (codes "lat") old.lat entry
  pub lon_is : new.lon ≡ noted (codes "lon") old.lon entry
  pub nodes_is : new.nodes ≡ noted (codes "nodes") old.nodes entry
  pub members_is : new.members ≡ noted (codes "members") old.members entry
  pub tags_is : new.tags ≡ noted (codes "tags") old.tags entry

-- one member was looked at, whose value is this step
abbrev pub NotesOne : List ℕ → Step → Slots → Slots → Type 0
NotesOne name step old new = Notes old (whole_entry (Some name) (step ∷ [])) new

-- of the members that were looked through, these are the first of each name
pub record Noted (first : Slots) (all left : List Entry) : Type 0 where
  pub kind_is : member (codes "type") all ≡ first_of first.kind (member (codes "type") left)
  pub id_is : member (codes "id") all ≡ first_of first.id (member (codes "id") left)
  pub lat_is : member (codes "lat") all ≡ first_of first.lat (member (codes "lat") left)
  pub lon_is : member (codes "lon") all ≡ first_of first.lon (member (codes "lon") left)
  pub nodes_is : member (codes "nodes") all ≡ first_of first.nodes (member (codes "nodes") left)
  pub members_is : member (codes "members") all ≡ first_of first.members (member (codes "members") left)
  pub tags_is : member (codes "tags") all ≡ first_of first.tags (member (codes "tags") left)
