-- What the rows of the tables stand for (this project's own representation).
use Rattle.std.specs.Prelude.{◌≡◌, ℕ, suc, ◌+◌, ◌-◌, ◌^◌, ◌<◌, ◌≤◌, ℤ, List, [], ◌∷◌, length, take, drop, slice_get, nat_eq, Option, None, Some, if◌then◌else◌}
use Rattle.std.specs.List.{AllByRecursion}
use Rattle.map_tables.specs.Kept.{Tag, Kept, total_of}
use Rattle.map_tables.specs.declared.member.Member.{Member}
use Rattle.map_tables.specs.declared.members.MemberRow.{MemberRow}
use Rattle.map_tables.specs.declared.table.Row.{Row}

-- ---- Tags

-- the tags of a list, where it is that of the element at a place
abbrev pub own_tags : ℕ → Option (ℕ × List Tag) → List Tag
own_tags place None = []
own_tags place (Some own) = if nat_eq own.0 place then own.1 else []

-- the tags of the element at a place whose row names this list
abbrev pub tags_in : List (ℕ × List Tag) → ℕ → ℕ → List Tag
tags_in lists place list = own_tags place (slice_get lists list)

-- a list is that of the element at a place
pub record IsOwn (lists : List (ℕ × List Tag)) (place list : ℕ) : Type 0 where
  pub tags : List Tag
  pub is : slice_get lists list ≡ Some (place, tags)

-- elements at other places keep their tags, whichever lists their rows name
abbrev pub KeepsOthers : ℕ → List (ℕ × List Tag) → List (ℕ × List Tag) → Type 0
KeepsOthers place old new =
    (other list : ℕ) → (other ≡ place → ⊥) → tags_in new other list ≡ tags_in old other list

-- ---- A table

-- the elements of ids and their rows, the first of which stands at a place
abbrev pub kept_from : {C : Type 0} → List (ℕ × List Tag) → ℕ → List (ℤ × Row C) → List (Kept C)
kept_from lists place [] = []
kept_from lists place (entry ∷ entries) =
    record { id = entry.0; content = entry.1.content; tags = tags_in lists place entry.1.list }
    ∷ kept_from lists (suc place) entries

-- the list for elements without tags is empty, the parts of all elements are counted, and a place has 32 bits
pub record IsTable {C : Type 0} (size : C → ℕ) (lists : List (ℕ × List Tag)) (no_tags : List Tag) (total : ℕ)
    (entries : List (ℤ × Row C)) : Type 0 where
  pub none : no_tags ≡ []
  pub counted : total ≡ total_of size (kept_from lists 0 entries)
  pub few : length entries < 2 ^ 32

-- ---- Members

-- the bytes from a place to another
abbrev pub bytes_from : List ℕ → ℕ → ℕ → List ℕ
bytes_from bytes from to = take (to - from) (drop from bytes)

-- the member of a row, whose words stand in a list
abbrev pub member_of : List ℕ → MemberRow → Member
member_of words row = record {
  kind = bytes_from words row.start row.middle;
  reference = row.reference;
  role = bytes_from words row.middle row.end;
}

-- the row of a member whose words stand behind so many bytes
abbrev pub row_behind : ℕ → Member → MemberRow
row_behind bytes member = record {
  reference = member.reference;
  start = bytes;
  middle = bytes + length member.kind;
  end = bytes + length member.kind + length member.role;
}

-- the words of a row stand within so many bytes
pub record LiesWithin (bytes : ℕ) (row : MemberRow) : Type 0 where
  pub kind : row.start ≤ row.middle
  pub role : row.middle ≤ row.end
  pub last : row.end ≤ bytes

-- so do the words of rows
abbrev pub LieWithin : ℕ → List MemberRow → Type 0
LieWithin bytes = AllByRecursion (LiesWithin bytes)

-- the words of rows stand within a list, and a place has 32 bits
pub record AreMembers (words : List ℕ) (rows : List MemberRow) : Type 0 where
  pub within : LieWithin (length words) rows
  pub few : length rows < 2 ^ 32
