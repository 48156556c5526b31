-- What a reader of a map's text stands for: the bytes so far, of which the whole elements lie in its tables.
use Rattle.std.specs.Prelude.{◌≡◌, ◌⊎◌, ℕ, zero, Bool, true, false, not, List, [], ◌∷◌, ◌++◌, length, Option, Some, None, Ok, Err}
use Rattle.std.specs.Str.{bytes_eq}
use lib.Chars.{codes}
use Rattle.json_text.specs.declared.step.Verdict.{Verdict}
use Rattle.json_text.specs.declared.step.Verdict.TheVariants as verdict_
use Rattle.json_text.specs.Marks.{Step}
use Rattle.json_text.specs.Reading.{Reads}
use Rattle.json_text.specs.Scanner.{Stands}
use Rattle.json_text.specs.Scanner as scanner
use Rattle.map_tables.specs.Draft.{empty}
use Rattle.map_tables.specs.declared.limits.Limits.{Limits}
use Rattle.map_tables.specs.declared.error.MapError.{MapError}
use Rattle.map_tables.specs.declared.error.MapError.TheVariants.{NotJson, NoMemory}
use Rattle.map_elements.specs.declared.place.Place.{Place}
use Rattle.map_elements.specs.declared.place.Place.TheVariants as place_
use Rattle.map_elements.specs.declared.progress.Progress.{Progress}
use Rattle.map_elements.specs.declared.reading.Reading.{Reading}
use Rattle.map_elements.specs.declared.reader.DraftReader.{DraftReader}
use Rattle.map_elements.specs.Entries.{Entry, entries_from, items_of, member, whole_values}
use Rattle.map_elements.specs.Fields.{with_some}
use Rattle.map_elements.specs.Outcome.{elements_list, outcome_of, take_values, ComesTo}

-- ---- Steps

-- a step that is neither a name nor an end between entries
abbrev pub goes_on : ℕ → Step → Bool
goes_on zero (Step.Closes bracket) = false
goes_on zero (Step.Key text) = false
goes_on _ _ = true

-- ---- Where the steps so far have led

-- a name is another than `elements`
abbrev pub is_other : Option (List ℕ) → Bool
is_other None = true
is_other (Some name) = not (bytes_eq (codes "elements") name)

-- the value of `elements` is awaited, or that of another member has come so far
abbrev pub IsAwaited : Bool → Option (List ℕ) → List Step → ℕ → Type 0
IsAwaited true name value depth = (name ≡ Some (codes "elements")) × (value ≡ []) × (depth ≡ zero)
IsAwaited false name value depth = is_other name ≡ true

-- the steps lead into the top object, before any member `elements`
pub record IsTop (steps : List Step) (depth : ℕ) (is_named : Bool) : Type 0 where
  pub name : Option (List ℕ)
  pub value : List Step
  pub from : (rest : List Step) → elements_list (steps ++ rest)
      ≡ with_some (member (codes "elements") (entries_from name value depth rest)) items_of
  pub awaited : IsAwaited is_named name value depth

-- the steps lead into the list of elements: these are whole, and of one more this has come
pub record IsInList (steps : List Step) (depth : ℕ) (value : List Step) (values : List (List Step)) :
    Type 0 where
  pub name : Option (List ℕ)
  pub entries : List Entry
  pub from : (rest : List Step) →
      elements_list (steps ++ rest) ≡ Some (entries ++ entries_from name value depth rest)
  pub whole : whole_values entries ≡ values

-- the steps lead behind the list of elements
pub record IsPast (steps : List Step) (values : List (List Step)) : Type 0 where
  pub entries : List Entry
  pub from : (rest : List Step) → elements_list (steps ++ rest) ≡ Some entries
  pub whole : whole_values entries ≡ values

-- whatever follows the steps, there is no list of elements
abbrev pub IsNever : List Step → Type 0
IsNever steps = (rest : List Step) → elements_list (steps ++ rest) ≡ None

-- where the steps have led, with so much of an element and so many whole ones
abbrev pub IsAt : Place → List Step → List Step → List (List Step) → Type 0
IsAt place_.Start value steps values = (steps ≡ []) × (values ≡ []) × (value ≡ [])
IsAt (place_.Top depth is_named) value steps values = IsTop steps depth is_named × (values ≡ []) ×
    (value ≡ [])
IsAt (place_.Elements depth) value steps values = IsInList steps depth value values
IsAt place_.Past value steps values = IsPast steps values
IsAt place_.Never value steps values = IsNever steps × (values ≡ [])

-- whether there is a list of elements
abbrev pub has_list : Place → Bool
has_list place_.Start = false
has_list (place_.Top depth is_named) = false
has_list (place_.Elements depth) = true
has_list place_.Past = true
has_list place_.Never = false

-- the tables have the elements of these whole values, and they are counted
pub record IsTaken (limits : Limits) (progress : Progress) (values : List (List Step)) : Type 0 where
  pub count : progress.count ≡ length values
  pub draft : take_values limits 1 values empty ≡ Ok progress.tables.draft
  pub limits_are : progress.tables.limits ≡ limits

-- the steps have led here, and the whole elements lie in the tables
pub record Holds (limits : Limits) (progress : Progress) (steps : List Step) : Type 0 where
  pub values : List (List Step)
  pub at : IsAt progress.place progress.steps steps values
  pub taken : IsTaken limits progress values

-- one more element whose value is this is refused with this fault, whatever comes behind it
abbrev pub IsRefused : Limits → List (List Step) → List Step → MapError → Type 0
IsRefused limits values value fault =
    (more : List (List Step)) → take_values limits 1 (values ++ value ∷ more) empty ≡ Err fault

-- the steps have this fault, whatever follows them
abbrev pub IsFault : Limits → List Step → MapError → Type 0
IsFault limits steps fault = (rest : List Step) (verdict : Verdict) →
    outcome_of limits (steps ++ rest) verdict ≡ Err fault

-- ---- The reader

-- the refusal that a verdict is
abbrev pub refusal_of : Verdict → Option MapError
refusal_of verdict_.More = None
refusal_of verdict_.Whole = None
refusal_of (verdict_.BadAt at) = Some (NotJson at)

-- the bytes were scanned, with the end said or not, and what was given of them was read
pub record StandsWith (limits : Limits) (reading : Reading) (bytes : List ℕ) (ended : Bool) : Type 0 where
  pub steps : List Step
  pub scanned : Stands reading.scanner bytes ended steps
  pub holds : Holds limits reading.progress steps

-- the same bytes are read on
pub record ReadsOn (old new : Reading) : Type 0 where
  pub stands : (limits : Limits) (bytes : List ℕ) (ended : Bool) → StandsWith limits old bytes ended →
      StandsWith limits new bytes ended
  pub fed : scanner.fed new.scanner ≡ scanner.fed old.scanner
  pub ended : scanner.has_ended new.scanner ≡ scanner.has_ended old.scanner

-- all fixed steps of the bytes were read, and no byte is at fault
pub record IsRead (limits : Limits) (reading : Reading) (bytes : List ℕ) (ended : Bool) : Type 0 where
  pub stands : StandsWith limits reading bytes ended
  pub verdict : Verdict
  pub reads : Reads bytes ended stands.steps verdict
  pub good : refusal_of verdict ≡ None

-- one more step was read, or all were
abbrev pub IsOn : (is_more : Bool) (limits : Limits) (reading : Reading) (bytes : List ℕ) (ended : Bool) →
    Type 0
IsOn true limits reading bytes ended = StandsWith limits reading bytes ended
IsOn false limits reading bytes ended = IsRead limits reading bytes ended

-- want of memory, or the fault that the bytes come to
abbrev pub IsRefusal : Limits → List ℕ → Bool → MapError → Type 0
IsRefusal limits bytes ended fault = (fault ≡ NoMemory) ⊎ ComesTo limits bytes ended (Err fault)

-- how many bytes were fed
abbrev pub fed : DraftReader → ℕ
fed reader = scanner.fed reader.reading.scanner

-- the refusal that every call answers from now on
abbrev pub refusal : DraftReader → Option MapError
refusal reader = reader.refused

-- the reader has refused nothing, and stands for these bytes
pub record StandsFor (limits : Limits) (reader : DraftReader) (bytes : List ℕ) : Type 0 where
  pub stands : StandsWith limits reader.reading bytes false
  pub works : refusal reader ≡ None
