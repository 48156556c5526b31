-- The entries of a JSON object or array, cut out of the steps behind its opening bracket by counting brackets
-- (RFC 8259; that of repeated members the first counts is this project's own rule).
use Rattle.std.specs.Prelude.{ℕ, zero, suc, Bool, true, false, List, [], ◌∷◌, ◌++◌, Option, Some, None, if◌then◌else◌}
use Rattle.std.specs.Str.{bytes_eq}
use Rattle.json_text.specs.declared.mode.Bracket.TheVariants as bracket_
use Rattle.json_text.specs.Marks.{Step}

-- a member of an object with its name, or an item of an array, which has none; its value is a list of steps,
-- and it is whole where the last step of its value is there
pub record Entry : Type 0 where
  pub name : Option (List ℕ)
  pub value : List Step
  pub is_whole : Bool

-- an entry whose value is whole
abbrev pub whole_entry : Option (List ℕ) → List Step → Entry
whole_entry name value = record { name = name; value = value; is_whole = true }

-- the entry that isn't whole yet, where one has begun
abbrev pub begun_entry : Option (List ℕ) → List Step → List Entry
begun_entry None [] = []
begun_entry None (step ∷ steps) = record { name = None; value = step ∷ steps; is_whole = false } ∷ []
begun_entry (Some name) value = record { name = Some name; value = value; is_whole = false } ∷ []

-- how many brackets of a value are open behind a step, where so many are before it
abbrev pub depth_after : ℕ → Step → ℕ
depth_after depth (Step.Opens bracket) = suc depth
depth_after zero (Step.Closes bracket) = zero
depth_after (suc depth) (Step.Closes bracket) = depth
depth_after depth (Step.Key text) = depth
depth_after depth (Step.Text text) = depth
depth_after depth (Step.Number text) = depth
depth_after depth (Step.Word word) = depth

-- one thing where no bracket is open, and another where some are
abbrev pub by_depth : {A : Type 0} → ℕ → A → (ℕ → A) → A
by_depth zero closed still = closed
by_depth (suc depth) closed still = still (suc depth)

-- the entries among the steps that are left, up to the bracket that closes the object or array, where an
-- entry of this name has come so far, with this value, in which so many brackets are open
abbrev pub entries_from : Option (List ℕ) → List Step → ℕ → List Step → List Entry
entries_from name value depth [] = begun_entry name value
entries_from name value zero (Step.Closes bracket ∷ steps) = []
entries_from name value zero (Step.Key text ∷ steps) = entries_from (Some text) [] zero steps
entries_from name value depth (step ∷ steps) =
    by_depth (depth_after depth step)
    (whole_entry name (value ++ step ∷ []) ∷ entries_from None [] zero steps)
    (λ still. entries_from name (value ++ step ∷ []) still steps)

-- the members of a value that is an object, or of its beginning
abbrev pub members_of : List Step → Option (List Entry)
members_of (Step.Opens bracket_.Curly ∷ steps) = Some (entries_from None [] zero steps)
members_of _ = None

-- the items of a value that is an array, or of its beginning
abbrev pub items_of : List Step → Option (List Entry)
items_of (Step.Opens bracket_.Square ∷ steps) = Some (entries_from None [] zero steps)
items_of _ = None

-- an entry has this name
abbrev pub is_named : List ℕ → Entry → Bool
is_named name entry = by_name entry.name
  where
    by_name : Option (List ℕ) → Bool
    by_name None = false
    by_name (Some other) = bytes_eq name other

-- the value of the first member of this name
abbrev pub member : List ℕ → List Entry → Option (List Step)
member name [] = None
member name (entry ∷ entries) = if is_named name entry then Some entry.value else member name entries

-- the values of the entries that are whole
abbrev pub whole_values : List Entry → List (List Step)
whole_values [] = []
whole_values (entry ∷ entries) =
    if entry.is_whole then entry.value ∷ whole_values entries else whole_values entries

-- the values of all entries
abbrev pub values_of : List Entry → List (List Step)
values_of [] = []
values_of (entry ∷ entries) = entry.value ∷ values_of entries
