-- The steps of a JSON tree, and what its members and items are: laws that tie what is cut by counting
-- brackets to the tree (RFC 8259).
use Rattle.std.specs.Prelude.{◌≡◌, ℕ, List, [], ◌∷◌, ◌++◌, true, Option, Some, None}
use Rattle.json_text.specs.declared.mode.Bracket.{Bracket}
use Rattle.json_text.specs.declared.mode.Bracket.TheVariants as bracket_
use Rattle.json_text.specs.declared.step.Verdict.TheVariants as verdict_
use Rattle.json_text.specs.Marks.{Step}
use Rattle.json_text.specs.Chars.{content_of}
use Rattle.json_text.specs.Grammar.{Name, Value, Entries, Others, IsValue}
use Rattle.json_text.specs.Reading.{Reads}
use Rattle.map_elements.specs.Entries.{Entry, whole_entry, members_of, items_of}

-- the step of a name, where an entry has one
abbrev pub name_steps : Name → List Step
name_steps Name.NoName = []
name_steps (Name.Named chars before behind) = Step.Key (content_of None chars) ∷ []

-- the name of an entry
abbrev pub name_told : Name → Option (List ℕ)
name_told Name.NoName = None
name_told (Name.Named chars before behind) = Some (content_of None chars)

-- the steps of a value, in the order of the text
abbrev mutual
  pub tree_steps : Value → List Step
  tree_steps (Value.Word word) = Step.Word word ∷ []
  tree_steps (Value.Number bytes) = Step.Number bytes ∷ []
  tree_steps (Value.Text chars) = Step.Text (content_of None chars) ∷ []
  tree_steps (Value.Group bracket entries) = Step.Opens bracket ∷ entries_steps bracket entries

  pub entries_steps : Bracket → Entries → List Step
  entries_steps bracket (Entries.Empty space) = Step.Closes bracket ∷ []
  entries_steps bracket (Entries.Entry space name value others) =
      name_steps name ++ (tree_steps value ++ others_steps bracket others)

  pub others_steps : Bracket → Others → List Step
  others_steps bracket (Others.Last space) = Step.Closes bracket ∷ []
  others_steps bracket (Others.Next space behind name value others) =
      name_steps name ++ (tree_steps value ++ others_steps bracket others)

-- the entries behind the first, each with its name and the steps of its value
abbrev pub others_told : Others → List Entry
others_told (Others.Last space) = []
others_told (Others.Next space behind name value others) =
    whole_entry (name_told name) (tree_steps value) ∷ others_told others

-- the entries of an object or an array, each with its name and the steps of its value
abbrev pub entries_told : Entries → List Entry
entries_told (Entries.Empty space) = []
entries_told (Entries.Entry space name value others) =
    whole_entry (name_told name) (tree_steps value) ∷ others_told others

-- the steps of a text that was read to its end are those of a value of the grammar
abbrev pub AreOfTree : Type 0
AreOfTree = (bytes : List ℕ) (steps : List Step) → Reads bytes true steps verdict_.Whole
    → (value : Value) × IsValue value 64 × (steps ≡ tree_steps value)

-- the members of an object are those of its tree
abbrev pub AreMembersOfTree : Type 0
AreMembersOfTree = (entries : Entries) →
    members_of (tree_steps (Value.Group bracket_.Curly entries)) ≡ Some (entries_told entries)

-- the items of an array are those of its tree
abbrev pub AreItemsOfTree : Type 0
AreItemsOfTree = (entries : Entries) →
    items_of (tree_steps (Value.Group bracket_.Square entries)) ≡ Some (entries_told entries)
