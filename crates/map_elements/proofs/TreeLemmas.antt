-- The steps of a tree, and its entries.
use Rattle.std.proofs.Common.{◌≡◌, ℕ, zero, suc, List, [], ◌∷◌, ◌++◌, append_assoc, Option, Some, None, refl, sym, ap, ◌∙◌}
use Rattle.std.proofs.lemmas.List.{append-nil}
use Rattle.json_text.specs.declared.mode.Bracket.{Bracket}
use Rattle.json_text.specs.declared.mode.Bracket.TheVariants as bracket_
use Rattle.json_text.specs.declared.mode.Role.{Role}
use Rattle.json_text.specs.declared.mode.Role.TheVariants as role_
use Rattle.json_text.specs.Marks.{Symbol, End, Step, Mark, Seen, Given, steps_of, see}
use Rattle.json_text.specs.Chars.{Char, content_of, print_chars, print_text, close_text, text_step, spelled}
use Rattle.json_text.specs.Grammar.{Name, Value, Entries, Others, IsText, letters_of, print_name, print_value, print_entries, print_others}
use Rattle.map_elements.specs.Entries.{entries_from, whole_entry, by_depth, Entry}
use Rattle.map_elements.specs.Trees.{name_steps, name_told, tree_steps, entries_steps, others_steps, others_told, entries_told, AreOfTree, AreMembersOfTree, AreItemsOfTree}

-- ---- The steps of what is printed

-- bytes give no step
see_steps : (bytes : List ℕ) (rest : List Mark) → steps_of (see bytes rest) ≡ steps_of rest
see_steps [] rest = refl
see_steps (b ∷ bytes) rest = see_steps bytes rest

-- nor do characters
chars_steps : (chars : List Char) (rest : List Mark) → steps_of (print_chars chars rest) ≡ steps_of rest
chars_steps [] rest = refl
chars_steps (c ∷ chars) rest = see_steps (spelled c) (print_chars chars rest) ∙ chars_steps chars rest

-- a text gives one
text_steps : (role : Role) (chars : List Char) (rest : List Mark) →
    steps_of (print_text role chars rest) ≡ text_step role (content_of None chars) ∷ steps_of rest
text_steps role chars rest = chars_steps chars (close_text role (content_of None chars) rest)

-- a name gives one, where there is one
named_steps : (name : Name) (rest : List Mark) → steps_of (print_name name rest) ≡ name_steps name ++ steps_of rest
named_steps Name.NoName rest = refl
named_steps (Name.Named chars before behind) rest =
    text_steps role_.Name chars (see before (Seen (Symbol.Byte 58) ∷ see behind rest))
    ∙ ap (λ s. Step.Key (content_of None chars) ∷ s) (see_steps before (Seen (Symbol.Byte 58) ∷ see behind rest) ∙ see_steps behind rest)

-- an entry gives its steps, before what the marks behind it give
printed_entry : (name : Name) (value : Value) (others left : List Step) (next : List Mark) →
    steps_of (print_value value next) ≡ tree_steps value ++ steps_of next → steps_of next ≡ others ++ left →
    steps_of (print_name name (print_value value next)) ≡ (name_steps name ++ (tree_steps value ++ others)) ++ left
printed_entry name value others left next first later =
    named_steps name (print_value value next)
    ∙ ap (λ s. name_steps name ++ s) (first ∙ ap (λ s. tree_steps value ++ s) later ∙ sym (append_assoc (tree_steps value) others left))
    ∙ sym (append_assoc (name_steps name) (tree_steps value ++ others) left)

mutual
  -- a value gives its steps
  printed_steps : (value : Value) (rest : List Mark) → steps_of (print_value value rest) ≡ tree_steps value ++ steps_of rest
  printed_steps (Value.Word word) rest = see_steps (letters_of word) (Given (Step.Word word) ∷ rest)
  printed_steps (Value.Number bytes) rest = see_steps bytes (Given (Step.Number bytes) ∷ rest)
  printed_steps (Value.Text chars) rest = text_steps role_.Value chars rest
  printed_steps (Value.Group bracket entries) rest = ap (λ s. Step.Opens bracket ∷ s) (printed_entries entries bracket rest)

  -- so do entries
  printed_entries : (entries : Entries) (bracket : Bracket) (rest : List Mark) →
      steps_of (print_entries entries bracket rest) ≡ entries_steps bracket entries ++ steps_of rest
  printed_entries (Entries.Empty space) bracket rest = see_steps space _
  printed_entries (Entries.Entry space name value others) bracket rest =
      see_steps space _ ∙ printed_entry name value (others_steps bracket others) (steps_of rest) (print_others others bracket rest)
      (printed_steps value (print_others others bracket rest))
      (printed_others others bracket rest)

  -- the others
  printed_others : (others : Others) (bracket : Bracket) (rest : List Mark) →
      steps_of (print_others others bracket rest) ≡ others_steps bracket others ++ steps_of rest
  printed_others (Others.Last space) bracket rest = see_steps space _
  printed_others (Others.Next space behind name value others) bracket rest =
      see_steps space _ ∙ see_steps behind _
      ∙ printed_entry name value (others_steps bracket others) (steps_of rest) (print_others others bracket rest)
      (printed_steps value (print_others others bracket rest))
      (printed_others others bracket rest)

-- the steps of a text that was read to its end are those of its value
pub of_tree : AreOfTree
of_tree bytes steps reads =
    let text : IsText reads.front = reads.fits.1.is_text in (
      text.value,
      text.value_is,
      sym reads.given ∙ ap steps_of text.printed ∙ see_steps text.before (print_value text.value (see text.behind (Seen End ∷ [])))
          ∙ printed_steps text.value (see text.behind (Seen End ∷ []))
          ∙ ap (λ s. tree_steps text.value ++ s) (see_steps text.behind (Seen End ∷ [])) ∙ append-nil (tree_steps text.value),
    )

-- ---- The entries of a tree

-- a value goes by within another
abbrev GoesBy : List Step → Type 0
GoesBy steps = (name : Option (List ℕ)) (held : List Step) (depth : ℕ) (rest : List Step)
    → entries_from name held (suc depth) (steps ++ rest) ≡ entries_from name (held ++ steps) (suc depth) rest

-- steps go by that end with the bracket of a group
abbrev Ends : List Step → Type 0
Ends steps = (name : Option (List ℕ)) (held : List Step) (depth : ℕ) (rest : List Step)
    → entries_from name held (suc depth) (steps ++ rest)
    ≡ by_depth depth (whole_entry name (held ++ steps) ∷ entries_from None [] zero rest)
    (λ still. entries_from name (held ++ steps) still rest)

-- an entry and the others go by
entry_within : (inner : Name) (value : Value) (others : Others) (bracket : Bracket) → GoesBy (tree_steps value) →
    Ends (others_steps bracket others)
    → Ends (name_steps inner ++ (tree_steps value ++ others_steps bracket others))
entry_within Name.NoName value others bracket goes ends name held depth rest =
    ap (entries_from name held (suc depth)) (append_assoc (tree_steps value) (others_steps bracket others) rest)
    ∙ goes name held depth (others_steps bracket others ++ rest)
    ∙ ends name (held ++ tree_steps value) depth rest
    ∙ ap (λ xs. by_depth depth (whole_entry name xs ∷ entries_from None [] zero rest) (λ still. entries_from name xs still rest))
    (append_assoc held (tree_steps value) (others_steps bracket others))
entry_within (Name.Named chars before behind) value others bracket goes ends name held depth rest =
    ap (entries_from name (held ++ Step.Key (content_of None chars) ∷ []) (suc depth))
    (append_assoc (tree_steps value) (others_steps bracket others) rest)
    ∙ goes name (held ++ Step.Key (content_of None chars) ∷ []) depth (others_steps bracket others ++ rest)
    ∙ ends name ((held ++ Step.Key (content_of None chars) ∷ []) ++ tree_steps value) depth rest
    ∙ ap (λ xs. by_depth depth (whole_entry name xs ∷ entries_from None [] zero rest) (λ still. entries_from name xs still rest))
    (append_assoc (held ++ Step.Key (content_of None chars) ∷ []) (tree_steps value) (others_steps bracket others)
    ∙ append_assoc held (Step.Key (content_of None chars) ∷ []) (tree_steps value ++ others_steps bracket others))

-- a group goes by within a value
group_within : (bracket : Bracket) (entries : Entries) → Ends (entries_steps bracket entries) →
    GoesBy (Step.Opens bracket ∷ entries_steps bracket entries)
group_within bracket entries ends name held depth rest =
    ends name (held ++ Step.Opens bracket ∷ []) (suc depth) rest
    ∙ ap (λ xs. entries_from name xs (suc depth) rest) (append_assoc held (Step.Opens bracket ∷ []) (entries_steps bracket entries))

mutual
  -- each value goes by
  value_within : (value : Value) → GoesBy (tree_steps value)
  value_within (Value.Word word) = λ name held depth rest. refl
  value_within (Value.Number bytes) = λ name held depth rest. refl
  value_within (Value.Text chars) = λ name held depth rest. refl
  value_within (Value.Group bracket entries) = group_within bracket entries (entries_within entries bracket)

  -- the entries of a group end with its bracket
  entries_within : (entries : Entries) (bracket : Bracket) → Ends (entries_steps bracket entries)
  entries_within (Entries.Empty space) bracket = λ name held depth rest. refl
  entries_within (Entries.Entry space inner value others) bracket =
      entry_within inner value others bracket (value_within value) (others_within others bracket)

  -- the others do
  others_within : (others : Others) (bracket : Bracket) → Ends (others_steps bracket others)
  others_within (Others.Last space) bracket = λ name held depth rest. refl
  others_within (Others.Next space behind inner value others) bracket =
      entry_within inner value others bracket (value_within value) (others_within others bracket)

-- a value that stands as an entry is cut off whole
cut_off : (value : Value) (name : Option (List ℕ)) (rest : List Step)
    → entries_from name [] zero (tree_steps value ++ rest) ≡ whole_entry name (tree_steps value) ∷ entries_from None [] zero rest
cut_off (Value.Word word) name rest = refl
cut_off (Value.Number bytes) name rest = refl
cut_off (Value.Text chars) name rest = refl
cut_off (Value.Group bracket entries) name rest = entries_within entries bracket name (Step.Opens bracket ∷ []) zero rest

-- an entry is cut off, and then what the steps behind it tell
entry_cut : (name : Name) (value : Value) (steps : List Step) (told : List Entry) → entries_from None [] zero steps ≡ told →
    entries_from None [] zero (name_steps name ++ (tree_steps value ++ steps)) ≡ whole_entry (name_told name) (tree_steps value) ∷ told
entry_cut Name.NoName value steps told later =
    cut_off value None steps ∙ ap (λ es. whole_entry None (tree_steps value) ∷ es) later
entry_cut (Name.Named chars before behind) value steps told later =
    cut_off value (Some (content_of None chars)) steps
    ∙ ap (λ es. whole_entry (Some (content_of None chars)) (tree_steps value) ∷ es) later

-- the entries of the others
others_cut : (others : Others) (bracket : Bracket) → entries_from None [] zero (others_steps bracket others) ≡ others_told others
others_cut (Others.Last space) bracket = refl
others_cut (Others.Next space behind name value others) bracket =
    entry_cut name value (others_steps bracket others) (others_told others) (others_cut others bracket)

-- the entries of a group are those of its tree
entries_cut : (entries : Entries) (bracket : Bracket) → entries_from None [] zero (entries_steps bracket entries) ≡ entries_told entries
entries_cut (Entries.Empty space) bracket = refl
entries_cut (Entries.Entry space name value others) bracket =
    entry_cut name value (others_steps bracket others) (others_told others) (others_cut others bracket)

-- so the members of an object are
pub members_cut : AreMembersOfTree
members_cut entries = ap Some (entries_cut entries bracket_.Curly)

-- and the items of an array
pub items_cut : AreItemsOfTree
items_cut entries = ap Some (entries_cut entries bracket_.Square)
