-- The words after a command, read over the rows of its keys. This project's own rule.
use denote.Enum.Bare.{sameb}
use Rattle.std.specs.List.{filter, find, list_all, list_any}
use Rattle.std.specs.Prelude.{ℕ, ◌+◌, Bool, not, cond, ◌&&◌, nat_lt, nat_le, Option, Some, None, Result, Ok, Err, List, [], ◌∷◌, ◌++◌, length}
use Rattle.std.specs.Str.{bytes_eq}
use Rattle.command_words.specs.FileNames.{profile_name}
use Rattle.command_words.specs.Given.{Given}
use Rattle.command_words.specs.Rows.{key_name}
use Rattle.command_words.specs.Value.{value_of, cut_word}
use Rattle.command_words.specs.contracts.rows.Key.{the_type}
use Rattle.command_words.specs.declared.rows.Key.{Key}
use Rattle.command_words.specs.declared.rows.Key.TheVariants.{Seed, Width, Height, From, To, What, Lookups, Profile, Map, Query, Tile, Listen, Turns, Hangup, Labels, Hierarchies, Certificate, Cost, Bound, Notes}
use Rattle.command_words.specs.declared.rows.KeyRow.{KeyRow}
use Rattle.command_words.specs.declared.value.Value.{Value}

-- two keys are one
abbrev pub same_key : Key → Key → Bool
same_key a b = sameb the_type a b

-- all keys
abbrev pub all_keys : List Key
all_keys =
    Seed ∷ Width ∷ Height ∷ From ∷ To ∷ What ∷ Lookups ∷ Profile ∷ Map ∷ Query ∷ Tile ∷ Listen ∷ Turns ∷ Hangup ∷
    Labels ∷ Hierarchies ∷ Certificate ∷ Cost ∷ Bound ∷ Notes ∷ []

-- the key that a text names
unfoldable pub key_of : List ℕ → Option Key
key_of text = find (λ k. bytes_eq (key_name k) text) all_keys

-- the row of a key
abbrev pub row_for : List KeyRow → Key → Option KeyRow
row_for keys key = find (λ r. same_key r.key key) keys

-- what a key, its value and their word give
abbrev pub given_by : ℕ → Key → List ℕ → Option Value → Option Given
given_by word key text None = None
given_by word key text (Some value) = Some (record { text = text; value = value; word = word; key = key })

-- what a key and a text give, if the key has a row
abbrev pub given_for : ℕ → Key → List ℕ → Option KeyRow → Option Given
given_for word key text None = None
given_for word key text (Some row) = given_by word key text (value_of row.form text)

-- what a text gives, if it names a key
abbrev pub given_in : List KeyRow → ℕ → List ℕ → Option Key → Option Given
given_in keys word text None = None
given_in keys word text (Some key) = given_for word key text (row_for keys key)

-- what the two parts of a word give
abbrev pub given_cut : List KeyRow → ℕ → Option (List ℕ × List ℕ) → Option Given
given_cut keys word None = None
given_cut keys word (Some parts) = given_in keys word parts.1 (key_of parts.0)

-- what the word at this place gives over these rows, none where it is at fault by itself
unfoldable pub entry_of : List KeyRow → ℕ → List ℕ → Option Given
entry_of keys word text = given_cut keys word (cut_word text)

-- the first that gives a key
abbrev pub entry_with : Key → List Given → Option Given
entry_with key entries = find (λ e. same_key e.key key) entries

-- all that give a key
abbrev pub entries_with : Key → List Given → List Given
entries_with key entries = filter (λ e. same_key e.key key) entries

-- how many give a key
abbrev pub count_of : Key → List Given → ℕ
count_of key entries = length (entries_with key entries)

-- how often a row wants its key at most
abbrev pub most_in : Option KeyRow → ℕ
most_in None = 0
most_in (Some row) = row.most

-- how often a key is wanted at most over these rows
abbrev pub most_of : List KeyRow → Key → ℕ
most_of keys key = most_in (row_for keys key)

-- each key is given as often as its row wants it at least
unfoldable pub has_all : List KeyRow → List Given → Bool
has_all keys entries = list_all (λ r. nat_le r.least (count_of r.key entries)) keys

-- both name profiles, of one name
abbrev pub same_profile : Given → Given → Bool
same_profile a b =
    same_key a.key Profile && (same_key b.key Profile &&
    bytes_eq (profile_name a.text) (profile_name b.text))

-- one of these names a profile of the same name
abbrev pub has_profile_of : Given → List Given → Bool
has_profile_of entry entries = list_any (λ other. same_profile other entry) entries

-- what a word gives may follow what others give: its key is wanted once more, and none of them names a
-- profile of the same name
unfoldable pub may_follow : List KeyRow → List Given → Given → Bool
may_follow keys before entry =
    nat_lt (count_of entry.key before) (most_of keys entry.key) && not (has_profile_of entry before)

-- what words give that follow others, or the place of the first word at fault: one that gives nothing, or
-- what may not follow
abbrev pub entries_after : List KeyRow → List Given → List (List ℕ) → Result (List Given) ℕ
entries_after keys before [] = Ok before
entries_after keys before (text ∷ texts) =
    elim (entry_of keys (length before + 1) text) [
      | None ↦ Err (length before + 1)
      | Some entry ↦
          cond (may_follow keys before entry)
          (entries_after keys (before ++ entry ∷ []) texts) (Err (length before + 1))
    ]

-- the entries, if none is missing; else the place after the last word
abbrev pub whole_by : List KeyRow → ℕ → Result (List Given) ℕ → Result (List Given) ℕ
whole_by keys after (Err word) = Err word
whole_by keys after (Ok entries) = cond (has_all keys entries) (Ok entries) (Err after)

-- what the words after a command give over the rows of its keys, or the place of the first word at fault;
-- where none is, the place after the last, if a key is missing
abbrev pub entries_of : List KeyRow → List (List ℕ) → Result (List Given) ℕ
entries_of keys texts = whole_by keys (length texts + 1) (entries_after keys [] texts)
