-- What words give fits the rows of its keys.
use Rattle.std.proofs.Common.{◌≡◌, ℕ, ◌≤◌, ◌+◌, ◌⊎◌, inl, inr, Bool, true, false, cond, ◌&&◌, nat_le, Option, Some, None, Result, Ok, Err, List, [], ◌∷◌, ◌++◌, length, refl, sym, ap, arith, subst}
use Rattle.std.proofs.lemmas.Bool.Decides.{nat_tests}
use Rattle.std.specs.List.{find}
use Rattle.command_words.specs.Addresses.{is_address}
use Rattle.command_words.specs.FileNames.{is_profile_file}
use Rattle.command_words.specs.Given.{Given}
use Rattle.command_words.specs.Value.{number_of, within, number_value, file_value, value_of, cut_word, number_in}
use Rattle.command_words.specs.Reader.{key_of, row_for, given_by, given_for, given_in, given_cut, entry_of, entry_with, same_key, may_follow, has_all, entries_after, whole_by}
use Rattle.command_words.specs.Fit.{most_cost}
use Rattle.command_words.proofs.CostLemmas.{cost-fit}
use Rattle.command_words.proofs.KeyLemmas.{key-is}
use Rattle.command_words.specs.declared.rows.Form.{Form as Wanted}
use Rattle.command_words.specs.declared.rows.Form.TheVariants as Want
use Rattle.command_words.specs.declared.rows.KeyRow.{KeyRow}
use Rattle.command_words.specs.declared.rows.Key.{Key}
use Rattle.command_words.specs.declared.value.Value.{Value}

-- a number is within the limits of a form, a cost within those of all, and a text names a profile's file or spells an address where
-- the form wants one
abbrev pub FitForm : Wanted → List ℕ → ℕ → Type 0
FitForm (Want.Number low high) text x = (low ≤ x) × (x ≤ high)
FitForm Want.Place text x = Unit {0}
FitForm Want.Product text x = Unit {0}
FitForm Want.File text x = Unit {0}
FitForm Want.ProfileFile text x = is_profile_file text ≡ true
FitForm Want.Query text x = Unit {0}
FitForm Want.Address text x = is_address text ≡ true
FitForm Want.Cost text x = x ≤ most_cost

-- the same of the form of a row, if there is one
abbrev pub FitRow : Option KeyRow → List ℕ → ℕ → Type 0
FitRow None text x = ⊥
FitRow (Some row) text x = FitForm row.form text x

-- a test decides: where it is true the first of two answers is given, else the second
pub split : {A : Type 0} (b : Bool) (x y z : A) → cond b x y ≡ z → ((b ≡ true) × (x ≡ z)) ⊎ ((b ≡ false) × (y ≡ z))
split true x y z e = inl (refl, e)
split false x y z e = inr (refl, e)

in_limits : (low high number : ℕ) → (nat_le low number && nat_le number high) ≡ true → (low ≤ number) × (number ≤ high)
in_limits low high number h = (grind (arith, nat_tests), grind (arith, nat_tests))

-- the number of a value that may be none
abbrev number_or : Option Value → ℕ
number_or None = 0
number_or (Some value) = number_in value

number-fit : (low high : ℕ) (r : Option ℕ) (value : Value) → number_value (within low high r) ≡ Some value →
    (low ≤ number_in value) × (number_in value ≤ high)
number-fit low high None value e = cc
number-fit low high (Some number) value e = go (nat_le low number && nat_le number high) refl e where
  go :
      (b : Bool) → (nat_le low number && nat_le number high) ≡ b → number_value (cond b (Some number) None) ≡ Some value →
      (low ≤ number_in value) × (number_in value ≤ high)
  go true is e =
      let x_is : number ≡ number_in value = ap number_or e in
      subst (λ x. (low ≤ x) × (x ≤ high)) x_is (in_limits low high number is)
  go false is e = cc

file-fit : (b : Bool) (value : Value) → file_value b ≡ Some value → b ≡ true
file-fit true value e = refl
file-fit false value e = cc

value-fit : (form : Wanted) (text : List ℕ) (value : Value) → value_of form text ≡ Some value → FitForm form text (number_in value)
unfolding value_of
value-fit (Want.Number low high) text value e = number-fit low high (number_of text) value e
value-fit Want.Place text value e = tt
value-fit Want.Product text value e = tt
value-fit Want.File text value e = tt
value-fit Want.ProfileFile text value e = file-fit (is_profile_file text) value e
value-fit Want.Query text value e = tt
value-fit Want.Address text value e = file-fit (is_address text) value e
value-fit Want.Cost text value e = cost-fit text value e

-- an entry fits its key's row
abbrev pub FitEntry : List KeyRow → Given → Type 0
FitEntry keys entry = FitRow (row_for keys entry.key) entry.text (number_in entry.value)

by-fit : (keys : List KeyRow) (word : ℕ) (key : Key) (text : List ℕ) (r : Option Value) (entry : Given) →
    ((value : Value) → r ≡ Some value → FitRow (row_for keys key) text (number_in value)) → given_by word key text r ≡ Some entry →
    FitEntry keys entry
by-fit keys word key text None entry fit e = cc
by-fit keys word key text (Some value) entry fit e =
    let made : Given = record { text = text; value = value; word = word; key = key } in
    let same : made ≡ entry = cc in
    subst (FitEntry keys) same (fit value refl)

for-fit : (keys : List KeyRow) (word : ℕ) (key : Key) (text : List ℕ) (r : Option KeyRow) (entry : Given) → row_for keys key ≡ r →
    given_for word key text r ≡ Some entry → FitEntry keys entry
for-fit keys word key text None entry is e = cc
for-fit keys word key text (Some row) entry is e =
    by-fit keys word key text (value_of row.form text) entry
    (λ value v. subst (λ r. FitRow r text (number_in value)) (sym is) (value-fit row.form text value v)) e

in-fit : (keys : List KeyRow) (word : ℕ) (text : List ℕ) (r : Option Key) (entry : Given) → given_in keys word text r ≡ Some entry →
    FitEntry keys entry
in-fit keys word text None entry e = cc
in-fit keys word text (Some key) entry e = for-fit keys word key text (row_for keys key) entry refl e

cut-fit : (keys : List KeyRow) (word : ℕ) (r : Option (List ℕ × List ℕ)) (entry : Given) → given_cut keys word r ≡ Some entry →
    FitEntry keys entry
cut-fit keys word None entry e = cc
cut-fit keys word (Some parts) entry e = in-fit keys word parts.1 (key_of parts.0) entry e

entry-fit : (keys : List KeyRow) (word : ℕ) (text : List ℕ) (entry : Given) → entry_of keys word text ≡ Some entry → FitEntry keys entry
unfolding entry_of
entry-fit keys word text entry e = cut-fit keys word (cut_word text) entry e

-- all entries fit
abbrev pub AllFit : List KeyRow → List Given → Type 0
AllFit keys [] = Unit {0}
AllFit keys (entry ∷ entries) = FitEntry keys entry × AllFit keys entries

all-push : (keys : List KeyRow) (entries : List Given) (entry : Given) → AllFit keys entries → FitEntry keys entry →
    AllFit keys (entries ++ entry ∷ [])
all-push keys [] entry all fit = (fit, tt)
all-push keys (first ∷ rest) entry all fit = (all.0, all-push keys rest entry all.1 fit)

-- an error is no success
pub err-not_ok : {A : Type 0} (n : ℕ) (x : A) → ◌≡◌ {A = Result A ℕ} (Err n) (Ok x) → ⊥
err-not_ok n x h = cc

-- what each step of the reading keeps holds of what is read
pub after-keeps : (keys : List KeyRow) (P : List Given → Type 0) →
    ((word : ℕ) (text : List ℕ) (before : List Given) (entry : Given) → entry_of keys word text ≡ Some entry →
    may_follow keys before entry ≡ true → P before → P (before ++ entry ∷ [])) →
    (texts : List (List ℕ)) (before entries : List Given) → P before → entries_after keys before texts ≡ Ok entries → P entries
after-keeps keys P keeps [] before entries held e =
    let same : before ≡ entries = cc in subst P same held
after-keeps keys P keeps (text ∷ texts) before entries held e =
    elim (entry_of keys (length before + 1) text) as
    (λ r. entry_of keys (length before + 1) text ≡ r →
    ◌≡◌ {A = Result (List Given) ℕ}
    (elim r [
      | None ↦ Err (length before + 1)
      | Some entry ↦
          cond (may_follow keys before entry)
          (entries_after keys (before ++ entry ∷ []) texts) (Err (length before + 1))
    ])
    (Ok entries) → P entries) [
      | None ↦ λ is f. absurd (err-not_ok (length before + 1) entries f)
      | Some entry ↦ λ is f.
          elim (split (may_follow keys before entry) (entries_after keys (before ++ entry ∷ []) texts) (Err (length before + 1))
          (Ok entries) f) [
            | inl (free, h) ↦
                after-keeps keys P keeps texts (before ++ entry ∷ []) entries
                (keeps (length before + 1) text before entry is free held) h
            | inr (full, h) ↦ absurd (err-not_ok (length before + 1) entries h)
          ]
    ] refl e

-- what is read fits
pub after-fit : (keys : List KeyRow) (texts : List (List ℕ)) (entries : List Given) → entries_after keys [] texts ≡ Ok entries →
    AllFit keys entries
after-fit keys texts entries e =
    after-keeps keys (AllFit keys) (λ word text before entry is free all.
    all-push keys before entry all (entry-fit keys word text entry is))
    texts [] entries tt e

-- entries of which none is missing are those that were read
pub whole-read : (keys : List KeyRow) (after : ℕ) (r : Result (List Given) ℕ) (entries : List Given) → whole_by keys after r ≡ Ok entries →
    r ≡ Ok entries
whole-read keys after (Err word) entries e = absurd (err-not_ok word entries e)
whole-read keys after (Ok all) entries e =
    elim (split (has_all keys all) (Ok all) (Err after) (Ok entries) e) [
      | inl (there, h) ↦ h
      | inr (gone, h) ↦ absurd (err-not_ok after entries h)
    ]

-- the entry that is found fits the row of its key
pub with-fit : (keys : List KeyRow) (key : Key) (entries : List Given) (entry : Given) → AllFit keys entries →
    entry_with key entries ≡ Some entry → FitRow (row_for keys key) entry.text (number_in entry.value)
with-fit keys key [] entry all e = cc
with-fit keys key (first ∷ rest) entry all e =
    elim (split (same_key first.key key) (Some first) (find (λ (x : Given). same_key x.key key) rest) (Some entry) e) [
      | inl (is, here) ↦
          let same : first ≡ entry = cc in
          let fit = subst (λ k. FitRow (row_for keys k) first.text (number_in first.value)) (key-is first.key key is) all.0 in
          subst (λ (x : Given). FitRow (row_for keys key) x.text (number_in x.value)) same fit
      | inr (is, later) ↦ with-fit keys key rest entry all.1 later
    ]
