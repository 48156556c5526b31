-- A tree of JSON that is valid is read as its steps.
use Rattle.std.proofs.Common.{◌≡◌, ℕ, Bool, true, List, [], ◌∷◌, ◌++◌, append_assoc, None, refl, sym, ap, ◌∙◌}
use mathlib.Core.Bool.{false≢true}
use Rattle.json_text.specs.declared.mode.Bracket.{Bracket}
use Rattle.json_text.specs.declared.mode.Role.{Role}
use Rattle.json_text.specs.declared.mode.Role.TheVariants as role_
use Rattle.json_text.specs.Chars.{Char, content_of, print_chars, print_text, spelled, text_step}
use Rattle.json_text.specs.Grammar.{Entries, IsText, IsValue, Name, Others, Value, close, closing, letters_of, opening, print_entries, print_name, print_others, print_value}
use Rattle.json_text.specs.Marks.{Byte, End, Given, Mark, Seen, Step, see, steps_of, symbols, symbols_of}
use Rattle.json_text.specs.Reading.{IsBad, IsFrontFor, Reads}
use Rattle.json_text.specs.declared.step.Verdict.{Verdict}
use Rattle.json_text.specs.declared.step.Verdict.TheVariants.{BadAt, More, Whole}
use Rattle.map_elements.specs.Trees.{entries_steps, name_steps, others_steps, tree_steps}

-- ---- The bytes of a tree

-- characters before more
abbrev pub chars_onto : List Char → List ℕ → List ℕ
chars_onto [] more = more
chars_onto (c ∷ chars) more = spelled c ++ chars_onto chars more

-- a name and its colon before more
abbrev pub name_onto : Name → List ℕ → List ℕ
name_onto Name.NoName more = more
name_onto (Name.Named chars before behind) more =
    34 ∷ chars_onto chars (34 ∷ (before ++ (58 ∷ (behind ++ more))))

-- a value before more
abbrev mutual
  pub value_onto : Value → List ℕ → List ℕ
  value_onto (Value.Word word) more = letters_of word ++ more
  value_onto (Value.Number bytes) more = bytes ++ more
  value_onto (Value.Text chars) more = 34 ∷ chars_onto chars (34 ∷ more)
  value_onto (Value.Group bracket entries) more = opening bracket ∷ entries_onto entries bracket more

  pub entries_onto : Entries → Bracket → List ℕ → List ℕ
  entries_onto (Entries.Empty space) bracket more = space ++ (closing bracket ∷ more)
  entries_onto (Entries.Entry space name value others) bracket more =
      space ++ name_onto name (value_onto value (others_onto others bracket more))

  pub others_onto : Others → Bracket → List ℕ → List ℕ
  others_onto (Others.Last space) bracket more = space ++ (closing bracket ∷ more)
  others_onto (Others.Next space behind name value others) bracket more =
      space ++ (44 ∷ (behind ++ name_onto name (value_onto value (others_onto others bracket more))))

-- ---- What marks show and give

-- marks show these bytes and the end, and give these steps
pub record Prints (marks : List Mark) (bytes : List ℕ) (steps : List Step) : Type 0 where
  pub shows : symbols_of marks ≡ symbols bytes ++ (End ∷ [])
  pub gives : steps_of marks ≡ steps

-- the end alone
end-prints : Prints (Seen End ∷ []) [] []
end-prints = record { shows = refl; gives = refl }

-- a byte before marks
byte-prints : (b : ℕ) (marks : List Mark) (bytes : List ℕ) (steps : List Step) → Prints marks bytes steps →
    Prints (Seen (Byte b) ∷ marks) (b ∷ bytes) steps
byte-prints b marks bytes steps h = record { shows = ap (λ s. Byte b ∷ s) h.shows; gives = h.gives }

-- a step before marks
step-prints : (s : Step) (marks : List Mark) (bytes : List ℕ) (steps : List Step) → Prints marks bytes steps →
    Prints (Given s ∷ marks) bytes (s ∷ steps)
step-prints s marks bytes steps h = record { shows = h.shows; gives = ap (λ l. s ∷ l) h.gives }

-- bytes before marks
see-prints : (front : List ℕ) (marks : List Mark) (bytes : List ℕ) (steps : List Step) → Prints marks bytes steps →
    Prints (see front marks) (front ++ bytes) steps
see-prints [] marks bytes steps h = h
see-prints (b ∷ front) marks bytes steps h = byte-prints b (see front marks) (front ++ bytes) steps (see-prints front marks bytes steps h)

-- characters before marks
chars-prints : (chars : List Char) (marks : List Mark) (bytes : List ℕ) (steps : List Step) → Prints marks bytes steps →
    Prints (print_chars chars marks) (chars_onto chars bytes) steps
chars-prints [] marks bytes steps h = h
chars-prints (c ∷ chars) marks bytes steps h =
    see-prints (spelled c) (print_chars chars marks) (chars_onto chars bytes) steps (chars-prints chars marks bytes steps h)

-- a text between quotation marks before marks
text-prints : (role : Role) (chars : List Char) (marks : List Mark) (bytes : List ℕ) (steps : List Step) → Prints marks bytes steps →
    Prints (print_text role chars marks) (34 ∷ chars_onto chars (34 ∷ bytes)) (text_step role (content_of None chars) ∷ steps)
text-prints role chars marks bytes steps h =
    byte-prints 34 _ _ _ (chars-prints chars _ _ _ (byte-prints 34 _ _ _ (step-prints (text_step role (content_of None chars)) marks bytes
    steps h)))

-- a name before marks
name-prints : (name : Name) (marks : List Mark) (bytes : List ℕ) (steps : List Step) → Prints marks bytes steps →
    Prints (print_name name marks) (name_onto name bytes) (name_steps name ++ steps)
name-prints Name.NoName marks bytes steps h = h
name-prints (Name.Named chars before behind) marks bytes steps h =
    text-prints role_.Name chars _ _ _ (see-prints before _ _ _ (byte-prints 58 _ _ _ (see-prints behind _ _ _ h)))

-- a bracket that closes before marks
close-prints : (bracket : Bracket) (space : List ℕ) (marks : List Mark) (bytes : List ℕ) (steps : List Step) → Prints marks bytes steps →
    Prints (see space (close bracket marks)) (space ++ (closing bracket ∷ bytes)) (Step.Closes bracket ∷ steps)
close-prints bracket space marks bytes steps h =
    see-prints space _ _ _ (byte-prints (closing bracket) _ _ _ (step-prints (Step.Closes bracket) marks bytes steps h))

-- steps that are put together otherwise are the same
regrouped : (marks : List Mark) (bytes : List ℕ) (steps others : List Step) → steps ≡ others → Prints marks bytes steps →
    Prints marks bytes others
regrouped marks bytes steps others same h = record { shows = h.shows; gives = h.gives ∙ same }

-- the steps of an entry and of those behind it, before others
entry-steps : (name value others left : List Step) → name ++ (value ++ (others ++ left)) ≡ (name ++ (value ++ others)) ++ left
entry-steps name value others left =
    ap (λ l. name ++ l) (sym (append_assoc value others left)) ∙ sym (append_assoc name (value ++ others) left)

mutual
  -- a value before marks
  pub value-prints : (value : Value) (marks : List Mark) (bytes : List ℕ) (steps : List Step) → Prints marks bytes steps →
      Prints (print_value value marks) (value_onto value bytes) (tree_steps value ++ steps)
  value-prints (Value.Word word) marks bytes steps h =
      see-prints (letters_of word) _ _ _ (step-prints (Step.Word word) marks bytes steps h)
  value-prints (Value.Number digits) marks bytes steps h =
      see-prints digits _ _ _ (step-prints (Step.Number digits) marks bytes steps h)
  value-prints (Value.Text chars) marks bytes steps h = text-prints role_.Value chars marks bytes steps h
  value-prints (Value.Group bracket entries) marks bytes steps h =
      byte-prints (opening bracket) _ _ _ (step-prints (Step.Opens bracket) _ _ _ (entries-prints entries bracket marks bytes steps h))

  -- entries before marks
  entries-prints : (entries : Entries) (bracket : Bracket) (marks : List Mark) (bytes : List ℕ) (steps : List Step) →
      Prints marks bytes steps →
      Prints (print_entries entries bracket marks) (entries_onto entries bracket bytes) (entries_steps bracket entries ++ steps)
  entries-prints (Entries.Empty space) bracket marks bytes steps h = close-prints bracket space marks bytes steps h
  entries-prints (Entries.Entry space name value others) bracket marks bytes steps h =
      regrouped _ _ _ _ (entry-steps (name_steps name) (tree_steps value) (others_steps bracket others) steps)
      (see-prints space _ _ _ (name-prints name _ _ _ (value-prints value _ _ _ (others-prints others bracket marks bytes steps h))))

  -- the others before marks
  others-prints : (others : Others) (bracket : Bracket) (marks : List Mark) (bytes : List ℕ) (steps : List Step) →
      Prints marks bytes steps →
      Prints (print_others others bracket marks) (others_onto others bracket bytes) (others_steps bracket others ++ steps)
  others-prints (Others.Last space) bracket marks bytes steps h = close-prints bracket space marks bytes steps h
  others-prints (Others.Next space behind name value others) bracket marks bytes steps h =
      regrouped _ _ _ _ (entry-steps (name_steps name) (tree_steps value) (others_steps bracket others) steps)
      (see-prints space _ _ _ (byte-prints 44 _ _ _ (see-prints behind _ _ _
      (name-prints name _ _ _ (value-prints value _ _ _ (others-prints others bracket marks bytes steps h))))))

-- ---- Reading

-- each text has a reading
abbrev pub HasReadings : Type 0
HasReadings = (bytes : List ℕ) (ended : Bool) → (steps : List Step) × (verdict : Verdict) × Reads bytes ended steps verdict

-- marks that are a text and show bytes are read as their steps
text-reads : HasReadings → (marks : List Mark) (bytes : List ℕ) (steps : List Step) → IsText marks → Prints marks bytes steps →
    Reads bytes true steps Whole
text-reads readings marks bytes steps text prints =
    let (others, verdict, reads) = readings bytes true in
    by_verdict verdict reads.front reads.fits
  where
    by_verdict : (verdict : Verdict) (front : List Mark) → IsFrontFor bytes true front verdict → Reads bytes true steps Whole
    by_verdict More front fits = absurd (false≢true (sym fits.0))
    by_verdict Whole front fits =
        let same : marks ≡ front = fits.1.only marks text prints.shows in
        record { front = front; given = ap steps_of (sym same) ∙ prints.gives; fits = fits }
    by_verdict (BadAt at) front fits =
        let bad : IsBad bytes true front = fits.1 in
        absurd (bad.longest marks text
        (record { rest = bad.others; same = prints.shows ∙ bad.same ∙ sym (append_assoc (symbols_of front) (bad.next ∷ []) bad.others) }))

-- a valid tree with the end of a line behind it is read as its steps
pub tree-reads : HasReadings → (value : Value) → IsValue value 64 → Reads (value_onto value (10 ∷ [])) true (tree_steps value ++ []) Whole
tree-reads readings value valid =
    let marks : List Mark = print_value value (see (10 ∷ []) (Seen End ∷ [])) in
    text-reads readings marks (value_onto value (10 ∷ [])) (tree_steps value ++ [])
    (record { before = []; value = value; behind = 10 ∷ []; before_is = tt; value_is = valid; behind_is = (refl, tt); printed = refl })
    (value-prints value _ _ _ (see-prints (10 ∷ []) _ _ _ end-prints))
