-- Lines that are read one after the other.
use Rattle.std.proofs.Common.{◌≡◌, ℕ, suc, ◌+◌, ◌<◌, ◌≤◌, Bool, true, false, not, cond, ◌==◌, List, [], ◌∷◌, length, take, drop, Result, Ok, Err, refl, sym, ap, ◌∙◌, arith, add-one, ◌⊎◌, inl, inr}
use Rattle.std.proofs.lemmas.List.{length-drop}
use Rattle.std.proofs.lemmas.Str.{is_utf8-from_IsUtf8}
use Rattle.std.specs.List.{prefix_len, onto_first}
use Rattle.item_list.specs.Answer.{Answers, and_then}
use Rattle.lookup_table.specs.declared.draft.Draft.{Draft}
use Rattle.lookup_table.specs.declared.error.LookupError.{LookupError}
use Rattle.lookup_table.specs.declared.error.LookupError.TheVariants.{NoMemory}
use Rattle.lookup_table.specs.First.{TagTable}
use Rattle.lookup_table.specs.Line.{Skipped, Malformed, is_in_line, line_form, lines_of, text_form}
use Rattle.lookup_table.specs.Draft.{lines_after, empty_draft, take_line, take_lines, finish}
use Rattle.lookup_table.specs.Table.{table_of}
use Rattle.lookup_table.proofs.TableLemmas.{table_of-taken}

-- the first line, and those after it
lines_of-first : (text : List ℕ)
    → lines_of text ≡ take (prefix_len is_in_line text) text ∷ lines_after (drop (prefix_len is_in_line text) text)
lines_of-first [] = refl
lines_of-first (c ∷ cs) = by_test (c == 10) refl (lines_of-first cs)
  where
    by_test : (b : Bool) → (c == 10) ≡ b
        → lines_of cs ≡ take (prefix_len is_in_line cs) cs ∷ lines_after (drop (prefix_len is_in_line cs) cs)
        → lines_of (c ∷ cs) ≡ take (prefix_len is_in_line (c ∷ cs)) (c ∷ cs) ∷ lines_after (drop (prefix_len is_in_line (c ∷ cs)) (c ∷ cs))
    by_test true end rest =
        let none : prefix_len is_in_line (c ∷ cs) ≡ 0 = ap (λ b. cond (not b) (1 + prefix_len is_in_line cs) 0) end in
        ap (λ b. cond b ([] ∷ lines_of cs) (onto_first c (lines_of cs))) end
        ∙ ap (λ n. take n (c ∷ cs) ∷ lines_after (drop n (c ∷ cs))) (sym none)
    by_test false more rest =
        let n : ℕ = prefix_len is_in_line cs in
        let longer : prefix_len is_in_line (c ∷ cs) ≡ suc n = ap (λ b. cond (not b) (1 + n) 0) more ∙ omega arith in
        ap (λ b. cond b ([] ∷ lines_of cs) (onto_first c (lines_of cs))) more
        ∙ ap (onto_first c) rest
        ∙ ap (λ n. take n (c ∷ cs) ∷ lines_after (drop n (c ∷ cs))) (sym longer)

-- a text that is split where its first line ends
pub lines_of-split : (text : List ℕ) (n : ℕ) (line after : List ℕ) → n ≡ prefix_len is_in_line text → line ≡ take n text
    → after ≡ drop n text → lines_of text ≡ line ∷ lines_after after
lines_of-split text n line after n_is line_is after_is =
    lines_of-first text
    ∙ ap (λ n. take n text ∷ lines_after (drop n text)) (sym n_is)
    ∙ ap (λ l. l ∷ lines_after (drop n text)) (sym line_is)
    ∙ ap (λ a. line ∷ lines_after a) (sym after_is)

-- a blank line is skipped
pub line_form-empty : line_form [] ≡ Skipped
line_form-empty = ap (λ b. cond b (text_form []) Malformed) (is_utf8-from_IsUtf8 [] ([], (refl, refl)))

-- what is read from here on is what is read of the whole text, and the lines are few enough to be numbered
pub record ReadsOn (text : List ℕ) (number : ℕ) (rest : List ℕ) (draft : Draft) : Type 0 where
  pub same : take_lines number (lines_of rest) draft ≡ take_lines 1 (lines_of text) empty_draft
  pub few : number + length rest ≤ length text + 1

-- a text with no more than an end of line has no line that says anything
nothing_left : (number : ℕ) (draft : Draft) (after : List ℕ) → length after ≤ 1 → take_lines number (lines_after after) draft ≡ Ok draft
nothing_left number draft [] few = refl
nothing_left number draft (c ∷ []) few = ap (λ f. and_then (take_line number f draft) (take_lines (suc number) [])) line_form-empty
nothing_left number draft (c ∷ d ∷ ds) few = absurd (omega arith)

-- the lines after an end of line are those of what follows its byte 10
goes_on : (number : ℕ) (draft : Draft) (after : List ℕ) → 1 < length after
    → take_lines number (lines_of (drop 1 after)) draft ≡ take_lines number (lines_after after) draft
goes_on number draft [] more = absurd (omega arith)
goes_on number draft (c ∷ cs) more = refl

-- a text that begins with this line, which is read where this draft stands
module _ (text : List ℕ) (number : ℕ) (rest line after : List ℕ) (draft : Draft) (reads : ReadsOn text number rest draft)
    (first : lines_of rest ≡ line ∷ lines_after after) where
  -- what the whole text comes to is what the line leaves to the lines after it
  line_first : and_then (take_line number (line_form line) draft) (take_lines (suc number) (lines_after after))
      ≡ take_lines 1 (lines_of text) empty_draft
  line_first = sym (ap (λ ls. take_lines number ls draft) first) ∙ reads.same

  -- what a refused line answers is answered of the whole text
  pub ReadsOn-refused : (e : LookupError) → (e ≡ NoMemory) ⊎ (take_line number (line_form line) draft ≡ Err e)
      → (e ≡ NoMemory) ⊎ (take_lines 1 (lines_of text) empty_draft ≡ Err e)
  ReadsOn-refused e (inl memory) = inl memory
  ReadsOn-refused e (inr refused) = inr (sym line_first ∙ ap (λ r. and_then r (take_lines (suc number) (lines_after after))) refused)

  -- a line that is taken leaves the lines after it
  taken : (next : Draft) → take_line number (line_form line) draft ≡ Ok next
      → take_lines (suc number) (lines_after after) next ≡ take_lines 1 (lines_of text) empty_draft
  taken next ok = sym (ap (λ r. and_then r (take_lines (suc number) (lines_after after))) ok) ∙ line_first

  -- where no more than an end of line is left, all is read
  pub ReadsOn-last : (next : Draft) → take_line number (line_form line) draft ≡ Ok next → length after ≤ 1
      → take_lines 1 (lines_of text) empty_draft ≡ Ok next
  ReadsOn-last next ok few = sym (taken next ok) ∙ nothing_left (suc number) next after few

  -- else reading goes on after the end of the line
  pub ReadsOn-more : (next : Draft) → take_line number (line_form line) draft ≡ Ok next → 1 < length after → length after ≤ length rest
      → ReadsOn text (number + 1) (drop 1 after) next
  ReadsOn-more next ok more fits = record {
    same = ap (λ k. take_lines k (lines_of (drop 1 after)) next) (add-one number) ∙ goes_on (suc number) next after more ∙ taken next ok;
    few = omega (arith, reads.few, length-drop 1 after);
  }

-- ---- The table

-- what the end of the reading answers is the answer of the text
pub table_of-finished : (text : List ℕ) (draft : Draft) (r : Result TagTable LookupError)
    → take_lines 1 (lines_of text) empty_draft ≡ Ok draft → r ≡ finish draft → r ≡ table_of text
table_of-finished text draft r read r_is = r_is ∙ sym (ap (λ d. and_then d finish) read) ∙ table_of-taken text

-- what a line refuses is the refusal of the text
pub table_of-refused : (text : List ℕ) (e : LookupError) → (e ≡ NoMemory) ⊎ (take_lines 1 (lines_of text) empty_draft ≡ Err e)
    → (e ≡ NoMemory) ⊎ (table_of text ≡ Err e)
table_of-refused text e (inl memory) = inl memory
table_of-refused text e (inr refused) = inr (sym (table_of-taken text) ∙ ap (λ d. and_then d finish) refused)

-- an answer that is the text's says so, whichever it is
pub answers : (text : List ℕ) (r : Result TagTable LookupError) → r ≡ table_of text → Answers (λ t. t) (table_of text) NoMemory r
answers text (Ok t) same = sym same
answers text (Err e) same = inr (sym same)
