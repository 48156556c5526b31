-- The table of a text, as the code comes to it: one line after the other.
use Rattle.std.proofs.Common.{◌≡◌, ℕ, suc, min, Bool, true, false, cond, not, ◌&&◌, ◌||◌, ◌==◌, List, [], ◌∷◌, ◌++◌, length, map, reverse, append_assoc, append-nil, is_some, Option, Some, None, Result, Ok, Err, refl, sym, ap, ◌∙◌, arith}
use Rattle.std.proofs.lemmas.Bool.Decides.{nat_tests}
use Rattle.std.proofs.lemmas.List.{reverse-append}
use Rattle.std.specs.List.{filter}
use Rattle.std.specs.Option.{option_or}
use Rattle.item_list.specs.Answer.{and_then}
use Rattle.lookup_table.specs.declared.draft.Draft.{Draft}
use Rattle.lookup_table.specs.declared.error.LookupError.{LookupError}
use Rattle.lookup_table.specs.declared.error.LookupError.TheVariants.{Line, TooMany, Version, FirstTag}
use Rattle.lookup_table.specs.declared.part.Part.{Part}
use Rattle.lookup_table.specs.declared.part.Part.TheVariants.{Way, Node}
use Rattle.lookup_table.specs.Draft.{one_more, empty_draft, add_tag_line, open_part, take_line, take_lines, finish}
use Rattle.lookup_table.specs.First.{TagTable, begins_as}
use Rattle.lookup_table.specs.Line.{LineForm, Skipped, LookupVersion, MinorVersion, Opens, TagLine, Malformed, line_form, lines_of}
use Rattle.lookup_table.specs.Table.{part_after, is_opened, is_open, rows_after, tag_fault, line_fault, first_fault, is_lookup_version, is_minor_version, has_late_version, whole_table, unless_fault, forms_of, table_of}
use Rattle.lookup_table.specs.Tag.{add_line, has_room}

-- what the code holds after these lines, the latest of them first
abbrev pub draft_after : List LineForm → Draft
draft_after lines = record {
  way = rows_after Way lines;
  node = rows_after Node lines;
  part = part_after lines;
  lookups = min (length (filter is_lookup_version lines)) 2;
  minors = min (length (filter is_minor_version lines)) 2;
  late = has_late_version lines;
  has_way = is_opened Way lines;
  has_node = is_opened Node lines;
}

-- a draft, unless there is a fault
abbrev draft_unless : Option LookupError → Draft → Result Draft LookupError
draft_unless None d = Ok d
draft_unless (Some fault) d = Err fault

-- one more of a count that two stand for more of
one_more-min : (n : ℕ) → one_more (min n 2) ≡ min (suc n) 2
one_more-min n = omega arith

-- a tag line adds to the part that is open, or is at fault
add_tag_line-is : (number : ℕ) (tag : List ℕ) (spellings : List (List ℕ)) (before : List LineForm) (open_now : Option Part)
    → add_tag_line number tag spellings open_now (draft_after before)
    ≡ draft_unless (tag_fault number tag open_now before)
    (record (draft_after before) {
      way = cond (is_open Way open_now) (add_line (rows_after Way before) tag spellings) (rows_after Way before);
      node = cond (is_open Node open_now) (add_line (rows_after Node before) tag spellings) (rows_after Node before);
    })
add_tag_line-is number tag spellings before None = refl
add_tag_line-is number tag spellings before (Some Way) = by_room (has_room (rows_after Way before) tag)
  where
    by_room : (b : Bool) → cond b (Ok (record (draft_after before) { way = add_line (rows_after Way before) tag spellings }))
        (Err (TooMany number))
        ≡ draft_unless (cond b None (Some (TooMany number)))
        (record (draft_after before) { way = add_line (rows_after Way before) tag spellings })
    by_room true = refl
    by_room false = refl
add_tag_line-is number tag spellings before (Some Node) = by_room (has_room (rows_after Node before) tag)
  where
    by_room : (b : Bool) → cond b (Ok (record (draft_after before) { node = add_line (rows_after Node before) tag spellings }))
        (Err (TooMany number))
        ≡ draft_unless (cond b None (Some (TooMany number)))
        (record (draft_after before) { node = add_line (rows_after Node before) tag spellings })
    by_room true = refl
    by_room false = refl

-- no late version is one more
not_late : (late : Bool) → late ≡ (late || false)
not_late true = refl
not_late false = refl

-- a line that opens a part opens it once
open_part-is : (number : ℕ) (part : Part) (before : List LineForm)
    → open_part number part (draft_after before) ≡ draft_unless (line_fault number (Opens part) before) (draft_after (Opens part ∷ before))
open_part-is number Way before = by_test (is_opened Way before) (has_late_version before || false) (not_late (has_late_version before))
  where
    by_test : (b late : Bool) → has_late_version before ≡ late
        → cond b (Err (Line number)) (Ok (record (draft_after before) { part = Some Way; has_way = true }))
        ≡ draft_unless (cond b (Some (Line number)) None) (record (draft_after before) { part = Some Way; late = late; has_way = true })
    by_test true late same = refl
    by_test false late same = ap (λ late. Ok (record (draft_after before) { part = Some Way; late = late; has_way = true })) same
open_part-is number Node before = by_test (is_opened Node before) (has_late_version before || false) (not_late (has_late_version before))
  where
    by_test : (b late : Bool) → has_late_version before ≡ late
        → cond b (Err (Line number)) (Ok (record (draft_after before) { part = Some Node; has_node = true }))
        ≡ draft_unless (cond b (Some (Line number)) None) (record (draft_after before) { part = Some Node; late = late; has_node = true })
    by_test true late same = refl
    by_test false late same = ap (λ late. Ok (record (draft_after before) { part = Some Node; late = late; has_node = true })) same

-- what the code holds after one more line, or the line's fault
take_line-is : (number : ℕ) (line : LineForm) (before : List LineForm)
    → take_line number line (draft_after before) ≡ draft_unless (line_fault number line before) (draft_after (line ∷ before))
take_line-is number Skipped before = ap (λ late. Ok (record (draft_after before) { late = late })) (not_late (has_late_version before))
take_line-is number LookupVersion before =
    ap (λ n. Ok (record (draft_after before) { lookups = n; late = has_late_version before || is_some (part_after before) }))
    (one_more-min (length (filter is_lookup_version before)))
take_line-is number MinorVersion before =
    ap (λ n. Ok (record (draft_after before) { minors = n; late = has_late_version before || is_some (part_after before) }))
    (one_more-min (length (filter is_minor_version before)))
take_line-is number (Opens part) before = open_part-is number part before
take_line-is number (TagLine tag spellings) before =
    add_tag_line-is number tag spellings before (part_after before)
    ∙ ap (λ late. draft_unless (tag_fault number tag (part_after before) before)
    (record (draft_after (TagLine tag spellings ∷ before)) { late = late })) (not_late (has_late_version before))
take_line-is number Malformed before = refl

-- a fault stays the first, whatever lines follow
first_fault-stays : (more before : List LineForm) (e : LookupError) → first_fault before ≡ Some e → first_fault (more ++ before) ≡ Some e
first_fault-stays [] before e first = first
first_fault-stays (line ∷ more) before e first =
    ap (λ fault. option_or fault (line_fault (suc (length (more ++ before))) line (more ++ before))) (first_fault-stays more before e first)

-- the code comes to what all lines say, or to the first fault
take_lines-are : (lines : List (List ℕ)) (before : List LineForm) → first_fault before ≡ None
    → take_lines (suc (length before)) lines (draft_after before)
    ≡ draft_unless (first_fault (reverse (map line_form lines) ++ before)) (draft_after (reverse (map line_form lines) ++ before))
take_lines-are [] before none = ap (λ fault. draft_unless fault (draft_after before)) (sym none)
take_lines-are (l ∷ ls) before none =
    let f : LineForm = line_form l in
    let n : ℕ = suc (length before) in
    let all : List LineForm = reverse (map line_form ls) ++ (f ∷ before) in
    let same : reverse (map line_form (l ∷ ls)) ++ before ≡ all =
    ap (λ lines. lines ++ before) (reverse-append (f ∷ []) (map line_form ls))
    ∙ append_assoc (reverse (map line_form ls)) (f ∷ []) before in
    ap (λ r. and_then r (take_lines (suc n) ls)) (take_line-is n f before)
    ∙ by_fault (λ first. take_lines-are ls (f ∷ before) first) (line_fault n f before)
    (ap (λ fault. option_or fault (line_fault n f before)) none)
    ∙ ap (λ lines. draft_unless (first_fault lines) (draft_after lines)) (sym same)
  where
    IsAsFar : Result Draft LookupError → Type 0
    IsAsFar r = r ≡ draft_unless (first_fault (reverse (map line_form ls) ++ (line_form l ∷ before)))
        (draft_after (reverse (map line_form ls) ++ (line_form l ∷ before)))

    by_fault : (first_fault (line_form l ∷ before) ≡ None
        → IsAsFar (take_lines (suc (suc (length before))) ls (draft_after (line_form l ∷ before)))) → (fault : Option LookupError)
        → first_fault (line_form l ∷ before) ≡ fault
        → IsAsFar (and_then (draft_unless fault (draft_after (line_form l ∷ before))) (take_lines (suc (suc (length before))) ls))
    by_fault further None first = further first
    by_fault further (Some e) first =
        ap (λ fault. draft_unless fault (draft_after (reverse (map line_form ls) ++ (line_form l ∷ before))))
        (sym (first_fault-stays (reverse (map line_form ls)) (line_form l ∷ before) e first))

-- a count is one where what stands for it is
min_one : (n : ℕ) → (min n 2 == 1) ≡ (n == 1)
min_one n = grind (arith, nat_tests)

-- the whole is judged by what the code holds
finish-is : (lines : List LineForm) → finish (draft_after lines) ≡ whole_table lines
finish-is lines =
    ap (λ b. judged (b && ((min (length (filter is_minor_version lines)) 2 == 1) && not (has_late_version lines))))
    (min_one (length (filter is_lookup_version lines)))
    ∙ ap (λ b. judged ((length (filter is_lookup_version lines) == 1) && (b && not (has_late_version lines))))
    (min_one (length (filter is_minor_version lines)))
  where
    judged : Bool → Result TagTable LookupError
    judged b = cond b (cond (begins_as Way (rows_after Way lines))
        (cond (begins_as Node (rows_after Node lines)) (Ok (record { way = rows_after Way lines; node = rows_after Node lines }))
        (Err (FirstTag Node))) (Err (FirstTag Way))) (Err Version)

-- the table of a text is what the code comes to, line after line and then at the end
pub table_of-taken : (text : List ℕ) → and_then (take_lines 1 (lines_of text) empty_draft) finish ≡ table_of text
unfolding table_of
table_of-taken text =
    let all : reverse (map line_form (lines_of text)) ++ [] ≡ forms_of text = append-nil (forms_of text) in
    ap (λ r. and_then r finish)
    (take_lines-are (lines_of text) [] refl ∙ ap (λ lines. draft_unless (first_fault lines) (draft_after lines)) all)
    ∙ by_fault (first_fault (forms_of text))
  where
    by_fault : (fault : Option LookupError)
        → and_then (draft_unless fault (draft_after (forms_of text))) finish ≡ unless_fault fault (whole_table (forms_of text))
    by_fault None = finish-is (forms_of text)
    by_fault (Some e) = refl
