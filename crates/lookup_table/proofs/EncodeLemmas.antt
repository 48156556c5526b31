-- Tag numbers, noted from the last tag to the first, and read again from what is printed.
use Rattle.std.proofs.Common.{◌≡◌, ℕ, zero, suc, ◌+◌, ◌-◌, ◌<◌, ◌≤◌, Bool, true, false, cond, List, [], ◌∷◌, ◌++◌, length, get_or, take, drop, replicate, nat_eq, Option, Some, None, unwrap_or, refl, sym, ap, ◌∙◌, arith, append_assoc}
use Rattle.std.proofs.lemmas.Bool.Decides.{nat_tests}
use Rattle.std.proofs.lemmas.List.{drop_more, length-map}
use Rattle.std.proofs.Math.Seq.{take-append_seam}
use Rattle.std.specs.Option.{option_map}
use Rattle.std.specs.Str.{bytes_eq}
use Rattle.lookup_table.specs.Noted.{noted_at, noted}
use Rattle.lookup_table.specs.Numbers.{value_number_of, tag_number_of, tag_numbers, value_text, printed_tags, AreNumbersOf, IsFirstSpelling, AreFirstSpellings}
use Rattle.lookup_table.specs.Tag.{TagRow, AreSound, AreDistinct, names_of, place_of}
use Rattle.lookup_table.proofs.TagLemmas.{AreWithin-number}
use Rattle.lookup_table.proofs.RowLemmas.{name_place-none}
use Rattle.item_list.proofs.TestLemmas.{bytes_eq-refl, bytes_eq-same, bytes_eq-turned}

-- a list of tags: names with their values
abbrev pub TagList : Type 0
TagList = List (List ℕ × List ℕ)

-- ---- One tag more

-- a tag that no row has changes no number
tag_numbers-absent : (rows : List TagRow) (tag : List ℕ × List ℕ) (tags : TagList) → place_of rows tag.0 ≡ None
    → tag_numbers rows (tag ∷ tags) ≡ tag_numbers rows tags
tag_numbers-absent [] tag tags none = refl
tag_numbers-absent (r ∷ rs) tag tags none =
    let parts : (bytes_eq tag.0 r.name ≡ false) × (place_of rs tag.0 ≡ None) = name_place-none r.name (names_of rs) tag.0 none in
    ap (λ b. cond b (value_number_of r tag.1) (tag_number_of r tags) ∷ tag_numbers rs (tag ∷ tags)) parts.0
    ∙ ap (λ ns. tag_number_of r tags ∷ ns) (tag_numbers-absent rs tag tags parts.1)

-- a place after the first
noted_at-later : (r : TagRow) (rs : List TagRow) (n : ℕ) (ns value : List ℕ) (o : Option ℕ)
    → noted_at (r ∷ rs) (n ∷ ns) value (option_map suc o) ≡ n ∷ noted_at rs ns value o
noted_at-later r rs n ns value None = refl
noted_at-later r rs n ns value (Some i) = refl

-- the numbers of one more tag in front
pub noted_is : (rows : List TagRow) (tag : List ℕ × List ℕ) (tags : TagList) → AreDistinct (names_of rows)
    → noted rows (tag_numbers rows tags) tag.0 tag.1 ≡ tag_numbers rows (tag ∷ tags)
noted_is [] tag tags apart = refl
noted_is (r ∷ rs) tag tags apart = by_test (bytes_eq tag.0 r.name) refl (noted_is rs tag tags apart.1)
  where
    by_test : (b : Bool) → bytes_eq tag.0 r.name ≡ b → noted rs (tag_numbers rs tags) tag.0 tag.1 ≡ tag_numbers rs (tag ∷ tags)
        → noted_at (r ∷ rs) (tag_numbers (r ∷ rs) tags) tag.1 (cond b (Some 0) (option_map suc (place_of rs tag.0)))
        ≡ cond b (value_number_of r tag.1) (tag_number_of r tags) ∷ tag_numbers rs (tag ∷ tags)
    by_test true test rest =
        let none : place_of rs tag.0 ≡ None = ap (place_of rs) (bytes_eq-same tag.0 r.name test) ∙ apart.0 in
        ap (λ ns. value_number_of r tag.1 ∷ ns) (sym (tag_numbers-absent rs tag tags none))
    by_test false test rest =
        noted_at-later r rs (tag_number_of r tags) (tag_numbers rs tags) tag.1 (place_of rs tag.0)
        ∙ ap (λ ns. tag_number_of r tags ∷ ns) rest

-- without tags all numbers are 0
pub tag_numbers-none : (rows : List TagRow) → tag_numbers rows [] ≡ replicate (length rows) 0
tag_numbers-none [] = refl
tag_numbers-none (r ∷ rs) = ap (λ ns. 0 ∷ ns) (tag_numbers-none rs)

-- the numbers of the tags from a place on
pub record EncodesOn (rows : List TagRow) (tags : TagList) (numbers : List ℕ) (place : ℕ) : Type 0 where
  pub fits : place ≤ length tags
  pub numbers_are : numbers ≡ tag_numbers rows (drop place tags)

-- at the end there are none
pub EncodesOn-start : (rows : List TagRow) (tags : TagList) (numbers : List ℕ) → numbers ≡ replicate (length rows) 0
    → EncodesOn rows tags numbers (length tags)
EncodesOn-start rows tags numbers zeros = record {
  fits = omega arith;
  numbers_are = zeros ∙ sym (tag_numbers-none rows) ∙ ap (tag_numbers rows) (sym (drop_all tags));
}
  where
    drop_all : (ts : TagList) → drop (length ts) ts ≡ []
    drop_all [] = refl
    drop_all (t ∷ ts) = drop_all ts

-- there is one number for each tag of the part
pub EncodesOn-length : (rows : List TagRow) (tags : TagList) (numbers : List ℕ) (place : ℕ) → EncodesOn rows tags numbers place
    → length numbers ≡ length rows
EncodesOn-length rows tags numbers place on = ap length on.numbers_are ∙ length-map rows (λ row. tag_number_of row (drop place tags))

-- one tag before that place
pub EncodesOn-step : (rows : List TagRow) (tags : TagList) (numbers new : List ℕ) (place : ℕ) (tag : List ℕ × List ℕ)
    → AreDistinct (names_of rows) → EncodesOn rows tags numbers place → 0 < place → tag ≡ get_or tags (place - 1) tag
    → new ≡ noted rows numbers tag.0 tag.1 → EncodesOn rows tags new (place - 1)
EncodesOn-step rows tags numbers new place tag apart on some tag_is new_is =
    let fits : place ≤ length tags = on.fits in
    let next : place - 1 + 1 ≡ place = omega arith in
    let front : drop (place - 1) tags ≡ tag ∷ drop place tags =
    drop_more tags (place - 1) tag (omega arith) ∙ ap (λ t. t ∷ drop (place - 1 + 1) tags) (sym tag_is)
    ∙ ap (λ n. tag ∷ drop n tags) next in
    record {
      fits = omega arith;
      numbers_are =
          new_is
          ∙ ap (λ ns. noted rows ns tag.0 tag.1) on.numbers_are
          ∙ noted_is rows tag (drop place tags) apart
          ∙ ap (tag_numbers rows) (sym front);
    }

-- ---- What is printed, read again

-- among what is printed of other tags a tag isn't set
tag_number_of-printed : (row : TagRow) (rows : List TagRow) (numbers : List ℕ) → place_of rows row.name ≡ None
    → tag_number_of row (printed_tags rows numbers) ≡ 0
tag_number_of-printed row [] numbers none = refl
tag_number_of-printed row (r ∷ rs) [] none = refl
tag_number_of-printed row (r ∷ rs) (n ∷ ns) none =
    let parts : (bytes_eq row.name r.name ≡ false) × (place_of rs row.name ≡ None) = name_place-none r.name (names_of rs) row.name none in
    by_test (nat_eq n 0) (bytes_eq-turned row.name r.name parts.0) (tag_number_of-printed row rs ns parts.1)
  where
    by_test : (b : Bool) → bytes_eq r.name row.name ≡ false → tag_number_of row (printed_tags rs ns) ≡ 0
        → tag_number_of row (cond b (printed_tags rs ns) ((r.name, value_text r n) ∷ printed_tags rs ns)) ≡ 0
    by_test true other rest = rest
    by_test false other rest = ap (λ b. cond b (value_number_of row (value_text r n)) (tag_number_of row (printed_tags rs ns))) other ∙ rest

-- tags before others that name none of these rows
abbrev pub NamesNone : TagList → List TagRow → Type 0
NamesNone [] rows = Unit {0}
NamesNone (t ∷ ts) rows = (place_of rows t.0 ≡ None) × NamesNone ts rows

-- so they name none of fewer rows
NamesNone-rest : (tags : TagList) (r : TagRow) (rs : List TagRow) → NamesNone tags (r ∷ rs) → NamesNone tags rs
NamesNone-rest [] r rs none = tt
NamesNone-rest (t ∷ ts) r rs none = ((name_place-none r.name (names_of rs) t.0 none.0).1, NamesNone-rest ts r rs none.1)

-- one more that names none of them
NamesNone-append : (tags : TagList) (tag : List ℕ × List ℕ) (rows : List TagRow) → NamesNone tags rows → place_of rows tag.0 ≡ None
    → NamesNone (tags ++ tag ∷ []) rows
NamesNone-append [] tag rows none one = (one, tt)
NamesNone-append (t ∷ ts) tag rows none one = (none.0, NamesNone-append ts tag rows none.1 one)

-- they leave the number of the first row
tag_number_of-skip : (tags more : TagList) (r : TagRow) (rs : List TagRow) → NamesNone tags (r ∷ rs)
    → tag_number_of r (tags ++ more) ≡ tag_number_of r more
tag_number_of-skip [] more r rs none = refl
tag_number_of-skip (t ∷ ts) more r rs none =
    ap (λ b. cond b (value_number_of r t.1) (tag_number_of r (ts ++ more))) (name_place-none r.name (names_of rs) t.0 none.0).0
    ∙ tag_number_of-skip ts more r rs none.1

-- a value that is a first spelling has its number
value_number_of-first : (row : TagRow) (number : ℕ) → 0 < number → IsFirstSpelling row number
    → value_number_of row (value_text row number) ≡ number
value_number_of-first row zero some first = absurd (omega arith)
value_number_of-first row (suc zero) some first = ap (λ o. unwrap_or o 1) (first.unknown refl)
value_number_of-first row (suc (suc n)) some first = ap (λ o. unwrap_or o 1) (first.listed (omega arith))

-- what is printed of numbers has these numbers, after tags that name none of the rows
printed_after : (tags : TagList) (rows : List TagRow) (numbers : List ℕ) → AreDistinct (names_of rows) → AreNumbersOf rows numbers
    → AreFirstSpellings rows numbers → NamesNone tags rows → tag_numbers rows (tags ++ printed_tags rows numbers) ≡ numbers
printed_after tags [] [] apart fits firsts none = refl
printed_after tags [] (n ∷ ns) apart fits firsts none = absurd fits
printed_after tags (r ∷ rs) [] apart fits firsts none = absurd fits
printed_after tags (r ∷ rs) (n ∷ ns) apart fits firsts none =
    by_test (nat_eq n 0) refl
    (printed_after tags rs ns apart.1 fits.1 firsts.1 (NamesNone-rest tags r rs none))
    (printed_after (tags ++ (r.name, value_text r n) ∷ []) rs ns apart.1 fits.1 firsts.1
    (NamesNone-append tags (r.name, value_text r n) rs (NamesNone-rest tags r rs none) apart.0))
  where
    by_test : (b : Bool) → nat_eq n 0 ≡ b → tag_numbers rs (tags ++ printed_tags rs ns) ≡ ns
        → tag_numbers rs ((tags ++ (r.name, value_text r n) ∷ []) ++ printed_tags rs ns) ≡ ns
        → tag_numbers (r ∷ rs) (tags ++ cond b (printed_tags rs ns) ((r.name, value_text r n) ∷ printed_tags rs ns)) ≡ n ∷ ns
    by_test true test rest more =
        let is_zero : 0 ≡ n = grind (arith, nat_tests) in
        ap (λ m. m ∷ tag_numbers rs (tags ++ printed_tags rs ns))
        (tag_number_of-skip tags (printed_tags rs ns) r rs none ∙ tag_number_of-printed r rs ns apart.0 ∙ is_zero)
        ∙ ap (λ ms. n ∷ ms) rest
    by_test false test rest more =
        let some : 0 < n = grind (arith, nat_tests) in
        let tag : List ℕ × List ℕ = (r.name, value_text r n) in
        ap (λ m. m ∷ tag_numbers rs (tags ++ tag ∷ printed_tags rs ns))
        (tag_number_of-skip tags (tag ∷ printed_tags rs ns) r rs none
        ∙ ap (λ b. cond b (value_number_of r (value_text r n)) (tag_number_of r (printed_tags rs ns))) (bytes_eq-refl r.name)
        ∙ value_number_of-first r n some firsts.0)
        ∙ ap (λ ts. n ∷ tag_numbers rs ts) (sym (append_assoc tags (tag ∷ []) (printed_tags rs ns)))
        ∙ ap (λ ms. n ∷ ms) more

-- what is printed of numbers has these numbers
pub tag_numbers-printed : (rows : List TagRow) (numbers : List ℕ) → AreDistinct (names_of rows) → AreNumbersOf rows numbers
    → AreFirstSpellings rows numbers → tag_numbers rows (printed_tags rows numbers) ≡ numbers
tag_numbers-printed rows numbers apart fits firsts = printed_after [] rows numbers apart fits firsts tt

-- a slice of a whole list that was written to is that list as it is now
pub whole_written : (len : ℕ) (new old : List ℕ) → len ≡ length new → take len (new ++ drop (length new) old) ≡ new
whole_written len new old len_is = ap (λ n. take n (new ++ drop (length new) old)) len_is ∙ take-append_seam new (drop (length new) old)

-- the numbers of tags are of the part
pub AreNumbersOf-tag_numbers : (rows : List TagRow) (tags : TagList) → AreSound rows → AreNumbersOf rows (tag_numbers rows tags)
AreNumbersOf-tag_numbers [] tags sound = tt
AreNumbersOf-tag_numbers (r ∷ rs) tags sound = (within tags, AreNumbersOf-tag_numbers rs tags sound.1)
  where
    by_test : (b : Bool) (value : List ℕ) (rest : ℕ) → rest ≤ length r.firsts + 1
        → cond b (value_number_of r value) rest ≤ length r.firsts + 1
    by_test true value rest below = AreWithin-number (length r.firsts) r.numbers value sound.0
    by_test false value rest below = below

    within : (tags : TagList) → tag_number_of r tags ≤ length r.firsts + 1
    within [] = omega arith
    within (t ∷ ts) = by_test (bytes_eq t.0 r.name) t.1 (tag_number_of r ts) (within ts)
