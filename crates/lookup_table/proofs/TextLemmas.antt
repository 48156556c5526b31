-- Items that are written one after the other.
use Rattle.std.proofs.Common.{◌≡◌, ◌≢◌, ℕ, suc, ◌+◌, ◌<◌, ◌≤◌, Bool, true, false, cond, List, [], ◌∷◌, ◌++◌, length, get_or, drop, map, nat_eq, refl, sym, ap, ◌∙◌, subst, arith, append_assoc, append-nil}
use Rattle.std.proofs.lemmas.Bool.Decides.{nat_tests}
use Rattle.std.proofs.lemmas.List.{drop_more, length-drop}
use Rattle.std.specs.List.{join_with_byte}
use Rattle.lookup_table.specs.Noted.{parted}
use Rattle.lookup_table.specs.Numbers.{value_text, printed_tags, item_text, tag_text, AreNumbersOf}
use Rattle.lookup_table.specs.Tag.{TagRow, empty_tag}

-- items, the first after a space unless it is the first of all
abbrev pub glued : Bool → List (List ℕ) → List ℕ
glued first [] = []
glued first (x ∷ xs) = parted first x ++ glued false xs

-- items that are parted by a space, written one after the other
join_is_glued : (xs : List (List ℕ)) → join_with_byte 32 xs ≡ glued true xs
join_is_glued [] = refl
join_is_glued (x ∷ []) = sym (append-nil x)
join_is_glued (x ∷ y ∷ ys) = ap (λ t. x ++ (32 ∷ t)) (join_is_glued (y ∷ ys))

-- what is left to write after what is written makes the text; what is left is of the part
pub record PrintsOn (rows : List TagRow) (numbers : List ℕ) (out : List ℕ) (first : Bool) (place : ℕ) : Type 0 where
  pub fits : AreNumbersOf (drop place rows) (drop place numbers)
  pub text : out ++ glued first (map item_text (printed_tags (drop place rows) (drop place numbers))) ≡ tag_text rows numbers

-- nothing is written yet
pub PrintsOn-start : (rows : List TagRow) (numbers : List ℕ) → AreNumbersOf rows numbers → PrintsOn rows numbers [] true 0
PrintsOn-start rows numbers fits = record { fits = fits; text = sym (join_is_glued (map item_text (printed_tags rows numbers))) }

-- nothing is left
pub PrintsOn-end : (rows : List TagRow) (numbers out : List ℕ) (first : Bool) (place : ℕ) → PrintsOn rows numbers out first place
    → length numbers ≤ place → out ≡ tag_text rows numbers
PrintsOn-end rows numbers out first place on over =
    sym (append-nil out) ∙ ap (λ t. out ++ t)
    (sym (nothing_left (drop place rows) (drop place numbers) (omega (arith, length-drop place numbers)))) ∙ on.text
  where
    nothing_left : (rs : List TagRow) (ns : List ℕ) → length ns ≤ 0 → glued first (map item_text (printed_tags rs ns)) ≡ []
    nothing_left [] ns none = refl
    nothing_left (r ∷ rs) [] none = refl
    nothing_left (r ∷ rs) (n ∷ ns) none = absurd (omega arith)

-- the numbers of a part are as many as its tags
same_length : (rows : List TagRow) (numbers : List ℕ) → AreNumbersOf rows numbers → length rows ≡ length numbers
same_length [] [] fits = refl
same_length [] (n ∷ ns) fits = absurd fits
same_length (r ∷ rs) [] fits = absurd fits
same_length (r ∷ rs) (n ∷ ns) fits = ap suc (same_length rs ns fits.1)

-- a number that is left has a tag, and is within its values
pub record HasTag (rows : List TagRow) (numbers : List ℕ) (place : ℕ) : Type 0 where
  pub within : place < length rows
  pub rows_are : drop place rows ≡ get_or rows place (empty_tag []) ∷ drop (place + 1) rows
  pub numbers_are : drop place numbers ≡ get_or numbers place 0 ∷ drop (place + 1) numbers
  pub fits : get_or numbers place 0 ≤ length (get_or rows place (empty_tag [])).firsts + 1
  pub rest : AreNumbersOf (drop (place + 1) rows) (drop (place + 1) numbers)

-- each place of the numbers has it
pub has_tag : (rows : List TagRow) (numbers out : List ℕ) (first : Bool) (place : ℕ) → PrintsOn rows numbers out first place
    → place < length numbers → HasTag rows numbers place
has_tag rows numbers out first place on more =
    let both : length (drop place rows) ≡ length (drop place numbers) = same_length (drop place rows) (drop place numbers) on.fits in
    let within : place < length rows = omega (arith, both, length-drop place rows, length-drop place numbers) in
    let rows_are : drop place rows ≡ get_or rows place (empty_tag []) ∷ drop (place + 1) rows =
    drop_more rows place (empty_tag []) within in
    let numbers_are : drop place numbers ≡ get_or numbers place 0 ∷ drop (place + 1) numbers = drop_more numbers place 0 more in
    let split : AreNumbersOf (get_or rows place (empty_tag []) ∷ drop (place + 1) rows)
    (get_or numbers place 0 ∷ drop (place + 1) numbers) =
    subst (λ (ns : List ℕ). AreNumbersOf (get_or rows place (empty_tag []) ∷ drop (place + 1) rows) ns) numbers_are
    (subst (λ (rs : List TagRow). AreNumbersOf rs (drop place numbers)) rows_are on.fits) in
    record { within = within; rows_are = rows_are; numbers_are = numbers_are; fits = split.0; rest = split.1 }

-- the tag at a place with the value that its number is written as
abbrev item_at : List TagRow → List ℕ → ℕ → List ℕ × List ℕ
item_at rows numbers place =
    ((get_or rows place (empty_tag [])).name, value_text (get_or rows place (empty_tag [])) (get_or numbers place 0))

-- what is printed of the tags after a place
abbrev printed_later : List TagRow → List ℕ → ℕ → List (List ℕ × List ℕ)
printed_later rows numbers place = printed_tags (drop (place + 1) rows) (drop (place + 1) numbers)

-- what is printed from a place on, by its number
printed_from : (rows : List TagRow) (numbers : List ℕ) (place : ℕ) → HasTag rows numbers place
    → printed_tags (drop place rows) (drop place numbers)
    ≡ cond (nat_eq (get_or numbers place 0) 0) (printed_later rows numbers place)
    (item_at rows numbers place ∷ printed_later rows numbers place)
printed_from rows numbers place has =
    ap (λ rs. printed_tags rs (drop place numbers)) has.rows_are
    ∙ ap (printed_tags (get_or rows place (empty_tag []) ∷ drop (place + 1) rows)) has.numbers_are

-- a number 0 is passed over
pub PrintsOn-zero : (rows : List TagRow) (numbers out : List ℕ) (first : Bool) (place : ℕ) → PrintsOn rows numbers out first place
    → place < length numbers → get_or numbers place 0 ≡ 0 → PrintsOn rows numbers out first (place + 1)
PrintsOn-zero rows numbers out first place on more zero_is =
    let has : HasTag rows numbers place = has_tag rows numbers out first place on more in
    let test : nat_eq (get_or numbers place 0) 0 ≡ true = grind (arith, nat_tests) in
    let rest : List (List ℕ × List ℕ) = printed_later rows numbers place in
    let left : printed_tags (drop place rows) (drop place numbers) ≡ rest =
    printed_from rows numbers place has ∙ ap (λ b. cond b rest (item_at rows numbers place ∷ rest)) test in
    record { fits = has.rest; text = ap (λ ts. out ++ glued first (map item_text ts)) (sym left) ∙ on.text }

-- another is written
pub PrintsOn-item : (rows : List TagRow) (numbers out new : List ℕ) (first : Bool) (place : ℕ) (tag : TagRow)
    → PrintsOn rows numbers out first place → place < length numbers → get_or numbers place 0 ≢ 0 → tag ≡ get_or rows place (empty_tag [])
    → new ≡ out ++ parted first (item_text (tag.name, value_text tag (get_or numbers place 0)))
    → PrintsOn rows numbers new false (place + 1)
PrintsOn-item rows numbers out new first place tag on more some tag_is new_is =
    let has : HasTag rows numbers place = has_tag rows numbers out first place on more in
    let test : nat_eq (get_or numbers place 0) 0 ≡ false = grind (arith, nat_tests) in
    let rest : List (List ℕ × List ℕ) = printed_tags (drop (place + 1) rows) (drop (place + 1) numbers) in
    let item : TagRow → List ℕ × List ℕ = λ t. (t.name, value_text t (get_or numbers place 0)) in
    let left : printed_tags (drop place rows) (drop place numbers) ≡ item tag ∷ rest =
    printed_from rows numbers place has
    ∙ ap (λ b. cond b rest (item (get_or rows place (empty_tag [])) ∷ rest)) test
    ∙ ap (λ t. item t ∷ rest) (sym tag_is) in
    record {
      fits = has.rest;
      text =
          ap (λ o. o ++ glued false (map item_text rest)) new_is
          ∙ append_assoc out (parted first (item_text (item tag))) (glued false (map item_text rest))
          ∙ ap (λ ts. out ++ glued first (map item_text ts)) (sym left)
          ∙ on.text;
    }
