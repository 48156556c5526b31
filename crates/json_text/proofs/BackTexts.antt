-- Between quotation marks, where a move leads to what may follow, what may follow begins with the move's symbol.
use Rattle.std.proofs.Common.{arith, ◌≡◌, ℕ, inl, inr, true, List, [], ◌∷◌, ◌++◌, refl, sym, ◌∙◌, ap, subst, append_assoc, Option, Some, None}
use Rattle.json_text.specs.declared.mode.Tail.{Tail}
use Rattle.json_text.specs.declared.mode.Tail.TheVariants as tail_
use Rattle.json_text.specs.declared.mode.Lead.{Lead}
use Rattle.json_text.specs.declared.mode.Lead.TheVariants as lead_
use Rattle.json_text.specs.declared.mode.Escape.{Escape}
use Rattle.json_text.specs.declared.mode.Escape.TheVariants as escape_
use Rattle.json_text.specs.declared.mode.Role.{Role}
use Rattle.json_text.specs.declared.mode.Role.TheVariants as role_
use Rattle.json_text.specs.declared.mode.Place.{Place}
use Rattle.json_text.specs.declared.mode.Place.TheVariants as place_
use Rattle.json_text.specs.Marks.{Byte, Mark, Seen, Given, see}
use Rattle.json_text.specs.Bytes.{is_hex, AreIn, ranges_of, lead_of, escape_of}
use Rattle.json_text.specs.Chars.{Plain, Short, Coded, Follow, print_chars, lone, content_of, unit_of, unit_bytes, waits, text_step, close_text}
use Rattle.json_text.specs.Rest.{Kept, holding, Behind, InText, InEscape, InBytes, RestOfText, Rest}
use Rattle.json_text.specs.Machine.{with_byte, fits_tail, tail_after, mode_behind, tail_move, lead_move, escape_move, text_move}
use Rattle.std.proofs.lemmas.Bool.Decides.{nat_tests}
use Rattle.json_text.proofs.ForthTexts.{moved, moved_byte, OnTail}
use Rattle.json_text.proofs.Goes.{Goes, sides, out_reads, out_gives, out_stuck}
use Rattle.json_text.proofs.BackValues.{cons}

-- the quotation mark is one byte
quote_is : (b : ℕ) → lead_of b ≡ lead_.Quote → b ≡ 34
quote_is b e = grind (arith, nat_tests)

-- so is the backslash
backslash_is : (b : ℕ) → lead_of b ≡ lead_.Backslash → b ≡ 92
backslash_is b e = grind (arith, nat_tests)

-- so is the letter u behind it
coded_is : (b : ℕ) → escape_of b ≡ escape_.Coded → b ≡ 117
coded_is b e = grind (arith, nat_tests)

-- behind a text
behind_is : (role : Role) (kept : Kept) (rest : List Mark) → Rest (mode_behind role) kept rest → Behind role kept.room kept.opens rest
behind_is role_.Name kept rest k = k
behind_is role_.Value kept rest k = k

-- where a character may begin
lead_back : (role : Role) (w : Option ℕ) (lead : Lead) (kept : Kept) (b : ℕ) (marks : List Mark)
    → lead_of b ≡ lead → Goes (lead_move role w lead kept b) marks → InText role kept w (Seen (Byte b) ∷ marks)
lead_back role w lead_.Quote kept b marks e g = quote_at (out_gives g)
  where
    quote_at : (rest : List Mark) × (marks ≡ Given (text_step role (kept.content ++ lone w)) ∷ rest) ×
        Rest (mode_behind role) (holding kept []) rest → InText role kept w (Seen (Byte b) ∷ marks)
    quote_at (rest, p, k) = ([], rest, tt, cons (quote_is b e) p, behind_is role (holding kept []) rest k)
lead_back role w lead_.Backslash kept b marks e g = escape_at (out_reads g)
  where
    is_backslash : b ≡ 92
    is_backslash = backslash_is b e

    escape_at : InEscape role kept w marks → InText role kept w (Seen (Byte b) ∷ marks)
    escape_at (inl (y, letter, (chars, rest, c, h, p, k))) = (Short y letter ∷ chars, rest, (c, h), cons is_backslash p, k)
    escape_at (inr (x, y, z, v, (chars, rest, c, h, p, k))) = (Coded x y z v ∷ chars, rest, (c, h), cons is_backslash p, k)
lead_back role w lead_.Whole kept b marks e g = whole_at (out_reads g)
  where
    whole_at : InText role (with_byte kept w b) None marks → InText role kept w (Seen (Byte b) ∷ marks)
    whole_at (chars, rest, h, p, k) = (
      Plain (b ∷ []) ∷ chars,
      rest,
      (subst (λ l. Follow l []) (sym e) refl, h),
      ap (λ m. Seen (Byte b) ∷ m) (p ∙ sym (moved_byte role kept.content (lone w) b [] (content_of None chars) chars rest)),
      k,
    )
lead_back role w (lead_.Longer tail) kept b marks e g = longer_at (out_reads g)
  where
    longer_at : InBytes role (with_byte kept w b) tail marks → InText role kept w (Seen (Byte b) ∷ marks)
    longer_at (bytes, chars, rest, f, h, p, k) = (
      Plain (b ∷ bytes) ∷ chars,
      rest,
      (subst (λ l. Follow l bytes) (sym e) f, h),
      ap (λ m. Seen (Byte b) ∷ m) (p ∙ sym (moved_byte role kept.content (lone w) b bytes (bytes ++ content_of None chars) chars rest)),
      k,
    )
lead_back role w lead_.Nothing kept b marks e g = absurd (out_stuck g)

-- behind a backslash
escape_back : (role : Role) (w : Option ℕ) (escape : Escape) (kept : Kept) (b : ℕ) (marks : List Mark)
    → escape_of b ≡ escape → Goes (escape_move role w escape kept) marks → InEscape role kept w (Seen (Byte b) ∷ marks)
escape_back role w (escape_.Short y) kept b marks e g = short_at (out_reads g)
  where
    short_at : InText role (with_byte kept w y) None marks → InEscape role kept w (Seen (Byte b) ∷ marks)
    short_at (chars, rest, h, p, k) =
        inl (
          y,
          b,
          (
            chars,
            rest,
            e,
            h,
            ap (λ m. Seen (Byte b) ∷ m) (p
                ∙ sym (moved_byte role kept.content (lone w) y [] (content_of None chars) chars rest)),
            k,
          ),
        )
escape_back role w escape_.Coded kept b marks e g = coded_at (out_reads g)
  where
    coded_at : RestOfText role (place_.Hex1 w) kept marks → InEscape role kept w (Seen (Byte b) ∷ marks)
    coded_at (x, y, z, v, (chars, rest, d, h, p, k)) =
        inr (x, y, z, v, (chars, rest, (d.0, d.1.0, d.1.1.0, d.1.1.1.0), h, cons (coded_is b e) p, k))
escape_back role w escape_.Nothing kept b marks e g = absurd (out_stuck g)

-- inside a character of several bytes
tail_join : (tail : Tail) (b : ℕ) (more : List ℕ) → fits_tail tail b ≡ true → OnTail (tail_after tail) more →
    AreIn (ranges_of tail) (b ∷ more)
tail_join tail_.One b more f t = (f, subst (λ m. AreIn [] m) (sym t) tt)
tail_join tail_.Two b more f t = (f, t)
tail_join tail_.Three b more f t = (f, t)
tail_join tail_.BehindE0 b more f t = (f, t)
tail_join tail_.BehindEd b more f t = (f, t)
tail_join tail_.BehindF0 b more f t = (f, t)
tail_join tail_.BehindF4 b more f t = (f, t)

-- a byte more of a character
tail_back : (role : Role) (tail : Tail) (next : Option Tail) (kept : Kept) (b : ℕ) (marks : List Mark)
    → fits_tail tail b ≡ true → tail_after tail ≡ next → Goes (tail_move role next (holding kept (kept.content ++ (b ∷ [])))) marks →
    InBytes role kept tail (Seen (Byte b) ∷ marks)
tail_back role tail None kept b marks f e g = none_at (out_reads g)
  where
    none_at : InText role (holding kept (kept.content ++ (b ∷ []))) None marks → InBytes role kept tail (Seen (Byte b) ∷ marks)
    none_at (chars, rest, h, p, k) = (
      b ∷ [],
      chars,
      rest,
      tail_join tail b [] f (subst (λ o. OnTail o []) (sym e) refl),
      h,
      ap (λ m. Seen (Byte b) ∷ m) (p ∙ sym (moved role kept.content (b ∷ []) [] chars None rest)),
      k,
    )
tail_back role tail (Some next) kept b marks f e g = some_at (out_reads g)
  where
    some_at : InBytes role (holding kept (kept.content ++ (b ∷ []))) next marks → InBytes role kept tail (Seen (Byte b) ∷ marks)
    some_at (bytes, chars, rest, t, h, p, k) = (
      b ∷ bytes,
      chars,
      rest,
      tail_join tail b bytes f (subst (λ o. OnTail o bytes) (sym e) t),
      h,
      ap (λ m. Seen (Byte b) ∷ m) (p ∙ ap (λ x. see bytes (print_chars chars (close_text role x rest)))
          (append_assoc kept.content (b ∷ []) (bytes ++ content_of None chars))),
      k,
    )

-- between quotation marks
pub place_back : (role : Role) (place : Place) (kept : Kept) (b : ℕ) (marks : List Mark)
    → Goes (text_move role place kept b) marks → RestOfText role place kept (Seen (Byte b) ∷ marks)
place_back role (place_.Chars w) kept b marks g = lead_back role w (lead_of b) kept b marks refl g
place_back role (place_.Escape w) kept b marks g = escape_back role w (escape_of b) kept b marks refl g
place_back role (place_.Hex1 w) kept b marks g = elim (sides (is_hex b) _ _ marks g) [
  | inl f ↦ hex_at f.0 (out_reads f.1)
  | inr f ↦ absurd (out_stuck f.1)
]
  where
    hex_at : is_hex b ≡ true → RestOfText role (place_.Hex2 w b) kept marks → RestOfText role (place_.Hex1 w) kept (Seen (Byte b) ∷ marks)
    hex_at e (y, z, v, (chars, rest, d, h, p, k)) = (b, y, z, v, (chars, rest, (e, d), h, ap (λ m. Seen (Byte b) ∷ m) p, k))
place_back role (place_.Hex2 w x) kept b marks g = elim (sides (is_hex b) _ _ marks g) [
  | inl f ↦ hex_at f.0 (out_reads f.1)
  | inr f ↦ absurd (out_stuck f.1)
]
  where
    hex_at : is_hex b ≡ true → RestOfText role (place_.Hex3 w x b) kept marks →
        RestOfText role (place_.Hex2 w x) kept (Seen (Byte b) ∷ marks)
    hex_at e (z, v, (chars, rest, d, h, p, k)) = (b, z, v, (chars, rest, (e, d), h, ap (λ m. Seen (Byte b) ∷ m) p, k))
place_back role (place_.Hex3 w x y) kept b marks g = elim (sides (is_hex b) _ _ marks g) [
  | inl f ↦ hex_at f.0 (out_reads f.1)
  | inr f ↦ absurd (out_stuck f.1)
]
  where
    hex_at : is_hex b ≡ true → RestOfText role (place_.Hex4 w x y b) kept marks →
        RestOfText role (place_.Hex3 w x y) kept (Seen (Byte b) ∷ marks)
    hex_at e (v, (chars, rest, d, h, p, k)) = (b, v, (chars, rest, (e, d), h, ap (λ m. Seen (Byte b) ∷ m) p, k))
place_back role (place_.Hex4 w x y z) kept b marks g = elim (sides (is_hex b) _ _ marks g) [
  | inl f ↦ hex_at f.0 (out_reads f.1)
  | inr f ↦ absurd (out_stuck f.1)
]
  where
    hex_at : is_hex b ≡ true → InText role (holding kept (kept.content ++ unit_bytes w (unit_of x y z b))) (waits (unit_of x y z b)) marks →
        RestOfText role (place_.Hex4 w x y z) kept (Seen (Byte b) ∷ marks)
    hex_at e (chars, rest, h, p, k) = (
      b,
      (
        chars,
        rest,
        (e, tt),
        h,
        ap (λ m. Seen (Byte b) ∷ m) (p
            ∙ sym (moved role kept.content (unit_bytes w (unit_of x y z b)) [] chars (waits (unit_of x y z b)) rest)),
        k,
      ),
    )
place_back role (place_.Tail tail) kept b marks g = elim (sides (fits_tail tail b) _ _ marks g) [
  | inl f ↦ tail_back role tail (tail_after tail) kept b marks f.0 refl f.1
  | inr f ↦ absurd (out_stuck f.1)
]
