-- The sign of a height's text.
use Rattle.std.proofs.Common.{◌≡◌, ℕ, ◌∷◌, ℤ, pos, negsuc, int_lt, unsigned_abs, true, false, refl, ap, ◌∙◌, arith}
use Rattle.std.proofs.lemmas.Int.{ints}
use Rattle.std.specs.Int.{int_div_euclid}
use Rattle.geo_int.specs.Texts.{height_text, signed_hundredths_text, hundredths_text}

-- a number below 0 has a minus before its magnitude
negative_hundredths : (q : ℤ) → int_lt q (pos 0) ≡ true → 45 ∷ hundredths_text (unsigned_abs q) ≡ signed_hundredths_text q
unfolding signed_hundredths_text
negative_hundredths (pos n) h = absurd (omega (arith, ints))
negative_hundredths (negsuc n) h = refl

-- any other is its magnitude
other_hundredths : (q : ℤ) → int_lt q (pos 0) ≡ false → hundredths_text (unsigned_abs q) ≡ signed_hundredths_text q
unfolding signed_hundredths_text
other_hundredths (pos n) h = refl
other_hundredths (negsuc n) h = absurd (omega (arith, ints))

-- the text of a height whose hundredths are below 0
pub height_text-negative : (z q : ℤ) (n : ℕ) → q ≡ int_div_euclid z (pos 10000) → n ≡ unsigned_abs q → int_lt q (pos 0) ≡ true →
    45 ∷ hundredths_text n ≡ height_text z
unfolding height_text
height_text-negative z q n e f h = ap (λ k. 45 ∷ hundredths_text k) f ∙ negative_hundredths q h ∙ ap signed_hundredths_text e

-- the text of any other height
pub height_text-other : (z q : ℤ) (n : ℕ) → q ≡ int_div_euclid z (pos 10000) → n ≡ unsigned_abs q → int_lt q (pos 0) ≡ false →
    hundredths_text n ≡ height_text z
unfolding height_text
height_text-other z q n e f h = ap hundredths_text f ∙ other_hundredths q h ∙ ap signed_hundredths_text e
