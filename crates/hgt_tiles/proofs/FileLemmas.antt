-- The samples of a file, read two bytes at a time.
use Rattle.std.proofs.Common.{◌≡◌, ℕ, suc, ◌+◌, ◌*◌, ◌/◌, ◌-◌, ◌<◌, ◌≤◌, ℤ, List, [], ◌∷◌, length, refl, sym, ap, ◌∙◌, arith, ◌++◌, drop, get_or, to_z, w8, w16, Fits, take, drop-cons, append_assoc}
use Rattle.std.proofs.lemmas.Bool.Decides.{nat_tests}
use Rattle.std.proofs.lemmas.Int.{ints}
use Rattle.hgt_tiles.specs.File.{samples_of, sample_of}
use Rattle.item_list.proofs.ListLemmas.{tail}

-- two more are one more half
half : (n : ℕ) → suc (n / 2) ≡ suc (suc n) / 2
half n = omega arith

-- there are half as many samples as bytes
pub length-samples_of : (bytes : List ℕ) → length (samples_of bytes) ≡ length bytes / 2
length-samples_of [] = refl
length-samples_of (high ∷ []) = refl
length-samples_of (high ∷ low ∷ rest) = ap suc (length-samples_of rest) ∙ half (length rest)

-- the byte at a place, and what follows
front : (bytes : List ℕ) (k j : ℕ) → k < length bytes → suc k ≡ j → drop k bytes ≡ get_or bytes k 0 ∷ drop j bytes
front bytes k j inside e = drop-cons bytes k 0 inside ∙ ap (λ n. get_or bytes k 0 ∷ drop n bytes) e

-- two bytes further along a file
pub samples_of-step : (bytes : List ℕ) (k : ℕ) → k + 1 < length bytes →
    samples_of (drop k bytes) ≡ sample_of (get_or bytes k 0) (get_or bytes (k + 1) 0) ∷ samples_of (drop (k + 2) bytes)
samples_of-step bytes k inside =
    let here : k < length bytes = omega arith in
    let first = front bytes k (k + 1) here (omega arith) in
    let second = front bytes (k + 1) (k + 2) inside (omega arith) in
    ap samples_of (first ∙ ap (λ rest. get_or bytes k 0 ∷ rest) second)

-- what byteorder reads of two bytes is the sample
pub read-is : (high low : ℕ) → high < 256 → low < 256 → to_z w16 (high * 256 + low) ≡ sample_of high low
unfolding sample_of
read-is high low h l = grind (arith, nat_tests, ints)

-- one more sample
pub samples_of-next : (bytes : List ℕ) (done more : List ℤ) (sample : ℤ) (i : ℕ) → 2 * i + 1 < length bytes →
    done ++ samples_of (drop (2 * i) bytes) ≡ samples_of bytes → more ≡ done ++ sample ∷ [] →
    sample ≡ sample_of (get_or bytes (2 * i) 0) (get_or bytes (2 * i + 1) 0) →
    more ++ samples_of (drop (2 * (i + 1)) bytes) ≡ samples_of bytes
samples_of-next bytes done more sample i inside is next read =
    let rest = samples_of (drop (2 * (i + 1)) bytes) in
    let step : samples_of (drop (2 * i) bytes) ≡ sample ∷ rest =
    samples_of-step bytes (2 * i) inside
    ∙ ap (λ x. x ∷ samples_of (drop (2 * i + 2) bytes)) (sym read)
    ∙ ap (λ k. sample ∷ samples_of (drop k bytes)) (omega arith) in
    ap (λ x. x ++ rest) next ∙ append_assoc done (sample ∷ []) rest ∙ ap (λ x. done ++ x) (sym step) ∙ is

-- what is read at a place is the sample of its two bytes
pub read-at : (bytes : List ℕ) (k : ℕ) → k + 1 < length bytes → ((i : ℕ) → Fits w8 (get_or bytes i 0)) →
    to_z w16 (get_or (take (length bytes - k) (drop k bytes)) 0 0 * 256 + (get_or (take (length bytes - k) (drop k bytes)) 1 0 * 1 + 0))
    ≡ sample_of (get_or bytes k 0) (get_or bytes (k + 1) 0)
read-at bytes k inside fits =
    let here : k < length bytes = omega arith in
    let part : take (length bytes - k) (drop k bytes) ≡ get_or bytes k 0 ∷ get_or bytes (k + 1) 0 ∷ drop (k + 2) bytes =
    tail bytes k ∙ front bytes k (k + 1) here (omega arith)
    ∙ ap (λ rest. get_or bytes k 0 ∷ rest) (front bytes (k + 1) (k + 2) inside (omega arith)) in
    let high = (fits k).fits in
    let low = (fits (k + 1)).fits in
    ap (λ p. to_z w16 (get_or p 0 0 * 256 + (get_or p 1 0 * 1 + 0))) part
    ∙ ap (to_z w16) (omega arith)
    ∙ read-is (get_or bytes k 0) (get_or bytes (k + 1) 0) (omega arith) (omega arith)

-- a single byte, or none, holds no sample
pub samples_of-short : (bytes : List ℕ) → length bytes ≤ 1 → samples_of bytes ≡ []
samples_of-short [] h = refl
samples_of-short (high ∷ []) h = refl
samples_of-short (high ∷ low ∷ rest) h = absurd (omega arith)
