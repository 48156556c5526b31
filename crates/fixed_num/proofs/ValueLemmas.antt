-- What a reader of decimals accepts and refuses, for any measure of their size.
use Rattle.std.proofs.Common.{◌≡◌, ◌≢◌, ◌↔◌, ℕ, zero, suc, ◌<◌, ◌≤◌, Bool, true, false, cond, List, ℤ, unsigned_abs, nat_le, refl, sym, ap, ◌∙◌, arith, Option, Some, None, Result, Ok, Err, IfOk}
use Rattle.std.proofs.lemmas.Bool.Decides.{nat_tests}
use Rattle.fixed_num.specs.Decimal.{Decimal, Spells, IsSpelled, SpellsValue, with_sign, value_from, parts_of}
use Rattle.fixed_num.proofs.GrammarLemmas.{parts_of_sound, parts_of_whole}

-- what a result says of a text: which value it spells, and which of the two refusals it earns
pub record ReadsAs {E : Type 0} (size : Decimal → ℕ) (limit : ℕ) (bad large : E) (text : List ℕ) (r : Result ℤ E) : Type 0 where
  pub found : IfOk r (λ n. SpellsValue size text n × (unsigned_abs n ≤ limit))
  pub only : (n : ℤ) → SpellsValue size text n → unsigned_abs n ≤ limit → r ≡ Ok n
  pub bad_spelling : (r ≡ Err bad) ↔ ¬ IsSpelled text
  pub out_of_range : (r ≡ Err large) ↔ ((n : ℤ) × SpellsValue size text n × (limit < unsigned_abs n))

-- a sign leaves the size
unsigned_abs-with_sign : (negative : Bool) (n : ℕ) → unsigned_abs (with_sign negative n) ≡ n
unsigned_abs-with_sign true zero = refl
unsigned_abs-with_sign true (suc n) = refl
unsigned_abs-with_sign false n = refl

module _ {E : Type 0} (size : Decimal → ℕ) (limit : ℕ) (bad large : E) (apart : bad ≢ large) (text : List ℕ) where
  -- a text has one spelling
  spelled_once : (d : Decimal) → parts_of text ≡ Some d → (e : Decimal) → Spells text e → d ≡ e
  spelled_once d found e spells = let same : parts_of text ≡ Some e = parts_of_whole text e spells in cc

  -- the size of a value is that of the decimal that is found
  size_of : (d : Decimal) → parts_of text ≡ Some d → (n : ℤ) → SpellsValue size text n →
      (n ≡ with_sign d.is_negative (size d)) × (unsigned_abs n ≡ size d)
  size_of d found n (e, spells, n_is) =
      let same : d ≡ e = spelled_once d found e spells in
      let value : n ≡ with_sign d.is_negative (size d) = n_is ∙ ap (λ d. with_sign d.is_negative (size d)) (sym same) in
      (value, ap unsigned_abs value ∙ unsigned_abs-with_sign d.is_negative (size d))

  -- a decimal within the limit has its value
  pub value_within : (d : Decimal) → size d ≤ limit → value_from size limit bad large (Some d) ≡ Ok (with_sign d.is_negative (size d))
  value_within d small =
      let test : nat_le (size d) limit ≡ true = grind (arith, nat_tests) in
      ap (λ v. cond v (Ok (with_sign d.is_negative (size d))) (Err large)) test

  -- a decimal beyond it has none
  pub value_beyond : (d : Decimal) → limit < size d → value_from size limit bad large (Some d) ≡ Err large
  value_beyond d big =
      let test : nat_le (size d) limit ≡ false = grind (arith, nat_tests) in
      ap (λ v. cond v (Ok (with_sign d.is_negative (size d))) (Err large)) test

  reads_none : parts_of text ≡ None → ReadsAs size limit bad large text (Err bad)
  reads_none none = record {
    found = tt;
    only = λ n value small. let whole : parts_of text ≡ Some value.0 = parts_of_whole text value.0 value.1 in cc;
    bad_spelling = (λ _. λ spelled. let whole : parts_of text ≡ Some spelled.0 = parts_of_whole text spelled.0 spelled.1 in cc, λ _. refl);
    out_of_range =
        (λ same. absurd (apart cc), λ value. let whole : parts_of text ≡ Some value.1.0 = parts_of_whole text value.1.0 value.1.1 in cc);
  }

  reads_within : (d : Decimal) → parts_of text ≡ Some d → size d ≤ limit →
      ReadsAs size limit bad large text (Ok (with_sign d.is_negative (size d)))
  reads_within d some small = record {
    found = ((d, parts_of_sound text d some, refl), omega (arith, unsigned_abs-with_sign d.is_negative (size d)));
    only = λ n value fits. ap Ok (sym (size_of d some n value).0);
    bad_spelling = (λ same. cc, λ unspelled. absurd (unspelled (d, parts_of_sound text d some)));
    out_of_range = (λ same. cc, λ value. absurd (omega (arith, (size_of d some value.0 value.1).1, value.2)));
  }

  reads_beyond : (d : Decimal) → parts_of text ≡ Some d → limit < size d → ReadsAs size limit bad large text (Err large)
  reads_beyond d some big = record {
    found = tt;
    only = λ n value fits. absurd (omega (arith, (size_of d some n value).1));
    bad_spelling = (λ same. absurd (apart cc), λ unspelled. absurd (unspelled (d, parts_of_sound text d some)));
    out_of_range = (
      λ _. (
        with_sign d.is_negative (size d),
        (d, parts_of_sound text d some, refl),
        omega (arith, unsigned_abs-with_sign d.is_negative (size d)),
      ),
      λ _. refl,
    );
  }

  -- what is read from the parts of a text says all that
  pub reads_as : ReadsAs size limit bad large text (value_from size limit bad large (parts_of text))
  reads_as = by_parts (parts_of text) refl
    where
      by_test : (d : Decimal) → parts_of text ≡ Some d → (v : Bool) → nat_le (size d) limit ≡ v →
          ReadsAs size limit bad large text (cond v (Ok (with_sign d.is_negative (size d))) (Err large))
      by_test d some true test = reads_within d some (grind (arith, nat_tests))
      by_test d some false test = reads_beyond d some (grind (arith, nat_tests))

      by_parts : (o : Option Decimal) → parts_of text ≡ o → ReadsAs size limit bad large text (value_from size limit bad large o)
      by_parts None none = reads_none none
      by_parts (Some d) some = by_test d some (nat_le (size d) limit) refl
