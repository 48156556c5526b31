-- Facts on names that are compared with a word.
use Rattle.std.proofs.Common.{◌≡◌, ℕ, ◌<◌, Option, Some, true, false, nat_eq, List, length, get_or, sym, ap, ◌∙◌}
use Rattle.std.proofs.lemmas.Option.{slice_get-get_or}
use Rattle.std.specs.Borrow.{Bor}
use Rattle.std.specs.Cmp.Lexicographic.{same_text, bytes_decides}
use Rattle.case_inputs.specs.Words.{bytes_of, name_at}
use lib.Pointwise.{pointwise}

module _ (names : List (Bor (List ℕ))) (place : ℕ) (none : Bor (List ℕ)) (within : place < length names)
    (bytes : List ℕ) (read : bytes ≡ (get_or names place none).now) where
  -- the bytes that were read are those of the name at the place
  name-read : name_at names place ≡ Some bytes
  name-read =
      ap (λ (name : Option (Bor (List ℕ))). bytes_of name) (slice_get-get_or names place none within)
      ∙ ap (λ (text : List ℕ). Some text) (sym read)

  -- a name that is found the same as the word is the word
  pub name-found : (word : List ℕ) → true ≡ pointwise nat_eq bytes word → name_at names place ≡ Some word
  name-found word same = name-read ∙ ap (λ (text : List ℕ). Some text) (same_text bytes word same)

  -- one that is found another isn't
  pub name-other : (word : List ℕ) → false ≡ pointwise nat_eq bytes word → name_at names place ≡ Some word → ⊥
  name-other word other is =
      let both : Some bytes ≡ Some word = sym name-read ∙ is in
      let same : bytes ≡ word = cc in
      let told : pointwise nat_eq bytes word ≡ true = (bytes_decides bytes word).1 same in
      cc
