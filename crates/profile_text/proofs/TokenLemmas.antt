-- The first token of a text, joined to how the code finds it.
use Rattle.std.proofs.Common.{◌≡◌, ℕ, suc, ◌+◌, ◌<◌, ◌≤◌, Bool, true, false, nat_eq, cond, ◌&&◌, List, [], ◌∷◌, length, take, drop, refl, sym, ◌∙◌, ap, arith}
use Rattle.std.specs.List.{prefix_len}
use Rattle.item_list.proofs.ListLemmas.{front_more, some_from_test}
use Rattle.profile_text.specs.Source.{BeginsInked, token_len}
use Rattle.profile_text.specs.Token.{Token, is_ink, is_word_byte, is_joined, prepend, comment_after, line_after, tokens_from}

-- a byte that belongs to no token is passed
pub passed : (comment : Bool) (line c : ℕ) (cs : List ℕ) → is_ink comment c ≡ false
    → tokens_from comment line (c ∷ cs) ≡ tokens_from (comment_after comment c) (line_after line c) cs
passed comment line c cs h = rw h refl

-- a byte of a token stands outside comments
pub ink_is_outside : (comment : Bool) (c : ℕ) → is_ink comment c ≡ true → comment ≡ false
ink_is_outside true c h = cc
ink_is_outside false c h = refl

-- a byte of a word is a byte of a token
pub word_is_ink : (c : ℕ) → is_word_byte c ≡ true → is_ink false c ≡ true
word_is_ink c h = grind (arith, h)

-- a token that is no word is one byte
pub one_byte : (line c : ℕ) (cs : List ℕ) → is_ink false c ≡ true → is_joined c cs ≡ false
    → tokens_from false line (c ∷ cs) ≡ record { line = line; text = c ∷ [] } ∷ tokens_from false line cs
one_byte line c cs h j = rw (h, j) refl

-- a byte that goes on stands at the front of the first token
pub joined_byte : (line c : ℕ) (cs : List ℕ) → is_ink false c ≡ true → is_joined c cs ≡ true
    → tokens_from false line (c ∷ cs) ≡ prepend c (tokens_from false line cs)
joined_byte line c cs h j = rw (h, j) refl

-- a byte that belongs to no word isn't joined
unjoined : (c : ℕ) (cs : List ℕ) → is_word_byte c ≡ false → is_joined c cs ≡ false
unjoined c [] h = refl
unjoined c (d ∷ ds) h = ap (λ v. v && is_word_byte d) h

-- a word of one byte more
word_more : (c : ℕ) (cs : List ℕ) → is_word_byte c ≡ true → prefix_len is_word_byte (c ∷ cs) ≡ 1 + prefix_len is_word_byte cs
word_more c cs h = ap (λ v. cond v (1 + prefix_len is_word_byte cs) 0) h

-- no word begins with another byte
word_none : (c : ℕ) (cs : List ℕ) → is_word_byte c ≡ false → prefix_len is_word_byte (c ∷ cs) ≡ 0
word_none c cs h = ap (λ v. cond v (1 + prefix_len is_word_byte cs) 0) h

-- a token of a line
abbrev pub token_is : ℕ → List ℕ → Token
token_is line text = record { line = line; text = text }

-- the tokens of a text whose first has so many bytes
abbrev pub first_is : ℕ → List ℕ → ℕ → List Token
first_is line text n = record { line = line; text = take n text } ∷ tokens_from false line (drop n text)

-- a word is a token: the bytes of words at the front
pub word_first : (line c : ℕ) (cs : List ℕ) → is_word_byte c ≡ true
    → tokens_from false line (c ∷ cs) ≡ first_is line (c ∷ cs) (prefix_len is_word_byte (c ∷ cs))
word_first line c [] h = one_byte line c [] (word_is_ink c h) refl ∙ ap (first_is line (c ∷ [])) (sym (word_more c [] h))
word_first line c (d ∷ ds) h = by_test (is_word_byte d) refl (word_first line d ds)
  where
    by_test : (v : Bool) → is_word_byte d ≡ v
        → (is_word_byte d ≡ true → tokens_from false line (d ∷ ds) ≡ first_is line (d ∷ ds) (prefix_len is_word_byte (d ∷ ds)))
        → tokens_from false line (c ∷ d ∷ ds) ≡ first_is line (c ∷ d ∷ ds) (prefix_len is_word_byte (c ∷ d ∷ ds))
    by_test true g rest =
        let n : ℕ = prefix_len is_word_byte (d ∷ ds) in
        let more = front_more n c (d ∷ ds) in
        joined_byte line c (d ∷ ds) (word_is_ink c h) (ap (λ v. v && is_word_byte d) h ∙ g)
        ∙ ap (prepend c) (rest g)
        ∙ ap (λ w. record { line = line; text = w } ∷ tokens_from false line (drop n (d ∷ ds))) (sym more.0)
        ∙ ap (λ w. record { line = line; text = take (1 + n) (c ∷ d ∷ ds) } ∷ tokens_from false line w) (sym more.1)
        ∙ ap (first_is line (c ∷ d ∷ ds)) (sym (word_more c (d ∷ ds) h))
    by_test false g rest =
        one_byte line c (d ∷ ds) (word_is_ink c h) (ap (λ v. v && is_word_byte d) h ∙ g)
        ∙ ap (first_is line (c ∷ d ∷ ds)) (sym (word_more c (d ∷ ds) h ∙ ap (λ n. 1 + n) (word_none d ds g)))

-- the token in front of a text that begins with one
pub token_first : (line : ℕ) (text : List ℕ) → BeginsInked text → 0 < length text
    → tokens_from false line text ≡ first_is line text (token_len text)
token_first line [] ink some = let none : ⊥ = omega (arith, some) in absurd none
token_first line (c ∷ cs) ink some = by_test (is_word_byte c) refl
  where
    by_test : (v : Bool) → is_word_byte c ≡ v → tokens_from false line (c ∷ cs) ≡ first_is line (c ∷ cs) (token_len (c ∷ cs))
    by_test true h =
        word_first line c cs h ∙ ap (λ v. first_is line (c ∷ cs) (cond v (prefix_len is_word_byte (c ∷ cs)) 1)) (sym h)
    by_test false h =
        one_byte line c cs ink (unjoined c cs h) ∙ ap (λ v. first_is line (c ∷ cs) (cond v (prefix_len is_word_byte (c ∷ cs)) 1)) (sym h)

-- the first token of a text that begins with one, and the tokens after it
pub first_of_front : (line : ℕ) (front bytes after : List ℕ) (n : ℕ) → BeginsInked front → false ≡ nat_eq (length front) 0
    → n ≡ token_len front → bytes ≡ take n front → after ≡ drop n front
    → tokens_from false line front ≡ token_is line bytes ∷ tokens_from false line after
first_of_front line front bytes after n ink some n_is bytes_is after_is =
    token_first line front ink (some_from_test front some)
    ∙ ap (first_is line front) (sym n_is)
    ∙ ap (λ w. token_is line w ∷ tokens_from false line (drop n front)) (sym bytes_is)
    ∙ ap (λ w. token_is line bytes ∷ tokens_from false line w) (sym after_is)

-- one more byte in front adds no token
prepend_len : (c : ℕ) (ts : List Token) → length (prepend c ts) ≤ length ts
prepend_len c [] = omega arith
prepend_len c (t ∷ ts) = omega arith

-- a text has at most as many tokens as bytes
pub few_tokens : (comment : Bool) (line : ℕ) (text : List ℕ) → length (tokens_from comment line text) ≤ length text
few_tokens comment line [] = omega arith
few_tokens comment line (c ∷ cs) = by_test (λ comment line. few_tokens comment line cs) (is_ink comment c) (is_joined c cs)
  where
    by_test : ((comment : Bool) (line : ℕ) → length (tokens_from comment line cs) ≤ length cs) → (ink joined : Bool)
        → length (cond ink (cond joined (prepend c (tokens_from false line cs))
        (record { line = line; text = c ∷ [] } ∷ tokens_from false line cs)) (tokens_from (comment_after comment c) (line_after line c) cs))
        ≤ suc (length cs)
    by_test few true true = let h = few false line in let i = prepend_len c (tokens_from false line cs) in omega (arith, h, i)
    by_test few true false = let h = few false line in omega (arith, h)
    by_test few false joined = let h = few (comment_after comment c) (line_after line c) in omega (arith, h)
