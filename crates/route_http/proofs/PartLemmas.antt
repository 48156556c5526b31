-- Parts that are read one after the other.
use Rattle.std.proofs.Common.{◌≡◌, ℕ, suc, ◌+◌, ◌<◌, Bool, true, false, not, cond, ◌==◌, List, [], ◌∷◌, length, take, drop, Option, Result, Ok, Err, refl, sym, ap, ◌∙◌, arith, ◌⊎◌, inl, inr}
use Rattle.std.specs.List.{prefix_len, onto_first}
use Rattle.item_list.specs.Answer.{and_then}
use Rattle.route_http.specs.declared.error.RequestError.{RequestError}
use Rattle.route_http.specs.declared.error.RequestError.TheVariants.{NoMemory}
use Rattle.route_http.specs.declared.key.Key.{Key}
use Rattle.route_http.specs.Marks.{is_in_part, parts_after}
use Rattle.route_http.specs.List.{parts_of, one_more, items_of}

-- the first part, and those after it
parts_of-first : (mark : ℕ) (text : List ℕ)
    → parts_of mark text ≡ take (prefix_len (is_in_part mark) text) text ∷ parts_after mark (drop (prefix_len (is_in_part mark) text) text)
parts_of-first mark [] = refl
parts_of-first mark (c ∷ cs) = by_test (c == mark) refl (parts_of-first mark cs)
  where
    by_test : (b : Bool) → (c == mark) ≡ b
        → parts_of mark cs ≡ take (prefix_len (is_in_part mark) cs) cs ∷ parts_after mark (drop (prefix_len (is_in_part mark) cs) cs)
        → parts_of mark (c ∷ cs) ≡ take (prefix_len (is_in_part mark) (c ∷ cs)) (c ∷ cs) ∷ parts_after mark (drop (prefix_len (is_in_part mark) (c ∷ cs)) (c ∷ cs))
    by_test true end rest =
        let none : prefix_len (is_in_part mark) (c ∷ cs) ≡ 0 = ap (λ b. cond (not b) (1 + prefix_len (is_in_part mark) cs) 0) end in
        ap (λ b. cond b ([] ∷ parts_of mark cs) (onto_first c (parts_of mark cs))) end
        ∙ ap (λ n. take n (c ∷ cs) ∷ parts_after mark (drop n (c ∷ cs))) (sym none)
    by_test false more rest =
        let n : ℕ = prefix_len (is_in_part mark) cs in
        let longer : prefix_len (is_in_part mark) (c ∷ cs) ≡ suc n = ap (λ b. cond (not b) (1 + n) 0) more ∙ omega arith in
        ap (λ b. cond b ([] ∷ parts_of mark cs) (onto_first c (parts_of mark cs))) more
        ∙ ap (onto_first c) rest
        ∙ ap (λ n. take n (c ∷ cs) ∷ parts_after mark (drop n (c ∷ cs))) (sym longer)

-- a text that is split where its first part ends
pub parts_of-split : (mark : ℕ) (text : List ℕ) (n : ℕ) (part after : List ℕ) → n ≡ prefix_len (is_in_part mark) text → part ≡ take n text
    → after ≡ drop n text → parts_of mark text ≡ part ∷ parts_after mark after
parts_of-split mark text n part after n_is part_is after_is =
    parts_of-first mark text
    ∙ ap (λ n. take n text ∷ parts_after mark (drop n text)) (sym n_is)
    ∙ ap (λ p. p ∷ parts_after mark (drop n text)) (sym part_is)
    ∙ ap (λ a. part ∷ parts_after mark a) (sym after_is)

-- the parts after a mark are those of what follows it
after_mark : {A : Type 0} (read : List ℕ → Option A) (mark : ℕ) (key : Key) (most : ℕ) (items : List A) (after : List ℕ) → 0 < length after
    → items_of read key most items (parts_of mark (drop 1 after)) ≡ items_of read key most items (parts_after mark after)
after_mark read mark key most items [] some = absurd (omega arith)
after_mark read mark key most items (c ∷ cs) some = refl

-- without a mark there is no further item
no_mark : {A : Type 0} (read : List ℕ → Option A) (mark : ℕ) (key : Key) (most : ℕ) (items : List A) (after : List ℕ) → length after ≡ 0
    → items_of read key most items (parts_after mark after) ≡ Ok items
no_mark read mark key most items [] none = refl
no_mark read mark key most items (c ∷ cs) none = absurd (omega arith)

-- a text that begins with this part, whose items come after these
module _ {A : Type 0} (read : List ℕ → Option A) (mark : ℕ) (key : Key) (most : ℕ) (whole : Result (List A) RequestError) (items : List A)
    (rest part after : List ℕ) (holds : items_of read key most items (parts_of mark rest) ≡ whole) (first :
    parts_of mark rest ≡ part ∷ parts_after mark after) where
  -- what the whole text comes to is what its first part leaves to the parts after it
  part_first : and_then (one_more key most items (read part)) (λ now. items_of read key most now (parts_after mark after)) ≡ whole
  part_first = sym (ap (λ ps. items_of read key most items ps) first) ∙ holds

  -- what a refused part answers is answered of the whole text
  pub Fills-refused : (e : RequestError) → (e ≡ NoMemory) ⊎ (one_more key most items (read part) ≡ Err e)
      → (e ≡ NoMemory) ⊎ (whole ≡ Err e)
  Fills-refused e (inl memory) = inl memory
  Fills-refused e (inr refused) =
      inr (sym part_first ∙ ap (λ r. and_then r (λ now. items_of read key most now (parts_after mark after))) refused)

  -- a part that is taken leaves the parts after it
  Fills-taken : (next : List A) → one_more key most items (read part) ≡ Ok next → items_of read key most next (parts_after mark after) ≡ whole
  Fills-taken next ok = sym (ap (λ r. and_then r (λ now. items_of read key most now (parts_after mark after))) ok) ∙ part_first

  -- where nothing follows, all is read
  pub Fills-last : (next : List A) → one_more key most items (read part) ≡ Ok next → length after ≡ 0 → whole ≡ Ok next
  Fills-last next ok none = sym (Fills-taken next ok) ∙ no_mark read mark key most next after none

  -- else reading goes on after the mark
  pub Fills-more : (next : List A) → one_more key most items (read part) ≡ Ok next → 0 < length after
      → items_of read key most next (parts_of mark (drop 1 after)) ≡ whole
  Fills-more next ok some = after_mark read mark key most next after some ∙ Fills-taken next ok
