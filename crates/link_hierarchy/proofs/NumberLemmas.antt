-- Numbers that are set and put back.
use Rattle.std.proofs.Common.{◌≡◌, ◌≢◌, ℕ, ◌+◌, ◌<◌, ◌≤◌, inl, inr, List, [], ◌∷◌, ◌++◌, length, get_or, set, replicate, sym, ap, ◌∙◌, subst, arith}
use Rattle.std.proofs.lemmas.Bool.{cases_eq, cases_lt}
use Rattle.std.proofs.lemmas.List.{ext_get_or, get_or-replicate, get_or-set_same, get_or-set_other, get_or_append_left, get_or_push, length-replicate, length-set, length_push}
use Rattle.link_hierarchy.specs.Numbers.{AreFirst, AreTouched, IsLeft}
use Rattle.link_hierarchy.specs.Walks.{Holds}
use Rattle.link_hierarchy.proofs.MergeLemmas.{holds-last, holds-push}

-- nothing was set
pub touched-none : (rest count : ℕ) (numbers : List ℕ) → numbers ≡ replicate count rest → AreTouched rest numbers []
touched-none rest count numbers is = record {
  within = λ k below. absurd (omega (arith, below));
  all = λ x inside other.
      let long : x < count = omega (arith, inside, ap length is, length-replicate count rest) in
      absurd (other (ap (λ (l : List ℕ). get_or l x rest) is ∙ get_or-replicate count x rest rest long));
}

module _ (rest : ℕ) (numbers touched : List ℕ) (are : AreTouched rest numbers touched) (place number : ℕ) (inside : place < length numbers) where
  -- something is set where nothing was
  pub touched-first : AreTouched rest (set numbers place number) (touched ++ place ∷ [])
  touched-first =
      let long = length-set numbers place number in
      let more = length_push touched place in
      record {
        within = λ k below.
            elim (cases_lt k (length touched)) [
              | inl old ↦ omega (arith, long, get_or_append_left touched (place ∷ []) 0 k old, are.within k old)
              | inr last ↦ omega (arith, long, get_or_push touched place 0 k (omega (arith, more, below, last)), inside)
            ];
        all = λ x x_in other.
            elim (cases_eq x place) [
              | inl same ↦ subst (λ n. Holds (touched ++ place ∷ []) n) (sym same) (holds-last touched place)
              | inr apart ↦
                  holds-push touched place x
                  (are.all x (omega (arith, long, x_in)) (λ e. other (get_or-set_other numbers place x number rest apart ∙ e)))
            ];
      }

  -- or where something was
  pub touched-again : get_or numbers place rest ≢ rest → AreTouched rest (set numbers place number) touched
  touched-again was =
      let long = length-set numbers place number in
      record {
        within = λ k below. omega (arith, long, are.within k below);
        all = λ x x_in other.
            elim (cases_eq x place) [
              | inl same ↦ subst (λ n. Holds touched n) (sym same) (are.all place inside was)
              | inr apart ↦ are.all x (omega (arith, long, x_in)) (λ e. other (get_or-set_other numbers place x number rest apart ∙ e))
            ];
      }

module _ (rest count : ℕ) (touched : List ℕ) where
  -- none is put back yet
  pub left-begins : (numbers : List ℕ) → length numbers ≡ count → AreTouched rest numbers touched → IsLeft rest count touched 0 numbers
  left-begins numbers counted are = record {
    counted = counted;
    all = λ x inside other.
        let h = are.all x (omega (arith, counted, inside)) other in
        record { place = h.place; least = omega arith; within = h.within; is = h.is };
  }

  -- one more is
  pub left-less : (from x : ℕ) (numbers : List ℕ) → x ≡ get_or touched from 0 → x < count → IsLeft rest count touched from numbers →
      IsLeft rest count touched (from + 1) (set numbers x rest)
  left-less from x numbers x_is x_in left = record {
    counted = length-set numbers x rest ∙ left.counted;
    all = λ y inside other.
        elim (cases_eq y x) [
          | inl same ↦
              absurd (other (ap (λ n. get_or (set numbers x rest) n rest) same
              ∙ get_or-set_same numbers x rest rest (omega (arith, x_in, left.counted))))
          | inr apart ↦
              let h = left.all y inside (λ e. other (get_or-set_other numbers x y rest rest apart ∙ e)) in
              elim (cases_eq h.place from) [
                | inl same ↦ absurd (apart (sym h.is ∙ ap (λ n. get_or touched n 0) same ∙ sym x_is))
                | inr later ↦ record { place = h.place; least = omega (arith, later, h.least); within = h.within; is = h.is }
              ]
        ];
  }

  -- all are
  pub left-none : (from : ℕ) (numbers : List ℕ) → length touched ≤ from → IsLeft rest count touched from numbers →
      numbers ≡ replicate count rest
  left-none from numbers all left =
      ext_get_or rest numbers (replicate count rest) (left.counted ∙ sym (length-replicate count rest))
      (λ x inside.
      let x_in : x < count = omega (arith, inside, left.counted) in
      elim (cases_eq (get_or numbers x rest) rest) [
        | inl same ↦ same ∙ sym (get_or-replicate count x rest rest x_in)
        | inr other ↦ let h = left.all x x_in other in absurd (omega (arith, h.least, h.within, all))
      ])

module _ (number count : ℕ) where
  -- one more is this number
  pub first-more : (place : ℕ) (numbers : List ℕ) → place < count → AreFirst number count place numbers →
      AreFirst number count (place + 1) (set numbers place number)
  first-more place numbers place_in are = record {
    counted = length-set numbers place number ∙ are.counted;
    done = λ x below inside.
        elim (cases_eq x place) [
          | inl same ↦
              ap (λ n. get_or (set numbers place number) n number) same
              ∙ get_or-set_same numbers place number number (omega (arith, place_in, are.counted))
          | inr other ↦
              get_or-set_other numbers place x number number other ∙ are.done x (omega (arith, other, below)) inside
        ];
  }

  -- all are
  pub first-all : (place : ℕ) (numbers : List ℕ) → count ≤ place → AreFirst number count place numbers → numbers ≡ replicate count number
  first-all place numbers all are =
      ext_get_or number numbers (replicate count number) (are.counted ∙ sym (length-replicate count number))
      (λ x inside.
      let x_in : x < count = omega (arith, inside, are.counted) in
      are.done x (omega (arith, x_in, all)) x_in ∙ sym (get_or-replicate count x number number x_in))
