-- Orders whose links change places, and the one by number.
use Rattle.std.proofs.Common.{◌≡◌, ◌≢◌, ℕ, ◌<◌, ◌^◌, inl, inr, List, length, get_or, set, sym, ap, ◌∙◌, subst, arith}
use Rattle.std.proofs.lemmas.Bool.{cases_eq}
use Rattle.std.proofs.lemmas.List.{get_or-set_same, get_or-set_other, length-set}
use Rattle.link_order.specs.Orders.{AreAscending, IsOrder}

-- links by number are in an order
pub ascending-order : (count : ℕ) (links places : List ℕ) → count < 2 ^ 32 → AreAscending count links → AreAscending count places →
    IsOrder (record { links = links; places = places })
ascending-order count links places few are stand = record {
  few = omega (arith, few, are.counted);
  counted = stand.counted ∙ sym are.counted;
  link_in = λ k below. omega (arith, below, are.is k (omega (arith, below, are.counted)));
  place_in = λ k below. omega (arith, below, stand.is k (omega (arith, below, are.counted)));
  place_is = λ k below.
      let inside : k < count = omega (arith, below, are.counted) in
      ap (λ n. get_or places n 0) (are.is k inside) ∙ stand.is k inside;
  link_is = λ k below.
      let inside : k < count = omega (arith, below, are.counted) in
      ap (λ n. get_or links n 0) (stand.is k inside) ∙ are.is k inside;
}

-- of two places that are set, the second one has what it was set to
set-second : (xs : List ℕ) (p q x y : ℕ) → q < length xs → get_or (set (set xs p x) q y) q 0 ≡ y
set-second xs p q x y inside = get_or-set_same (set xs p x) q y 0 (omega (arith, inside, length-set xs p x))

-- the first one too, where it is another
set-first : (xs : List ℕ) (p q x y : ℕ) → p < length xs → p ≢ q → get_or (set (set xs p x) q y) p 0 ≡ x
set-first xs p q x y inside apart = get_or-set_other (set xs p x) q p y 0 apart ∙ get_or-set_same xs p x 0 inside

-- any other has what it had
set-others : (xs : List ℕ) (p q x y k : ℕ) → k ≢ p → k ≢ q → get_or (set (set xs p x) q y) k 0 ≡ get_or xs k 0
set-others xs p q x y k first second = get_or-set_other (set xs p x) q k y 0 second ∙ get_or-set_other xs p k x 0 first

-- both places are set, whichever is read
set-length : (xs : List ℕ) (p q x y : ℕ) → length (set (set xs p x) q y) ≡ length xs
set-length xs p q x y = length-set (set xs p x) q y ∙ length-set xs p x

-- the links of two places are exchanged
module _ (links places : List ℕ) (p q a b : ℕ) (is : IsOrder (record { links = links; places = places })) (p_in : p < length links) (q_in : q < length links) (a_is : a ≡ get_or links p 0) (b_is : b ≡ get_or links q 0) where
  abbrev after : List ℕ
  after = set (set links p b) q a

  abbrev stand : List ℕ
  stand = set (set places a q) b p

  a-in : a < length links
  a-in = subst (λ n. n < length links) (sym a_is) (is.link_in p p_in)

  b-in : b < length links
  b-in = subst (λ n. n < length links) (sym b_is) (is.link_in q q_in)

  -- where both links stood
  a-place : get_or places a 0 ≡ p
  a-place = ap (λ n. get_or places n 0) a_is ∙ is.place_is p p_in

  b-place : get_or places b 0 ≡ q
  b-place = ap (λ n. get_or places n 0) b_is ∙ is.place_is q q_in

  -- one link has one place
  one-place : a ≡ b → p ≡ q
  one-place same = sym a-place ∙ (ap (λ n. get_or places n 0) same ∙ b-place)

  one-link : p ≡ q → a ≡ b
  one-link same = a_is ∙ (ap (λ n. get_or links n 0) same ∙ sym b_is)

  places-long : {x : ℕ} → x < length links → x < length places
  places-long {x} inside = subst (λ n. x < n) (sym is.counted) inside

  -- what stands at each place then
  at-second : get_or after q 0 ≡ a
  at-second = set-second links p q b a q_in

  at-first : p ≢ q → get_or after p 0 ≡ b
  at-first apart = set-first links p q b a p_in apart

  at-others : (k : ℕ) → k ≢ p → k ≢ q → get_or after k 0 ≡ get_or links k 0
  at-others k first second = set-others links p q b a k first second

  -- where each link stands then
  of-second : get_or stand b 0 ≡ p
  of-second = set-second places a b q p (places-long b-in)

  of-first : a ≢ b → get_or stand a 0 ≡ q
  of-first apart = set-first places a b q p (places-long a-in) apart

  of-others : (x : ℕ) → x ≢ a → x ≢ b → get_or stand x 0 ≡ get_or places x 0
  of-others x first second = set-others places a b q p x first second

  link-in : (k : ℕ) → k < length links → get_or after k 0 < length links
  link-in k inside =
      elim (cases_eq k q) [
        | inl second ↦ subst (λ n. n < length links) (sym (ap (λ n. get_or after n 0) second ∙ at-second)) a-in
        | inr not_second ↦
            elim (cases_eq k p) [
              | inl first ↦
                  subst (λ n. n < length links)
                  (sym (ap (λ n. get_or after n 0) first ∙ at-first (λ e. not_second (first ∙ e)))) b-in
              | inr not_first ↦ subst (λ n. n < length links) (sym (at-others k not_first not_second)) (is.link_in k inside)
            ]
      ]

  place-in : (x : ℕ) → x < length links → get_or stand x 0 < length links
  place-in x inside =
      elim (cases_eq x b) [
        | inl second ↦ subst (λ n. n < length links) (sym (ap (λ n. get_or stand n 0) second ∙ of-second)) p_in
        | inr not_second ↦
            elim (cases_eq x a) [
              | inl first ↦
                  subst (λ n. n < length links)
                  (sym (ap (λ n. get_or stand n 0) first ∙ of-first (λ e. not_second (first ∙ e)))) q_in
              | inr not_first ↦ subst (λ n. n < length links) (sym (of-others x not_first not_second)) (is.place_in x inside)
            ]
      ]

  -- the link at the second place stands there
  back-second : get_or stand a 0 ≡ q
  back-second =
      elim (cases_eq a b) [
        | inl same ↦ ap (λ n. get_or stand n 0) same ∙ (of-second ∙ one-place same)
        | inr apart ↦ of-first apart
      ]

  -- the place of the second link has it
  there-second : get_or after p 0 ≡ b
  there-second =
      elim (cases_eq p q) [
        | inl same ↦ ap (λ n. get_or after n 0) same ∙ (at-second ∙ one-link same)
        | inr apart ↦ at-first apart
      ]

  place-is : (k : ℕ) → k < length links → get_or stand (get_or after k 0) 0 ≡ k
  place-is k inside =
      elim (cases_eq k q) [
        | inl second ↦
            ap (λ n. get_or stand n 0) (ap (λ n. get_or after n 0) second ∙ at-second) ∙ (back-second ∙ sym second)
        | inr not_second ↦
            elim (cases_eq k p) [
              | inl first ↦
                  ap (λ n. get_or stand n 0) (ap (λ n. get_or after n 0) first ∙ there-second) ∙ (of-second ∙ sym first)
              | inr not_first ↦
                  ap (λ n. get_or stand n 0) (at-others k not_first not_second)
                  ∙ (of-others (get_or links k 0)
                  (λ e. not_first (sym (is.place_is k inside) ∙ (ap (λ n. get_or places n 0) e ∙ a-place)))
                  (λ e. not_second (sym (is.place_is k inside) ∙ (ap (λ n. get_or places n 0) e ∙ b-place)))
                  ∙ is.place_is k inside)
            ]
      ]

  link-is : (x : ℕ) → x < length links → get_or after (get_or stand x 0) 0 ≡ x
  link-is x inside =
      elim (cases_eq x b) [
        | inl second ↦
            ap (λ n. get_or after n 0) (ap (λ n. get_or stand n 0) second ∙ of-second) ∙ (there-second ∙ sym second)
        | inr not_second ↦
            elim (cases_eq x a) [
              | inl first ↦
                  ap (λ n. get_or after n 0) (ap (λ n. get_or stand n 0) first ∙ back-second) ∙ (at-second ∙ sym first)
              | inr not_first ↦
                  ap (λ n. get_or after n 0) (of-others x not_first not_second)
                  ∙ (at-others (get_or places x 0)
                  (λ e. not_first (sym (is.link_is x inside) ∙ (ap (λ n. get_or links n 0) e ∙ sym a_is)))
                  (λ e. not_second (sym (is.link_is x inside) ∙ (ap (λ n. get_or links n 0) e ∙ sym b_is)))
                  ∙ is.link_is x inside)
            ]
      ]

  -- that leaves an order
  pub exchanged-order : IsOrder (record { links = after; places = stand })
  exchanged-order =
      let long = set-length links p q b a in
      record {
        few = subst (λ n. n < 2 ^ 32) (sym long) is.few;
        counted = set-length places a b q p ∙ (is.counted ∙ sym long);
        link_in = λ k inside. subst (λ n. get_or after k 0 < n) (sym long) (link-in k (subst (λ n. k < n) long inside));
        place_in = λ k inside. subst (λ n. get_or stand k 0 < n) (sym long) (place-in k (subst (λ n. k < n) long inside));
        place_is = λ k inside. place-is k (subst (λ n. k < n) long inside);
        link_is = λ k inside. link-is k (subst (λ n. k < n) long inside);
      }
