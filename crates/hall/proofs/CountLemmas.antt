-- How many sessions a hall holds, and how many connections are turned away, is one number each.
use Rattle.std.proofs.Common.{◌≡◌, ◌≢◌, ◌==◌, ◌+◌, ℕ, suc, Bool, true, false, cond, List, [], ◌∷◌, Option, Some, None, inl, inr, refl, sym, ◌∙◌, ap, subst, arith, eq-eqb, eqb-true}
use Rattle.std.proofs.lemmas.Bool.{false≢true}
use Rattle.std.specs.Bool.{beq}
use Rattle.hall.proofs.IdLemmas.{among_kept, among_without, different_without, without_none}
use Rattle.hall.specs.Held.{AreDifferent, Counts, IsAmong, count_among, count_at}
use Rattle.hall.specs.State.{Connection, State, without}

-- ---- Counts

module _ (known : ℕ → Option Connection) (away : Bool) where
  -- what an id adds to the others
  pub count_first : (id : ℕ) (ids : List ℕ) → count_among known away (id ∷ ids) ≡ count_among known away ids + count_at (known id) away 0
  count_first id ids = adds (known id) (count_among known away ids)
    where
      adds : (x : Option Connection) (n : ℕ) → count_at x away n ≡ n + count_at x away 0
      adds None n = omega arith
      adds (Some c) n = elim (beq c.away away) as (λ b. cond b (suc n) n ≡ n + cond b 1 0) [ true ↦ omega arith | false ↦ omega arith ]

  taken_test : (id x : ℕ) (ids : List ℕ) (b : Bool) → (x == id) ≡ b → (IsAmong x ids → ⊥) →
      (IsAmong id ids → count_among known away ids ≡ count_among known away (without id ids) + count_at (known id) away 0) →
      IsAmong id (x ∷ ids) → count_among known away (x ∷ ids) ≡
      count_among known away (cond b (without id ids) (x ∷ without id ids)) + count_at (known id) away 0
  taken_test id x ids true is once rest among =
      let same = eqb-true x id is in
      let left = without_none id ids (λ h. once (subst (λ (k : ℕ). IsAmong k ids) (sym same) h)) in
      count_first x ids ∙ ap (λ (l : List ℕ). count_among known away l + count_at (known x) away 0) (sym left)
      ∙ ap (λ (i : ℕ). count_among known away (without id ids) + count_at (known i) away 0) same
  taken_test id x ids false is once rest (inl here) = absurd (false≢true (sym is ∙ eq-eqb x id here))
  taken_test id x ids false is once rest (inr later) = omega (arith, count_first x ids, count_first x (without id ids), rest later)

  -- one id is taken out
  pub count_taken : (id : ℕ) (ids : List ℕ) → AreDifferent ids → IsAmong id ids →
      count_among known away ids ≡ count_among known away (without id ids) + count_at (known id) away 0
  count_taken id [] once among = absurd among
  count_taken id (x ∷ ids) once among = taken_test id x ids (x == id) refl once.0 (count_taken id ids once.1) among

  -- the same ids count the same in any order
  count_same : (xs ys : List ℕ) → AreDifferent xs → AreDifferent ys → ((j : ℕ) → IsAmong j xs → IsAmong j ys) →
      ((j : ℕ) → IsAmong j ys → IsAmong j xs) →
      count_among known away xs ≡ count_among known away ys
  count_same [] [] first second there back = refl
  count_same [] (y ∷ ys) first second there back = absurd (back y (inl refl))
  count_same (x ∷ xs) ys first second there back =
      let among = there x (inl refl) in
      let rest = count_same xs (without x ys) first.1 (different_without x ys second)
      (λ j is. among_kept x j ys (λ e. first.0 (subst (λ (i : ℕ). IsAmong i xs) e is)) (there j (inr is)))
      (λ j is. later j (among_without x j ys is)) in
      omega (arith, count_first x xs, count_taken x ys second among, rest)
    where
      later : (j : ℕ) → (j ≢ x) × IsAmong j ys → IsAmong j xs
      later j is = elim (back j is.1) [ inl same ↦ absurd (is.0 (sym same)) | inr among ↦ among ]

-- a hall holds one number of them
pub Counts-same : (s : State) (away : Bool) (m n : ℕ) → Counts s away m → Counts s away n → m ≡ n
Counts-same s away m n first second =
    first.is ∙ count_same s.known away first.ids second.ids first.all.once second.all.once
    (λ j is. let held = first.all.held j is in second.all.whole j held.0 held.1)
    (λ j is. let held = second.all.held j is in first.all.whole j held.0 held.1) ∙ sym second.is
