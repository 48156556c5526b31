-- Labels as rows, in whatever order, and their runs.
use Rattle.std.proofs.Common.{◌≡◌, ◌↔◌, ◌&&◌, int_le, nat_le, inl, inr, ℕ, pos, zero, suc, ◌+◌, ◌<◌, List, [], ◌∷◌, ◌++◌, Some, IsTrue, slice_set, refl, sym, ap, ◌∙◌, subst, get_or, take, length, length-append, arith}
use Rattle.std.proofs.lemmas.Bool.{cases_eq, cases_lt}
use Rattle.std.proofs.lemmas.Int.{ints}
use Rattle.std.proofs.lemmas.List.Sorted.{Contains-permutation, IsPermutation-sym}
use Rattle.std.proofs.Math.Seq.{take-append_seam}
use Rattle.std.proofs.lemmas.Option.{slice_get-get_or, slice_get_within}
use Rattle.std.specs.List.{Contains, slice_get}
use Rattle.std.specs.List.Sorted.{IsPermutation}
use Rattle.cost_model.specs.declared.parts.Carry.{Carry}
use Rattle.space_search.specs.Laws.{IsSpace}
use Rattle.space_search.specs.Rules.{Rules}
use Rattle.space_search.specs.declared.point.Point.{Point}
use Rattle.certificate_text.specs.declared.certificate.Entry.{Entry}
use Rattle.route_certificate.proofs.EntryLemmas.{no_entry}
use Rattle.route_certificate.specs.Entries.{AreBounded, carry_of}
use Rattle.route_certificate.specs.Index.{ArePlaced, AreRows, HaveRuns, IsLower, IsRow, IsRowOf, IsRun, IsRunTo, low_at}
use Rattle.route_certificate.specs.declared.low.Low.{Low}
use Rattle.route_certificate.specs.declared.rows.Row.{Row}

-- ---- Lists

-- a place of a list that is set holds what it is set to
pub set-here : {X : Type 0} → (xs : List X) (i : ℕ) (x : X) → i < length xs → slice_get (slice_set xs i x) i ≡ Some x
set-here [] i x h = absurd (omega (arith, h))
set-here (y ∷ xs) zero x h = refl
set-here (y ∷ xs) (suc i) x h = set-here xs i x (omega (arith, h))

-- each other place holds what it held
pub set-other : {X : Type 0} → (xs : List X) (i j : ℕ) (x : X) → (j ≡ i → ⊥) → slice_get (slice_set xs i x) j ≡ slice_get xs j
set-other [] i j x differ = refl
set-other (y ∷ xs) zero zero x differ = absurd (differ refl)
set-other (y ∷ xs) zero (suc j) x differ = refl
set-other (y ∷ xs) (suc i) zero x differ = refl
set-other (y ∷ xs) (suc i) (suc j) x differ = set-other xs i j x (λ same. differ (ap suc same))

-- what is said of each of a list and of one more is said of each of the list with that one behind
pub pushed : {X : Type 0} → (P : ℕ → X → Type 0) (xs : List X) (x : X) →
    ((at : ℕ) (y : X) → slice_get xs at ≡ Some y → P at y) → P (length xs) x →
    (at : ℕ) (y : X) → slice_get (xs ++ x ∷ []) at ≡ Some y → P at y
pushed P [] x each here zero y there = let same : x ≡ y = cc in subst (P 0) same here
pushed P [] x each here (suc at) y there = absurd (cc)
pushed P (z ∷ xs) x each here zero y there = each 0 y there
pushed P (z ∷ xs) x each here (suc at) y there =
    pushed (λ n. P (suc n)) xs x (λ n w t. each (suc n) w t) here at y there

-- a list holds something at each place within it
pub reads : {X : Type 0} → (xs : List X) (i : ℕ) → i < length xs → (x : X) × (slice_get xs i ≡ Some x)
reads [] i h = absurd (omega (arith, h))
reads (x ∷ xs) zero h = (x, refl)
reads (x ∷ xs) (suc i) h = reads xs i (omega (arith, h))

-- the front of a list, as long as it was made of, is that
pub front-whole : {X : Type 0} → (n : ℕ) (xs ys : List X) → n ≡ length xs → take n (xs ++ ys) ≡ xs
front-whole n xs ys is = ap (λ k. take k (xs ++ ys)) is ∙ take-append_seam xs ys

-- one place holds one thing
pub one-there : {X : Type 0} → (xs : List X) (i j : ℕ) (x y : X) → slice_get xs i ≡ Some x → slice_get xs j ≡ Some y → i ≡ j → x ≡ y
one-there xs i j x y at other same =
    let both : Some x ≡ Some y = sym at ∙ ap (slice_get xs) same ∙ other in
    cc

-- what stands in a list is one of it
contains-at : {X : Type 0} → (xs : List X) (i : ℕ) (x : X) → slice_get xs i ≡ Some x → Contains xs x
contains-at [] i x at = absurd (cc)
contains-at (y ∷ xs) zero x at = let same : y ≡ x = cc in (0, omega arith, same)
contains-at (y ∷ xs) (suc i) x at = let c = contains-at xs i x at in (suc c.0, omega (arith, c.1), c.2)

-- and each that is one of it stands in it
at-contains : {X : Type 0} → (xs : List X) (x : X) → Contains xs x → (i : ℕ) × (slice_get xs i ≡ Some x)
at-contains [] x (k, below, is) = absurd (omega arith)
at-contains (y ∷ xs) x (zero, below, is) = (0, ap Some is)
at-contains (y ∷ xs) x (suc k, below, is) = let c = at-contains xs x (k, omega arith, is) in (suc c.0, c.1)

-- no row
abbrev pub no_row : Row
no_row = record {
  low = record { point = record { x = pos 0; y = pos 0; z = pos 0 }; cost = 0 };
  place = 0;
  slot = 0;
  end = 0;
}

-- ---- Numbers

-- what is no greater than something is no greater than what that is no greater than
pub lower-lower : (a b c : Low) → IsLower a b → IsLower b c → IsLower a c
lower-lower a b c p q = record {
  under = record {
    x = omega (arith, ints, p.under.x, q.under.x);
    y = omega (arith, ints, p.under.y, q.under.y);
    z = omega (arith, ints, p.under.z, q.under.z);
  };
  cost = omega (arith, p.cost, q.cost);
}

-- numbers are no greater than themselves
pub lower-itself : (a : Low) → IsLower a a
lower-itself a = record {
  under = record { x = omega (arith, ints); y = omega (arith, ints); z = omega (arith, ints) };
  cost = omega arith;
}

-- four tests of numbers say whether they are no greater
pub lower-test : (a : Low) (point : Point) (cost : ℕ) →
    IsTrue (((nat_le a.cost cost && int_le a.point.x point.x) && int_le a.point.y point.y) && int_le a.point.z point.z)
    ↔ IsLower a (low_at point cost)
lower-test a point cost = (
  λ h. record {
    under = record { x = grind (arith, ints); y = grind (arith, ints); z = grind (arith, ints) };
    cost = grind (arith, ints);
  },
  λ h. let x = h.under.x in let y = h.under.y in let z = h.under.z in let c = h.cost in grind (arith, ints),
)

-- ---- Rows

-- a label as a row at its place
pub placed-row : (rules : Rules Carry) (entries : List Entry) (place : ℕ) (entry : Entry) (row : Row) →
    slice_get entries place ≡ Some entry → row.place ≡ place → IsRowOf rules entry row → IsRow rules entries row
placed-row rules entries place entry row there is of =
    record { entry = entry; there = ap (slice_get entries) is ∙ there; of = of }

-- one row more of one label more
pub placed-more : (rules : Rules Carry) (entries : List Entry) (count : ℕ) (rows after : List Row) (row : Row) →
    ArePlaced rules entries count rows → IsRow rules entries row → row.place ≡ count → after ≡ rows ++ row ∷ [] →
    ArePlaced rules entries (count + 1) after
placed-more rules entries count rows after row are is placed grown = record {
  counted =
      let long : length after ≡ length rows + 1 = ap length grown ∙ length-append rows (row ∷ []) in
      omega (arith, long, are.counted);
  each = λ at other there.
      pushed (λ _ r. IsRow rules entries r) rows row are.each is at other
      (sym (ap (λ l. slice_get l at) grown) ∙ there);
  placed = λ at other there.
      pushed (λ n r. r.place ≡ n) rows row are.placed (placed ∙ sym are.counted) at other
      (sym (ap (λ l. slice_get l at) grown) ∙ there);
}

-- the rows of all labels are rows of them
pub placed-rows : (rules : Rules Carry) (entries : List Entry) (rows : List Row) →
    ArePlaced rules entries (length entries) rows → AreRows rules entries rows
placed-rows rules entries rows are = record {
  each = are.each;
  all = λ place below.
      let r = reads rows place (omega (arith, below, are.counted)) in
      record { at = place; row = r.0; there = r.1; of = are.placed place r.0 r.1 };
}

-- they are so in any order
pub rows-moved : (rules : Rules Carry) (entries : List Entry) (rows after : List Row) → IsPermutation rows after →
    AreRows rules entries rows → AreRows rules entries after
rows-moved rules entries rows after moved are = record {
  each = λ at row there.
      let back = at-contains rows row
      (Contains-permutation after rows row (IsPermutation-sym rows after moved) (contains-at after at row there)) in
      are.each back.0 row back.1;
  all = λ place below.
      let has = are.all place below in
      let now = at-contains after has.row
      (Contains-permutation rows after has.row moved (contains-at rows has.at has.row has.there)) in
      record { at = now.0; row = has.row; there = now.1; of = has.of };
}

-- and so they are where one of them gets lower numbers
pub rows-lowered : (rules : Rules Carry) (entries : List Entry) (rows : List Row) (at : ℕ) (old row : Row) →
    slice_get rows at ≡ Some old → row.place ≡ old.place → row.slot ≡ old.slot → IsLower row.low old.low →
    AreRows rules entries rows → AreRows rules entries (slice_set rows at row)
rows-lowered rules entries rows at old row was place slot low are = record {
  each = λ other one there.
      elim (cases_eq other at) [
        | inl same ↦
            let is : row ≡ one = one-there (slice_set rows at row) at other row one
            (set-here rows at row (slice_get_within rows at old was)) there (sym same) in
            let of = are.each at old was in
            subst (IsRow rules entries) is (record {
              entry = of.entry;
              there = ap (slice_get entries) place ∙ of.there;
              of = record { slot = slot ∙ of.of.slot; low = lower-lower row.low old.low _ low of.of.low };
            })
        | inr differ ↦ are.each other one (sym (set-other rows at other row differ) ∙ there)
      ];
  all = λ number below.
      let has = are.all number below in
      elim (cases_eq has.at at) [
        | inl same ↦
            record {
              at = at;
              row = row;
              there = set-here rows at row (slice_get_within rows at old was);
              of = place ∙ ap (λ (r : Row). r.place) (one-there rows at has.at old has.row was has.there (sym same)) ∙ has.of;
            }
        | inr differ ↦
            record { at = has.at; row = has.row; there = set-other rows at has.at row differ ∙ has.there; of = has.of }
      ];
}

-- the label of a row is there
pub row-within : (rules : Rules Carry) (entries : List Entry) (rows : List Row) → AreRows rules entries rows →
    (at : ℕ) (row : Row) → slice_get rows at ≡ Some row → row.place < length entries
row-within rules entries rows are at row there =
    let is = are.each at row there in
    slice_get_within entries row.place is.entry is.there

pub entry-there : (rules : Rules Carry) (entries : List Entry) (rows : List Row) → AreRows rules entries rows →
    (at : ℕ) (row : Row) → slice_get rows at ≡ Some row → slice_get entries row.place ≡ Some (get_or entries row.place no_entry)
entry-there rules entries rows are at row there =
    slice_get-get_or entries row.place no_entry (row-within rules entries rows are at row there)

-- its slot is one of the space
pub slot-within : (rules : Rules Carry) (entries : List Entry) (rows : List Row) → IsSpace rules → AreBounded rules entries →
    AreRows rules entries rows → (at : ℕ) (row : Row) → slice_get rows at ≡ Some row → row.slot < rules.slots
slot-within rules entries rows laws bounded are at row there =
    let is = are.each at row there in
    let below = laws.moves.slot (carry_of is.entry) (bounded row.place is.entry is.there).valid in
    omega (arith, below, is.of.slot)

-- ---- Runs

-- a row alone is a run
pub run-first : (rows : List Row) (at : ℕ) (row : Row) → slice_get rows at ≡ Some row → IsRunTo rows at row.low (at + 1)
run-first rows at row there = record {
  after = omega arith;
  lower = λ place other from below here.
      subst (λ (r : Row). IsLower row.low r.low)
      (one-there rows at place row other there here (omega (arith, from, below))) (lower-itself row.low);
}

-- a run and the run that begins at its end are one
pub run-joined : (rows : List Row) (at end : ℕ) (low new : Low) (next : Row) → HaveRuns rows (at + 1) →
    IsRunTo rows at low end → slice_get rows end ≡ Some next → IsLower new low → IsLower new next.low →
    IsRunTo rows at new next.end
run-joined rows at end low new next runs run there first second =
    let after = run.after in
    let behind = runs end next (omega (arith, after)) there in
    let later = behind.after in
    record {
      after = omega (arith, after, later);
      lower = λ place other from below here.
          elim (cases_lt place end) [
            | inl before ↦ lower-lower new low other.low first (run.lower place other from before here)
            | inr past ↦ lower-lower new next.low other.low second (behind.lower place other past below here)
          ];
    }

-- the rows from a place on have their runs, where the row there gets its own
pub runs-more : (rows : List Row) (at : ℕ) (row : Row) → at < length rows → HaveRuns rows (at + 1) → IsRun rows at row →
    HaveRuns (slice_set rows at row) at
runs-more rows at row within runs run other one from there =
    elim (cases_eq other at) [
      | inl same ↦
          let is : row ≡ one = one-there (slice_set rows at row) at other row one (set-here rows at row within) there
          (sym same) in
          let here : IsRun (slice_set rows at row) at row = record {
            after = run.after;
            lower = λ place second below before found.
                elim (cases_eq place at) [
                  | inl again ↦
                      subst (λ (r : Row). IsLower row.low r.low)
                      (one-there (slice_set rows at row) at place row second (set-here rows at row within) found (sym again))
                      (lower-itself row.low)
                  | inr differ ↦
                      run.lower place second below before (sym (set-other rows at place row differ) ∙ found)
                ];
          } in
          subst (λ (n : ℕ). IsRun (slice_set rows at row) n one) (sym same)
          (subst (IsRun (slice_set rows at row) at) is here)
      | inr differ ↦
          let old = runs other one (omega (arith, from, differ)) (sym (set-other rows at other row differ) ∙ there) in
          record {
            after = old.after;
            lower = λ place second below before found.
                let apart : place ≡ at → ⊥ = λ same. differ (omega (arith, from, below, same)) in
                old.lower place second below before (sym (set-other rows at place row apart) ∙ found);
          }
    ]
