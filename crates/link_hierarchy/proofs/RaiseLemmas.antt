-- The row of a node above takes more.
use Rattle.std.proofs.Common.{◌≡◌, ◌≢◌, ℕ, zero, suc, ◌+◌, ◌-◌, ◌<◌, ◌≤◌, inl, inr, List, [], length, get_or, set, sym, ap, ◌∙◌, subst, arith}
use Rattle.std.proofs.lemmas.Bool.{cases_eq, cases_lt}
use Rattle.std.proofs.lemmas.List.{get_or-set_same, get_or-set_other, length-set}
use Rattle.link_hierarchy.specs.Eliminations.{AreFrom, AreRaised}
use Rattle.link_hierarchy.specs.Rows.{AreAscending, Holds, IsItem, IsRow, Widens, row_at}
use Rattle.link_hierarchy.proofs.RowLemmas.{AreRaisedTo}

-- an ascending row is no longer than its nodes are many
pub row-grows : (row : List ℕ) → AreAscending row → (i : ℕ) → i < length row → i ≤ get_or row i 0
row-grows row sorted zero inside = omega arith
row-grows row sorted (suc i) inside =
    let before = row-grows row sorted i (omega (arith, inside)) in
    let more = sorted i (suc i) (omega arith) inside in
    omega (arith, before, more)

pub row-short : (low nodes : ℕ) (row : List ℕ) → IsRow low nodes row → length row ≤ nodes
row-short low nodes row is =
    elim (cases_lt 0 (length row)) [
      | inr none ↦ omega (arith, none)
      | inl some ↦
          let last : ℕ = length row - 1 in
          let inside : length row - 1 < length row = omega (arith, some) in
          omega (arith, some, row-grows row is.sorted (length row - 1) inside, is.within (length row - 1) inside)
    ]

-- ---- The row of a node above takes more

-- all rows, where one took the place of another: they are as rows from a node on
pub record AreReplaced (nodes node high : ℕ) (all rows2 : List (List ℕ)) : Type 0 where
  pub rows : List (List ℕ)
  pub widens : Widens nodes all rows high
  pub from : AreFrom node rows rows2
  pub takes : (y : ℕ) → Holds (row_at rows2 high) y → Holds (row_at rows high) y
  pub below : (v : ℕ) → v < high → row_at rows v ≡ row_at all v

pub replaced : (nodes node high : ℕ) (all rows rows2 : List (List ℕ)) → AreFrom node all rows → node ≤ high → Widens nodes rows rows2 high →
    high < length all → AreReplaced nodes node high all rows2
replaced nodes node high all rows rows2 from up widens inside =
    let all2 = set all high (row_at rows2 high) in
    let same : row_at all2 high ≡ row_at rows2 high = get_or-set_same all high (row_at rows2 high) [] inside in
    let other : (v : ℕ) → v ≢ high → row_at all2 v ≡ row_at all v = λ v apart. get_or-set_other all high v (row_at rows2 high) [] apart in
    record {
      rows = all2;
      widens = record {
        counted = length-set all high (row_at rows2 high);
        row = subst (λ (r : List ℕ). IsRow high nodes r) (sym same) widens.row;
        keeps = λ x h.
            subst (λ (r : List ℕ). Holds r x) (sym same)
            (widens.keeps x (subst (λ (r : List ℕ). Holds r x) (sym (from high up)) h));
        others = other;
      };
      from = λ v least.
          elim (cases_eq v high) [
            | inl here ↦ ap (row_at rows2) here ∙ sym same ∙ ap (row_at all2) (sym here)
            | inr apart ↦ widens.others v apart ∙ from v least ∙ sym (other v apart)
          ];
      takes = λ y h. subst (λ (r : List ℕ). Holds r y) (sym same) h;
      below = λ v less. other v (λ here. absurd (omega (arith, here, less)));
    }

-- rows that grow keep what they took
pub raised-grows : (by row : List ℕ) (rows rows2 : List (List ℕ)) (count : ℕ) → ((v x : ℕ) → Holds (row_at rows v) x → Holds (row_at rows2 v) x) →
    AreRaised by row rows count → AreRaised by row rows2 count
raised-grows by row rows rows2 count keeps raised k y below inside h above = keeps (get_or by k 0) y (raised k y below inside h above)

-- one more takes it
pub raised-more : (by row : List ℕ) (rows : List (List ℕ)) (count high : ℕ) → high ≡ get_or by count 0 →
    ((y : ℕ) → Holds row y → high < y → Holds (row_at rows high) y) → AreRaised by row rows count → AreRaised by row rows (count + 1)
raised-more by row rows count high high_is takes raised k y below inside h above =
    elim (cases_eq k count) [
      | inl same ↦
          let here : high ≡ get_or by k 0 = high_is ∙ ap (λ n. get_or by n 0) (sym same) in
          subst (λ n. Holds (row_at rows n) y) here (takes y h (omega (arith, here, above)))
      | inr other ↦ raised k y (omega (arith, other, below)) inside h above
    ]

-- none has to
pub raised-none : (by row : List ℕ) (rows : List (List ℕ)) → AreRaised by row rows 0
raised-none by row rows k y below = absurd (omega (arith, below))

-- all up to a node took it, where the next one is above that
pub raised-all : (by row : List ℕ) (rows : List (List ℕ)) (count next last : ℕ) → AreAscending by → IsItem by count next → (next < 0xffff_ffff → last < next) →
    ((k : ℕ) → k < length by → get_or by k 0 < 0xffff_ffff) → AreRaised by row rows count → AreRaisedTo by row rows last
raised-all by row rows count next last sorted item over low raised k y inside near h above =
    elim (cases_lt k count) [
      | inl done ↦ raised k y done inside h above
      | inr later ↦
          let there : count < length by = omega (arith, later, inside) in
          let is = item.there there in
          let far = over (omega (arith, is, low count there)) in
          elim (cases_eq k count) [
            | inl same ↦ absurd (omega (arith, ap (λ n. get_or by n 0) same, is, far, near))
            | inr other ↦ absurd (omega (arith, sorted count k (omega (arith, other, later)) inside, is, far, near))
          ]
    ]
