-- The steps of the value at the front are counted one by one.
use Rattle.std.proofs.Common.{◌≡◌, ℕ, zero, suc, ◌+◌, ◌-◌, ◌≤◌, true, false, List, [], ◌∷◌, length, refl, sym, ap, ◌∙◌, arith}
use mathlib.Core.Bool.{false≢true}
use Rattle.std.proofs.lemmas.Bool.Decides.{nat_tests}
use Rattle.std.specs.Prelude.{◌==◌}
use Rattle.json_text.specs.Marks.{Step}
use Rattle.map_elements.specs.Entries.{by_depth, depth_after}
use Rattle.map_elements.specs.Cut.{size_of, ends_in}

-- where one bracket more is open, some are
some_open : (k : ℕ) → (suc k == 0) ≡ false
some_open k = grind (arith, nat_tests)

-- the case of open brackets
still_open : {A : Type 0} (n : ℕ) (a : A) (f : ℕ → A) → (n == 0) ≡ false → by_depth n a f ≡ f n
still_open zero a f e = absurd (false≢true (sym e))
still_open (suc k) a f e = refl

-- the case of none
all_closed : {A : Type 0} (n : ℕ) (a : A) (f : ℕ → A) → (n == 0) ≡ true → by_depth n a f ≡ a
all_closed zero a f e = refl
all_closed (suc k) a f e = absurd (false≢true (sym (some_open k) ∙ e))

-- so many brackets are open where these steps are left of all
pub record Counts (all left : List Step) (total depth : ℕ) : Type 0 where
  pub is_total : total ≡ length all
  pub few : depth + length left ≤ total
  pub size : size_of 0 all + length left ≡ total + size_of depth left
  pub ends : ends_in 0 all ≡ ends_in depth left

module _ (all left : List Step) (total depth : ℕ) (step : Step) (before : List Step) (is : before ≡ step ∷ left) (h :
    Counts all before total depth)
    (n : ℕ) (behind : n ≡ depth_after depth step) where
  size_if : size_of depth before ≡ by_depth n 1 (λ still. suc (size_of still left))
  size_if = ap (size_of depth) is ∙ ap (λ m. by_depth m 1 (λ still. suc (size_of still left))) (sym behind)

  ends_if : ends_in depth before ≡ by_depth n true (λ still. ends_in still left)
  ends_if = ap (ends_in depth) is ∙ ap (λ m. by_depth m true (λ still. ends_in still left)) (sym behind)

  longer : length before ≡ suc (length left)
  longer = ap (λ (s : List Step). length s) is

  -- where brackets are open, the count goes on
  pub Counts-more : (n == 0) ≡ false → n ≤ depth + 1 → Counts all left total n
  Counts-more e fits =
      let size : size_of depth before ≡ suc (size_of n left) = size_if ∙ still_open n _ _ e in
      record {
        is_total = h.is_total;
        few = omega (arith, h.few, longer, fits);
        size = omega (arith, h.size, longer, size);
        ends = h.ends ∙ ends_if ∙ still_open n _ _ e;
      }

  -- where none is, all are counted
  pub Counts-size : (n == 0) ≡ true → total - length left ≡ size_of 0 all
  Counts-size e =
      let size : size_of depth before ≡ 1 = size_if ∙ all_closed n _ _ e in
      omega (arith, h.size, longer, size, h.few)

  -- and the last has come
  pub Counts-ends : (n == 0) ≡ true → true ≡ ends_in 0 all
  Counts-ends e = sym (h.ends ∙ ends_if ∙ all_closed n _ _ e)

-- before the first step nothing is counted
pub Counts-start : (all : List Step) (total : ℕ) → total ≡ length all → Counts all all total 0
Counts-start all total is = record { is_total = is; few = omega (arith, is); size = omega (arith, is); ends = refl }

-- where no step is left, all are counted
pub Counts-stop : (all left : List Step) (total depth : ℕ) → left ≡ [] → Counts all left total depth →
    (total ≡ size_of 0 all) × (false ≡ ends_in 0 all)
Counts-stop all left total depth is h =
    let k : size_of depth left ≡ 0 = ap (size_of depth) is in
    let l : length left ≡ 0 = ap (λ (s : List Step). length s) is in
    (omega (arith, h.size, k, l), sym (h.ends ∙ ap (ends_in depth) is))
