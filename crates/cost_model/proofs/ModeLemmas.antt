-- What follows from the definition of the modes of a map.
use Rattle.std.proofs.Common.{◌≡◌, ℕ, zero, suc, ◌<◌, ℤ, int_le, Bool, true, false, ◌&&◌, IsTrue, w64, to_z, of_z, refl, ap, inl, inr, arith}
use Rattle.std.proofs.lemmas.Int.{ints, to_z-of_z}
use Rattle.std.proofs.lemmas.Bool.{cases_lt}
use Rattle.elev_buffer.specs.declared.labels.Mode.{Mode}
use Rattle.elev_buffer.specs.declared.labels.Modes.{Modes}
use Rattle.cost_model.specs.Facts.{AreFacts}
use Rattle.cost_model.specs.Parts.{is_same}
use Rattle.cost_model.specs.Modes.{every, mode_by, is_down_same, is_down_above, is_up_same, is_up_above, modes_before, AllowsFactor, AllowsFacts}
use Rattle.cost_model.specs.declared.facts.LinkFacts.{LinkFacts}
use Rattle.cost_model.proofs.NumberLemmas.{cost-fits}

-- two tests that imply two others, both at once
both : (x y u v : Bool) → (IsTrue x → IsTrue u) → (IsTrue y → IsTrue v) → IsTrue (x && y) → IsTrue (u && v)
both true true u v h k t = grind arith
both true false u v h k t = absurd (grind arith)
both false y u v h k t = absurd (grind arith)

-- where one test implies another, so does it of every number
pub every-implies : (s a : ℕ → Bool) (n : ℕ) → ((k : ℕ) → IsTrue (s k) → IsTrue (a k)) → IsTrue (every s n) → IsTrue (every a n)
every-implies s a zero h t = t
every-implies s a (suc n) h t = both (every s n) (s n) (every a n) (a n) (every-implies s a n h) (h n) t

-- both of two tests
left : (x y : Bool) → IsTrue (x && y) → IsTrue x
left x y h = grind arith

-- hold
right : (x y : Bool) → IsTrue (x && y) → IsTrue y
right x y h = grind arith

-- what holds of every number holds of each
every-at : (t : ℕ → Bool) (n k : ℕ) → k < n → IsTrue (every t n) → IsTrue (t k)
every-at t zero k h e = absurd (omega arith)
every-at t (suc n) k h e =
    elim (cases_lt k n) [
      | inl below ↦ every-at t n k below (left (every t n) (t n) e)
      | inr above ↦ let is : k ≡ n = omega arith in rw is (right (every t n) (t n) e)
    ]

-- a number that is another is at least it
pub same-above : (x c : ℤ) → IsTrue (is_same x c) → IsTrue (int_le c x)
same-above x c h = grind arith

-- a mode allows what its tests tell
allows-by : (s a : Bool) (x c : ℤ) → (IsTrue s → IsTrue (is_same x c)) → (IsTrue a → IsTrue (int_le c x)) → AllowsFactor (mode_by s a) x c
allows-by true a x c h k = grind (arith, ints)
allows-by false true x c h k = grind (arith, ints)
allows-by false false x c h k = tt

-- the modes by all links allow the facts of each
pub modes-allow : (f : ℕ → LinkFacts) (n k : ℕ) → k < n → AllowsFacts (modes_before f n) (f k)
unfolding modes_before
modes-allow f n k h =
    record {
      down = allows-by _ _ (f k).downfactor (f k).costfactor (every-at (λ l. is_down_same (f l)) n k h)
          (every-at (λ l. is_down_above (f l)) n k h);
      up = allows-by _ _ (f k).upfactor (f k).costfactor (every-at (λ l. is_up_same (f l)) n k h) (every-at (λ l. is_up_above (f l)) n k h);
    }

-- the mode by one factor more
abbrev pub Joins : Mode → ℤ → ℤ → Mode → Type 0
Joins mode x c r = (same above : Bool) → (IsTrue same → IsTrue above) → mode ≡ mode_by same above →
    r ≡ mode_by (same && is_same x c) (above && int_le c x)

-- the modes by one link more
pub modes-step : (f : ℕ → LinkFacts) (n m : ℕ) (found : Modes) (facts : LinkFacts) (d u : Mode) → AreFacts facts → m ≡ suc n →
    facts ≡ f n → found ≡ modes_before f n →
    Joins found.down (to_z w64 (of_z w64 facts.downfactor)) (to_z w64 (of_z w64 facts.costfactor)) d →
    Joins found.up (to_z w64 (of_z w64 facts.upfactor)) (to_z w64 (of_z w64 facts.costfactor)) u →
    ◌≡◌ {A = Modes} (record { down = d; up = u }) (modes_before f m)
unfolding modes_before
modes-step f n m found facts d u is em ef e jd ju =
    let cost = cost-fits _ is.costfactor in
    let down = cost-fits _ is.downfactor in
    let up = cost-fits _ is.upfactor in
    let at_down = jd (every (λ l. is_down_same (f l)) n) (every (λ l. is_down_above (f l)) n)
    (every-implies (λ l. is_down_same (f l)) (λ l. is_down_above (f l)) n (λ k. same-above (f k).downfactor (f k).costfactor))
    (ap (λ (x : Modes). x.down) e) in
    let at_up = ju (every (λ l. is_up_same (f l)) n) (every (λ l. is_up_above (f l)) n)
    (every-implies (λ l. is_up_same (f l)) (λ l. is_up_above (f l)) n (λ k. same-above (f k).upfactor (f k).costfactor))
    (ap (λ (x : Modes). x.up) e) in
    let is_down = simp (to_z-of_z, cost, down) at at_down in
    let is_up = simp (to_z-of_z, cost, up) at at_up in
    rw (em, is_down, is_up, ef) refl
