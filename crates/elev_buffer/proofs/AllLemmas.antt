-- When a label makes each other needless that costs enough: where it makes that of empty buffers needless.
use Rattle.std.proofs.Common.{◌≡◌, ℤ, pos, ◌*ℤ◌, ◌≤ℤ◌, Bool, true, false, ◌||◌, refl, ap, ◌∙◌, arith}
use Rattle.std.proofs.Math.IntN.{*ℤ-zero}
use Rattle.std.proofs.lemmas.Int.{ints, clamps}
use Rattle.elev_buffer.specs.Covers.{Terms, Label, CoversAll, CoversLabel, IsInOrder, excess, label, price}
use Rattle.elev_buffer.specs.Slots.{asks_equal, is_equal}
use Rattle.elev_buffer.specs.declared.labels.Mode.{Mode}
use Rattle.elev_buffer.specs.declared.labels.Mode.TheVariants.{Compensated, Ordered, Equal}
use Rattle.elev_buffer.specs.declared.labels.Pair.{Pair}
use Rattle.elev_buffer.proofs.CoverLemmas.{covers-trans}

-- empty buffers
abbrev pub empty : Pair
empty = record { down = pos 0; up = pos 0 }

-- an empty buffer has nothing more than another
price-empty : (mode : Mode) (k y : ℤ) → pos 0 ≤ℤ y → price mode k (pos 0) y ≡ pos 0
price-empty Compensated k y positive =
    let none : excess (pos 0) y ≡ pos 0 = omega (arith, ints, clamps) in
    ap (λ e. k *ℤ e) none ∙ *ℤ-zero k
price-empty Ordered k y positive = refl
price-empty Equal k y positive = refl

-- and is no more than another, where it needn't be equal
order-empty : (mode : Mode) (y : ℤ) → is_equal mode ≡ false → pos 0 ≤ℤ y → IsInOrder mode (pos 0) y
order-empty Compensated y apart positive = tt
order-empty Ordered y apart positive = positive
order-empty Equal y apart positive = absurd (cc)

-- of two tests that fail together each fails
left-false : (a b : Bool) → (a || b) ≡ false → a ≡ false
left-false true b is = absurd (cc)
left-false false b is = refl

right-false : (a b : Bool) → (a || b) ≡ false → b ≡ false
right-false true b is = absurd (cc)
right-false false b is = is

-- what makes empty buffers needless makes all needless that cost as much or more
pub all-from-empty :
    (by : Terms) (a : Label) (cost : ℤ) → pos 0 ≤ℤ by.down_rate → pos 0 ≤ℤ by.up_rate → asks_equal by.modes ≡ false →
    CoversLabel by a (label empty cost) → CoversAll by a cost
all-from-empty by a cost d u apart covers pair other is more =
    let p = price-empty by.modes.down by.down_rate pair.down is.down.low in
    let q = price-empty by.modes.up by.up_rate pair.up is.up.low in
    covers-trans by a (label empty cost) (label pair other) d u covers (record {
      cost = omega (arith, ints);
      down = order-empty by.modes.down pair.down (left-false _ _ apart) is.down.low;
      up = order-empty by.modes.up pair.up (right-false _ _ apart) is.up.low;
    })

-- and the other way round
pub empty-from-all : (by : Terms) (a : Label) (cost : ℤ) → CoversAll by a cost → CoversLabel by a (label empty cost)
empty-from-all by a cost all =
    all empty cost (record {
      down = record { low = omega (arith, ints); high = omega (arith, ints) };
      up = record { low = omega (arith, ints); high = omega (arith, ints) };
    }) (omega (arith, ints))

-- of two tests one of which holds
either : {P : Type 0} → (a b : Bool) → (a || b) ≡ true → (a ≡ true → P) → (b ≡ true → P) → P
either true b is first second = first refl
either false b is first second = second is

-- no buffer is equal to all
no-order-all : (mode : Mode) (x : ℤ) → is_equal mode ≡ true → IsInOrder mode x (pos 0) → IsInOrder mode x (pos 1) → ⊥
no-order-all Compensated x equal h k = absurd (cc)
no-order-all Ordered x equal h k = absurd (cc)
no-order-all Equal x equal h k = absurd (omega (arith, ints, h, k))

-- so where one must be equal no label makes all needless
pub none-where-equal : (by : Terms) (a : Label) (cost : ℤ) → asks_equal by.modes ≡ true → CoversAll by a cost → ⊥
none-where-equal by a cost equal all =
    let zero = empty-from-all by a cost all in
    let one : CoversLabel by a (label (record { down = pos 1; up = pos 1 }) cost) =
    all (record { down = pos 1; up = pos 1 }) cost (record {
      down = record { low = omega (arith, ints); high = omega (arith, ints) };
      up = record { low = omega (arith, ints); high = omega (arith, ints) };
    }) (omega (arith, ints)) in
    either (is_equal by.modes.down) (is_equal by.modes.up) equal
    (λ e. no-order-all by.modes.down a.buffers.down e zero.down one.down)
    (λ e. no-order-all by.modes.up a.buffers.up e zero.up one.up)
