-- The slot of a label: it is one of the slots, and covering leaves it.
use Rattle.std.proofs.Common.{◌≡◌, ℕ, ℤ, ◌+◌, ◌*◌, ◌%◌, ◌<◌, ◌≤◌, false, Bool, true, ◌||◌, max, if◌then◌else◌, unsigned_abs, refl, ap, ◌∙◌, arith}
use Rattle.std.proofs.Math.Nat.{mod-eq_of_lt, mod-lt}
use Rattle.elev_buffer.specs.Covers.{Terms, Label, IsInOrder, CoversLabel}
use Rattle.elev_buffer.specs.Slots.{asks_equal, is_equal, shared_part, slot_of, slots_of}
use Rattle.elev_buffer.specs.declared.labels.Mode.{Mode}
use Rattle.elev_buffer.specs.declared.labels.Mode.TheVariants.{Compensated, Ordered, Equal}
use Rattle.elev_buffer.specs.declared.labels.Modes.{Modes}
use Rattle.elev_buffer.specs.declared.labels.Pair.{Pair}

-- two buffers that have the order of their mode have one shared part
pub order-shares : (mode : Mode) (x y : ℤ) → IsInOrder mode x y → shared_part mode x ≡ shared_part mode y
order-shares Compensated x y h = refl
order-shares Ordered x y h = refl
order-shares Equal x y h = ap unsigned_abs h

-- what covers lies in the slot of what it covers
pub slot-covered : (by : Terms) (a b : Label) (slots link : ℕ) → CoversLabel by a b →
    slot_of slots by.modes link a.buffers ≡ slot_of slots by.modes link b.buffers
unfolding slot_of
slot-covered by a b slots link h =
    ap (λ (n : ℕ). (link + 7919 * n + 6563 * shared_part by.modes.up a.buffers.up) % slots) (order-shares by.modes.down _ _ h.down)
    ∙ ap (λ (n : ℕ). (link + 7919 * shared_part by.modes.down b.buffers.down + 6563 * n) % slots) (order-shares by.modes.up _ _ h.up)

-- a buffer that need not be equal has no shared part
none-shared : (mode : Mode) (x : ℤ) → is_equal mode ≡ false → shared_part mode x ≡ 0
none-shared Compensated x h = refl
none-shared Ordered x h = refl
none-shared Equal x h = cc

-- where neither of two tests holds
neither : (x y : Bool) → (x || y) ≡ false → (x ≡ false) × (y ≡ false)
neither false y h = (refl, h)
neither true y h = cc

-- where no buffer must be equal, each link has a slot of its own
pub slot-own : (slots : ℕ) (modes : Modes) (link : ℕ) (pair : Pair) → link < slots → asks_equal modes ≡ false →
    slot_of slots modes link pair ≡ link
unfolding slot_of
slot-own slots modes link pair within none =
    let each = neither (is_equal modes.down) (is_equal modes.up) none in
    let sum : link + 7919 * shared_part modes.down pair.down + 6563 * shared_part modes.up pair.up ≡ link =
    omega (arith, none-shared modes.down pair.down each.0, none-shared modes.up pair.up each.1) in
    ap (λ (n : ℕ). n % slots) sum ∙ mod-eq_of_lt within

-- the slot is one of the slots
pub slot-within : (slots : ℕ) (modes : Modes) (link : ℕ) (pair : Pair) → 0 < slots → slot_of slots modes link pair < slots
unfolding slot_of
slot-within slots modes link pair some = mod-lt _ some

-- there are as many slots as links
pub slots-enough : (modes : Modes) (links : ℕ) → links ≤ slots_of modes links
unfolding slots_of
slots-enough modes links = go (asks_equal modes) where
  go : (asks : Bool) → links ≤ (if asks then max links 1048573 else links)
  go true = omega arith
  go false = omega arith
