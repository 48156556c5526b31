-- The slot of a label: what may make it needless lies in the same one (this project's own rule).
use Rattle.std.specs.Prelude.{ℕ, ℤ, ◌+◌, ◌*◌, ◌%◌, Bool, true, false, ◌||◌, if◌then◌else◌, max, unsigned_abs}
use Rattle.elev_buffer.specs.declared.labels.Mode.{Mode}
use Rattle.elev_buffer.specs.declared.labels.Mode.TheVariants.{Compensated, Ordered, Equal}
use Rattle.elev_buffer.specs.declared.labels.Modes.{Modes}
use Rattle.elev_buffer.specs.declared.labels.Pair.{Pair}

-- whether a buffer must be equal in this mode
abbrev pub is_equal : Mode → Bool
is_equal Compensated = false
is_equal Ordered = false
is_equal Equal = true

-- whether one of the buffers must be equal
abbrev pub asks_equal : Modes → Bool
asks_equal modes = is_equal modes.down || is_equal modes.up

-- what labels share of a buffer where one makes the other needless: all of it where it must be equal, else
-- nothing
abbrev pub shared_part : Mode → ℤ → ℕ
shared_part Compensated buffer = 0
shared_part Ordered buffer = 0
shared_part Equal buffer = unsigned_abs buffer

-- how many slots there are for so many links: one for each, but at least about a million (a prime) where a
-- buffer must be equal
unfoldable pub slots_of : Modes → ℕ → ℕ
slots_of modes links = if asks_equal modes then max links 1048573 else links

-- the slot of a link's label with these buffers, of so many
unfoldable pub slot_of : ℕ → Modes → ℕ → Pair → ℕ
slot_of slots modes link pair =
    (link + 7919 * shared_part modes.down pair.down + 6563 * shared_part modes.up pair.up) % slots
