-- The queue of the labels that wait, in two heaps: one of the ranks below 2^40 with numbers below 2^24, each of
-- which is one number with the number of its label, and one of all others. This project's own rule.
use Rattle.std.specs.BinaryHeap.{IsHeap}
use Rattle.std.specs.List.{slice_get, Contains}
use Rattle.std.specs.Ordering.{nat_cmp, ordering_then, is_lt}
use Rattle.std.specs.Prelude.{ℕ, ◌≡◌, ◌/◌, ◌%◌, ◌≤◌, ◌^◌, Bool, true, false, cond, Some, List, [], ◌∷◌, ◌++◌, map}
use Rattle.std.specs.declared.cmp.Ordering.{Ordering}
use Rattle.std.specs.declared.cmp.Reverse.{Reverse}

-- an entry of the queue: the rank of its label, and the label's number
abbrev pub Entry : Type 0
Entry = Reverse (ℕ × ℕ)

-- the order of the queue: the greatest entry is the one of least rank, then of least number
abbrev pub entry_cmp : Entry → Entry → Ordering
entry_cmp a b = ordering_then (nat_cmp b.0.0 a.0.0) (nat_cmp b.0.1 a.0.1)

-- an entry of the narrow heap: a rank times 2^24 and the number of its label, added up
abbrev pub Packed : Type 0
Packed = Reverse ℕ

-- the entry that a narrow one stands for
abbrev pub unpacked : Packed → Entry
unpacked packed = record { 0 = (packed.0 / 2 ^ 24, packed.0 % 2 ^ 24) }

-- the order of the narrow heap: the greatest is the least number
abbrev pub packed_cmp : Packed → Packed → Ordering
packed_cmp a b = nat_cmp b.0 a.0

-- whether the narrow heap is read first: where no other entry waits, and where the first narrow one comes before
-- the first of the others
abbrev pub narrow_first : List Packed → List Entry → Bool
narrow_first narrow [] = true
narrow_first [] (entry ∷ others) = false
narrow_first (packed ∷ rest) (entry ∷ others) = is_lt (entry_cmp entry (unpacked packed))

-- all that waits: the heap that is read first, and then the other
abbrev pub waiting : List Packed → List Entry → List Entry
waiting narrow wide =
    cond (narrow_first narrow wide) (map unpacked narrow ++ wide) (wide ++ map unpacked narrow)

-- both heaps are in order
pub record IsQueue (narrow : List Packed) (wide : List Entry) : Type 0 where
  pub narrow_order : IsHeap packed_cmp narrow
  pub wide_order : IsHeap entry_cmp wide

-- the label of this number stands first in the queue, and nothing in it ranks below that
pub record IsFront (queue : List Entry) (number : ℕ) : Type 0 where
  pub rank : ℕ
  pub first : slice_get queue 0 ≡ Some (record { 0 = (rank, number) })
  pub least : (entry : Entry) → Contains queue entry → rank ≤ entry.0.0
