-- What an index of spellings says: each spelling with its number, in the order in which they came.
use Rattle.std.specs.Prelude.{ℕ, List, map, Vec}
use Rattle.indexmap.specs.IndexMap.{IndexMap}
use Rattle.std.specs.declared.alloc.Global.{Global}

-- the spellings of an index with their numbers
abbrev pub spelled : {S : Type 0} → IndexMap (Vec ℕ Global) ℕ S → List (List ℕ × ℕ)
spelled m = map (λ e. (e.0.items, e.1)) m.entries
