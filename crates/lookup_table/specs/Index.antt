-- What an index of names says of the tags of a part.
use Rattle.std.specs.Prelude.{◌≡◌, ◌≤◌, ℕ, List, length, map, Vec}
use Rattle.std.specs.declared.alloc.Global.{Global}
use Rattle.lookup_table.specs.Tag.{TagRow, AreDistinct, AreSound, names_of}

-- the index holds the names of the tags in their order; no name comes twice, the tags are few, and each is
-- sound
pub record IsIndexed (keys : List (Vec ℕ Global)) (rows : List TagRow) : Type 0 where
  pub names : map (λ k. k.items) keys ≡ names_of rows
  pub distinct : AreDistinct (names_of rows)
  pub few : length rows ≤ 1024
  pub sound : AreSound rows
