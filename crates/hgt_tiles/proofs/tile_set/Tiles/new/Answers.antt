use Rattle.std.proofs.Common.{refl}
use Rattle.hgt_tiles.specs.Tiles.{relief_at}
use Rattle.hgt_tiles.proofs.tile_set.Tiles.new.Goals as goal

pub returns : goal.returns
unfolding relief_at
returns c = let e = c.new.ensures.empty in record { empty = λ corner. simp e refl }
