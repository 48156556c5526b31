use Rattle.std.proofs.Common.{◌≡◌, ◌*◌, ◌++◌, drop}
use Rattle.hgt_tiles.specs.File.{samples_of}
use Rattle.hgt_tiles.proofs.tile_file.samples_in.Given as goal

abbrev pub invariant-loop-i : goal.invariant-loop-i
invariant-loop-i l = l.samples.items ++ samples_of (drop (2 * l.i) l.bytes) ≡ samples_of l.bytes
