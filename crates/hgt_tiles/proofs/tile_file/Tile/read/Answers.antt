use Rattle.std.proofs.Common.{length, ap, ◌∙◌}
use Rattle.hgt_tiles.proofs.FileLemmas.{length-samples_of}
use Rattle.hgt_tiles.proofs.tile_file.Tile.read.Goals as goal

pub invariant_of-result : goal.invariant_of-result
invariant_of-result c = record {
  corner = c.in-Some.ensures.lawful;
  some = c.in-Some-steps_in.ensures.some;
  few = c.in-Some-steps_in.ensures.few;
  whole = ap length c.in_ok-samples.ensures.exact ∙ length-samples_of c.args.bytes.now ∙ c.in-Some-steps_in.ensures.whole;
}
