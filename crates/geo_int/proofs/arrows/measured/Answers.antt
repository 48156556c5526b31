use Rattle.std.proofs.Common.{◌≡◌, SFits, w64}
use Rattle.std.proofs.lemmas.Int.{to_z-of_z}
use Rattle.geo_int.specs.Arrow.{length_of, square_sum}
use Rattle.geo_int.proofs.arrows.measured.Goals as goal

pub returns : goal.returns
unfolding length_of
returns c =
    let east : SFits w64 c.args.dx = c.ranges.dx in
    let north : SFits w64 c.args.dy = c.ranges.dy in
    let s : c.sum_of_squares.result ≡ square_sum c.args.dx c.args.dy = simp to_z-of_z at c.sum_of_squares.ensures.exact in
    simp to_z-of_z (record { exact = cc })
