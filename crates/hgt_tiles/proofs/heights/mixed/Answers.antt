use Rattle.std.proofs.Common.{◌≡◌, ◌-◌, pos, ◌+ℤ◌, ◌*ℤ◌, SFits, to_z, w64, refl, arith}
use Rattle.std.proofs.lemmas.Int.{to_z-of_z, to_z_pos, fits_signed_from_abs}
use Rattle.hgt_tiles.specs.Height.{mix}
use Rattle.hgt_tiles.proofs.MixLemmas.{mix_fits}
use Rattle.hgt_tiles.proofs.heights.mixed.Goals as goal

pub returns-clause-exact : goal.returns-clause-exact
unfolding mix
returns-clause-exact c =
    let fits = mix_fits c.args.share c.args.first c.args.second 32768000000 c.requires.share c.requires.first c.requires.second in
    let a : SFits w64 (pos (1000000 - c.args.share) *ℤ c.args.first) = fits_signed_from_abs w64 _ (omega (arith, fits.first)) in
    let b : SFits w64 (pos c.args.share *ℤ c.args.second) = fits_signed_from_abs w64 _ (omega (arith, fits.second)) in
    let s : SFits w64 (pos (1000000 - c.args.share) *ℤ c.args.first +ℤ pos c.args.share *ℤ c.args.second) =
    fits_signed_from_abs w64 _ (omega (arith, fits.sum)) in
    let x : to_z w64 (1000000 - c.args.share) ≡ pos (1000000 - c.args.share) = to_z_pos w64 _ (omega arith) in
    let y : to_z w64 c.args.share ≡ pos c.args.share = to_z_pos w64 _ (omega arith) in
    simp (to_z-of_z, x, y, c.ranges.first, c.ranges.second, a, b, s) refl

pub returns-clause-within : goal.returns-clause-within
returns-clause-within c =
    let fits = mix_fits c.args.share c.args.first c.args.second 32768000000 c.requires.share c.requires.first c.requires.second in
    let a : SFits w64 (pos (1000000 - c.args.share) *ℤ c.args.first) = fits_signed_from_abs w64 _ (omega (arith, fits.first)) in
    let b : SFits w64 (pos c.args.share *ℤ c.args.second) = fits_signed_from_abs w64 _ (omega (arith, fits.second)) in
    let s : SFits w64 (pos (1000000 - c.args.share) *ℤ c.args.first +ℤ pos c.args.share *ℤ c.args.second) =
    fits_signed_from_abs w64 _ (omega (arith, fits.sum)) in
    let x : to_z w64 (1000000 - c.args.share) ≡ pos (1000000 - c.args.share) = to_z_pos w64 _ (omega arith) in
    let y : to_z w64 c.args.share ≡ pos c.args.share = to_z_pos w64 _ (omega arith) in
    simp (to_z-of_z, x, y, c.ranges.first, c.ranges.second, a, b, s)
    (λ most p q. (mix_fits c.args.share c.args.first c.args.second most c.requires.share p q).sum)
