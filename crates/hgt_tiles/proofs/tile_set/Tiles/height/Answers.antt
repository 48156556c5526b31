use Rattle.std.proofs.Common.{refl, sym, ap, ◌∙◌, ◌%◌}
use Rattle.geo_int.specs.Spot.{place_of}
use Rattle.hgt_tiles.specs.Tiles.{relief_at, beyond}
use Rattle.hgt_tiles.specs.Height.{height_on}
use Rattle.hgt_tiles.proofs.PlaceLemmas.{corner-is, beyond-lon, beyond-lat}
use Rattle.hgt_tiles.proofs.TilesLemmas.{height_of-some, height_of-none, lawful_result, none_within}
use Rattle.hgt_tiles.proofs.tile_set.Tiles.height.Goals as goal

pub returns-in_err-tile : goal.returns-in_err-tile
unfolding relief_at
returns-in_err-tile c =
    let at = place_of c.args.spot in
    let same = corner-is c.args.spot _ refl in
    let none = ap (relief_at c.args.self.now) (sym same) ∙ sym c.in_err-tile.ensures.value in
    let is = c.from_residual.ensures ∙ sym (height_of-none c.args.self.now at none) in
    record { exact = is; within = none_within _ c.from_residual.ensures; lawful = lawful_result _ at c.args.self.now is }

pub returns : goal.returns
unfolding relief_at
returns c =
    let at = place_of c.args.spot in
    let same = corner-is c.args.spot _ refl in
    let some = ap (relief_at c.args.self.now) (sym same) ∙ sym c.in_ok-tile.ensures.value in
    let on = c.in_ok-tile.tile.now in
    let is = c.height.ensures.exact
    ∙ ap (λ a. height_on on a (c.args.spot.ilat % 1000000)) (sym (beyond-lon c.args.spot))
    ∙ ap (λ b. height_on on (beyond at.lon) b) (sym (beyond-lat c.args.spot))
    ∙ sym (height_of-some c.args.self.now at on some) in
    record { exact = is; within = c.height.ensures.within; lawful = lawful_result _ at c.args.self.now is }
