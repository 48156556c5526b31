use Rattle.std.proofs.Common.{SFits, w16, refl, ap, ◌∙◌, rules}
use Rattle.std.proofs.lemmas.Int.{to_z-of_z}
use Rattle.hgt_tiles.specs.Relief.{relief}
use Rattle.hgt_tiles.specs.Height.{height_around, height_on}
use Rattle.hgt_tiles.proofs.HeightLemmas.{around-is}
use Rattle.hgt_tiles.proofs.tile_file.Tile.height.Goals as goal

pub returns : goal.returns
returns c =
    let inside = c.self.inside in
    let sw : SFits w16 c.index.result.now = search rules in
    let se : SFits w16 c.index-2.result.now = search rules in
    let nw : SFits w16 c.index-3.result.now = search rules in
    let ne : SFits w16 c.index-4.result.now = search rules in
    let h = simp (to_z-of_z, sw, se, nw, ne) at c.height_between.ensures.exact in
    let r = relief inside.corner inside.steps inside.samples.items in
    let is = around-is r c.args.east c.args.north _ _ _ c.self.invariant c.requires.east c.requires.north refl refl
    c.index.ensures c.index-2.ensures c.index-3.ensures c.index-4.ensures refl refl in
    record {
      exact = h ∙ ap height_around is ∙ ap (λ v. height_on v c.args.east c.args.north) c.self.view_is;
      within = c.height_between.ensures.within;
    }
