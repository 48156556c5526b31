use Rattle.std.proofs.Common.{sym, ◌∙◌, arith}
use Rattle.grid_map.proofs.NumberLemmas.{has_place, places-length, place-read}
use Rattle.grid_map.proofs.grid.Grid.place.Goals as goal

pub index-requires : goal.index-requires
index-requires c =
    omega (arith, places-length _ _ _ c.self.view_is c.self.invariant.places, c.self.inside.places.ok.0, c.requires.within)

pub returns-clause-exact : goal.returns-clause-exact
returns-clause-exact c = place-read _ _ _ c.self.view_is c.self.invariant.places c.args.k _ c.requires.within c.index.ensures

pub returns-clause-fits : goal.returns-clause-fits
returns-clause-fits c place is =
    has_place c.args.self.now c.args.k place c.requires.within
    (sym (place-read _ _ _ c.self.view_is c.self.invariant.places c.args.k _ c.requires.within c.index.ensures) ∙ is)
