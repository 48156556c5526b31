use Rattle.ride_bounds.specs.Guides.{IsBoundBy}
use Rattle.map_cases.proofs.bounds.told.Given as goal

abbrev pub invariant-links : goal.invariant-links
invariant-links g l = IsBoundBy (g.G.TerrainOf.terrain l.terrain) l.guide l.target l.bound
