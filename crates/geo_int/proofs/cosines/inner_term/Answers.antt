use Rattle.std.proofs.Common.{refl}
use Rattle.geo_int.specs.Cosine.{series_term}
use Rattle.geo_int.proofs.cosines.inner_term.Goals as goal

pub returns-clause-exact : goal.returns-clause-exact
unfolding series_term
returns-clause-exact c = refl
