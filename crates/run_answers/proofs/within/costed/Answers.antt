use Rattle.std.proofs.Common.{refl, subst, sym}
use Rattle.route_engine.specs.Jobs.{IsWithin}
use Rattle.run_answers.proofs.within.costed.Goals as goal

pub returns : goal.returns
returns c = record {
  exact = refl;
  within = record {
    some = c.requires.within.some;
    few = c.requires.within.few;
    alternative = c.requires.within.alternative;
    labels = c.requires.within.labels;
    sources = c.requires.within.sources;
    destinations = c.requires.within.destinations;
  };
}
