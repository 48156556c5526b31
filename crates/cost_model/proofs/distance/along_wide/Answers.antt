use Rattle.cost_model.proofs.NumberLemmas.{along-wide}
use Rattle.cost_model.proofs.distance.along_wide.Goals as goal

pub returns : goal.returns
returns c = record { exact = along-wide c.args.length c.args.rate c.ranges.rate c.requires.length c.requires.low c.requires.high }
