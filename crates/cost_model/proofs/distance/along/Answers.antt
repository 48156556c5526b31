use Rattle.std.proofs.Common.{rules}
use Rattle.std.proofs.lemmas.Int.{ints}
use Rattle.cost_model.proofs.NumberLemmas.{along-narrow}
use Rattle.cost_model.proofs.distance.along.Goals as goal

pub returns-then-rate-le90000000000 : goal.returns-then-rate-le90000000000
returns-then-rate-le90000000000 c =
    record { exact = along-narrow c.args.length c.args.rate c.ranges.rate c.requires.length c.requires.low (search (rules, ints)) }
