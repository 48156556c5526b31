use Rattle.std.proofs.Common.{refl, arith}
use Rattle.cost_model.specs.Modes.{modes_before}
use Rattle.route_ready.proofs.comparing.Comparing.new.Goals as goal

pub returns-clause-begins : goal.returns-clause-begins
unfolding modes_before
returns-clause-begins c = record { within = omega arith; modes_are = refl }
