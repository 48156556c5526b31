use Rattle.std.proofs.Common.{rules}
use Rattle.fixed_num.specs.Coordinate.{coordinate_of}
use Rattle.fixed_num.proofs.coordinate.coordinate.Goals as goal

pub returns-in-None : goal.returns-in-None
unfolding coordinate_of
returns-in-None c = search rules

pub returns-in-Some : goal.returns-in-Some
unfolding coordinate_of
returns-in-Some c = search rules
