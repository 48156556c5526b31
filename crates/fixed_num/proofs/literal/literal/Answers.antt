use Rattle.std.proofs.Common.{rules}
use Rattle.fixed_num.specs.Literal.{literal_of}
use Rattle.fixed_num.proofs.literal.literal.Goals as goal

pub returns-in-None : goal.returns-in-None
unfolding literal_of
returns-in-None c = search rules

pub returns-in-Some : goal.returns-in-Some
unfolding literal_of
returns-in-Some c = search rules
