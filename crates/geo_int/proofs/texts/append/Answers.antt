use Rattle.std.proofs.Common.{arith}
use Rattle.geo_int.proofs.texts.append.Goals as goal

pub overflow_add-sign : goal.overflow_add-sign
overflow_add-sign c = record { fits = omega (arith, c.requires.sign, c.requires.whole) }

pub overflow_add-sign-2 : goal.overflow_add-sign-2
overflow_add-sign-2 c = record { fits = omega (arith, c.requires.sign, c.requires.whole, c.requires.decimals) }
