use Rattle.std.proofs.Common.{arith}
use Rattle.std.proofs.lemmas.Int.{ints, to_z-of_z}
use Rattle.elev_buffer.proofs.NewerLemmas.{buffer-fits}
use Rattle.elev_buffer.proofs.WordLemmas.{buffer-back}
use Rattle.elev_buffer.proofs.orders.prices.Goals as goal

pub price_of-requires-clause-rate : goal.price_of-requires-clause-rate
price_of-requires-clause-rate c = buffer-back _ c.requires.down_rate

pub price_of-requires-clause-first : goal.price_of-requires-clause-first
price_of-requires-clause-first c = buffer-back _ c.requires.first.down

pub price_of-requires-clause-second : goal.price_of-requires-clause-second
price_of-requires-clause-second c = buffer-back _ c.requires.second.down

pub price_of-requires-2 : goal.price_of-requires-2
price_of-requires-2 c =
    record {
      rate = buffer-back _ c.requires.up_rate;
      first = buffer-back _ c.requires.first.up;
      second = buffer-back _ c.requires.second.up;
    }

pub returns-clause-exact : goal.returns-clause-exact
returns-clause-exact c =
    let a = c.requires.first in
    let b = c.requires.second in
    let down = simp (to_z-of_z, c.ranges.kd, buffer-fits _ a.down, buffer-fits _ b.down) at c.price_of.ensures.exact in
    let up = simp (to_z-of_z, c.ranges.ku, buffer-fits _ a.up, buffer-fits _ b.up) at c.price_of-2.ensures.exact in
    omega (arith, ints, down, up)
