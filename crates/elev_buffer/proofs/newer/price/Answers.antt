use Rattle.std.proofs.Common.{rules}
use Rattle.std.proofs.lemmas.Int.{to_z-of_z}
use Rattle.elev_buffer.proofs.WordLemmas.{ProductFits, product_fits}
use Rattle.elev_buffer.proofs.newer.price.Goals as goal

-- the product is computed exactly
fits : (c : goal.Start) → ProductFits c.args.rate c.args.buffer
fits c = product_fits _ _ c.requires.rate c.requires.buffer

pub overflow_cast-result : goal.overflow_cast-result
overflow_cast-result c = simp (to_z-of_z, c.ranges.rate) (search rules, (fits c).rate_fits)

pub overflow_cast-result-2 : goal.overflow_cast-result-2
overflow_cast-result-2 c = simp (to_z-of_z, c.ranges.buffer) (search rules, (fits c).buffer_fits)

pub overflow_mul-result : goal.overflow_mul-result
overflow_mul-result c = simp (to_z-of_z, c.ranges.rate, c.ranges.buffer) (fits c).product

pub returns : goal.returns
returns c = simp (to_z-of_z, c.ranges.rate, c.ranges.buffer) (record { exact = (fits c).exact; within = (fits c).within })
