use Rattle.std.proofs.Common.{w64, rules, arith}
use Rattle.std.proofs.lemmas.Int.{ints, to_z-of_z}
use Rattle.cost_model.proofs.NumberLemmas.{turn-fits, turn-narrow}
use Rattle.cost_model.proofs.links.priced.Goals as goal

pub overflow_mul-result : goal.overflow_mul-result
overflow_mul-result c =
    let fits =
    turn-fits c.args.turncost c.args.cosine c.ranges.turncost c.requires.turncost.low (search (rules, ints)) c.requires.cosine in
    rw (to_z-of_z w64 c.args.cosine c.ranges.cosine) (omega (arith, fits))

pub returns-then-turncost-le4000000000000 : goal.returns-then-turncost-le4000000000000
returns-then-turncost-le4000000000000 c =
    record {
      exact =
          rw (to_z-of_z w64 c.args.cosine c.ranges.cosine)
          (turn-narrow c.args.turncost c.args.cosine c.ranges.turncost c.requires.turncost.low (search (rules, ints)) c.requires.cosine);
    }
