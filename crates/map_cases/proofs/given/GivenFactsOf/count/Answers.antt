use Rattle.std.proofs.Common.{arith}
use Rattle.map_cases.proofs.given.GivenFactsOf.count.Goals as goal

pub overflow_cast-result : goal.overflow_cast-result
overflow_cast-result c = record { fits = omega (arith, c.args.self.now.few, c.args.self.now.facts.ok.0) }
