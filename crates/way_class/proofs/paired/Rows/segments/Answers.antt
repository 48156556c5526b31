use Rattle.std.proofs.Common.{arith}
use Rattle.way_class.proofs.RowLemmas.{both-count}
use Rattle.way_class.proofs.paired.Rows.segments.Goals as goal

pub overflow_cast-result : goal.overflow_cast-result
overflow_cast-result c =
    let both = both-count c.self.inside.segments.items c.args.self.now c.self.view_is in
    record { fits = omega (arith, both, c.len.ensures, c.requires.within) }

pub returns : goal.returns
returns c =
    let both = both-count c.self.inside.segments.items c.args.self.now c.self.view_is in
    record { value = omega (arith, both, c.len.ensures); within = omega (arith, both, c.len.ensures, c.requires.within) }
