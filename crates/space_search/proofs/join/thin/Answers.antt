use Rattle.std.proofs.Common.{◌<◌, length, sym, arith}
use Rattle.space_search.proofs.ThinLemmas.{thins-swapped}
use Rattle.space_search.proofs.join.thin.Goals as goal

pub supersedes-requires-clause-small_b : goal.supersedes-requires-clause-small_b
supersedes-requires-clause-small_b g c =
    let within : c.members.at < length c.members.members.items = omega (arith, c.members-test.true, c.len.ensures, c.members.members.ok.0) in
    (c.requires.each c.index.result.now (c.members.invariant.from c.index.result.now (c.members.at, within, sym c.index.ensures))).small

pub members-preserved-then-supersedes : goal.members-preserved-then-supersedes
members-preserved-then-supersedes g c =
    let within : c.members.at < length c.members.members.items = omega (arith, c.members-test.true, c.len.ensures, c.members.members.ok.0) in
    thins-swapped _ _ _ c.members.members.items c.swap_remove-gone.new.self.items c.members.at c.index.result.now
    c.swap_remove-gone.result c.members.invariant within c.index.ensures c.swap_remove-gone.ensures.value
    c.swap_remove-gone.ensures.items (c.supersedes.ensures.sound c.if-supersedes.true)
