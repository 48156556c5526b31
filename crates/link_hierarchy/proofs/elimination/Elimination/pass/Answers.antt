use Rattle.std.proofs.Common.{arith}
use Rattle.item_list.specs.Pages.{numbers_of}
use Rattle.link_hierarchy.proofs.EliminationLemmas.{laid-lists, numbers-counted, pass-fewer, passed}
use Rattle.link_hierarchy.proofs.elimination.Elimination.pass.Goals as goal

pub shared_at-self-requires-clause-outs : goal.shared_at-self-requires-clause-outs
shared_at-self-requires-clause-outs c =
    let lays = c.in_ok-lay.ensures.lays in
    laid-lists c.args._arcs.now c.args.self.now c.requires.on c.requires.more (numbers_of c.args.self.now.rows.outs.items)
    (numbers_of c.lay.new.rows.items) c.requires.on.out_lists
    (numbers-counted c.lay.new.rows.items c.args.self.now.rows.outs.items lays.counted) lays.here lays.others

pub shared_at-self-requires-clause-ins : goal.shared_at-self-requires-clause-ins
shared_at-self-requires-clause-ins c =
    let lays = c.in_ok-lay-2.ensures.lays in
    laid-lists c.args._arcs.now c.args.self.now c.requires.on c.requires.more (numbers_of c.args.self.now.rows.ins.items)
    (numbers_of c.lay-2.new.rows.items) c.requires.on.in_lists
    (numbers-counted c.lay-2.new.rows.items c.args.self.now.rows.ins.items lays.counted) lays.here lays.others

pub returns-clause-on : goal.returns-clause-on
returns-clause-on c =
    passed c.args._arcs.now c.args.self.now c.requires.on c.requires.more c.args._tail c.args._head c.shared_at-self.result
    c.lay.new.rows c.lay-2.new.rows c.lay.new.starts c.lay-2.new.starts c.lay.new.laid c.lay-2.new.laid c.requires.done (omega arith)
    c.in_ok-lay.ensures.lays c.in_ok-lay-2.ensures.lays c.shared_at-self.ensures.shared

pub returns-clause-fewer : goal.returns-clause-fewer
returns-clause-fewer c = pass-fewer c.args._arcs.now c.args.self.now c.requires.on c.requires.more
