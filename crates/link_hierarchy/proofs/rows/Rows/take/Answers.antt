use Rattle.std.proofs.Common.{get_or}
use Rattle.std.proofs.lemmas.List.{get_or_default}
use Rattle.item_list.specs.Pages.{numbers_of}
use Rattle.link_hierarchy.specs.Arcs.{arc_from}
use Rattle.link_hierarchy.proofs.RowLemmas.{arc-there, held-more}
use Rattle.link_hierarchy.proofs.rows.Rows.take.Goals as goal

pub hold-requires-clause-in_range : goal.hold-requires-clause-in_range
hold-requires-clause-in_range c =
    c.requires.in_range _ _ _ (arc-there c.args.arcs.now c.args.self.now.taken (arc_from 0 0 0) c.requires.there)

pub returns-clause-on : goal.returns-clause-on
returns-clause-on c =
    held-more c.args.self.now.nodes (numbers_of c.hold.new.outs.items) (numbers_of c.hold.new.ins.items) c.args.arcs.now
    c.args.self.now.taken (get_or c.args.arcs.now c.args.self.now.taken (arc_from 0 0 0)) c.in_ok-hold.ensures.rows c.requires.there
    (get_or_default c.args.arcs.now c.args.self.now.taken (arc_from 0 0 0) _ c.requires.there) c.in_ok-hold.ensures.held
