use Rattle.std.proofs.Common.{length}
use Rattle.cost_table.specs.Reaches.{cost_in}
use Rattle.route_engine.proofs.ListingLemmas.{block-inside}
use Rattle.route_engine.proofs.listing.look.Goals as goal

pub bounds-marks-node : goal.bounds-marks-node
bounds-marks-node c = block-inside (cost_in c.args.reach.now) c.args.node c.args.nodes c.args.marks.now c.requires.there c.requires.blocks
