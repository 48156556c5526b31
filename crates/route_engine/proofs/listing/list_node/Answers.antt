use Rattle.std.proofs.Common.{sym}
use Rattle.cost_table.specs.Reaches.{cost_in}
use Rattle.route_engine.proofs.ListingLemmas.{listed-less, listed-more}
use Rattle.route_engine.proofs.listing.list_node.Goals as goal

pub returns-in_ok-push-in-Some : goal.returns-in_ok-push-in-Some
returns-in_ok-push-in-Some c = record {
  listed = listed-more (cost_in c.args.reach.now) c.args.node c.in-Some.cost c.args.list.now.items c.push.new.self.items
      (sym c.in-Some.ensures.value) c.in_ok-push-in-Some.ensures.items c.requires.listed;
}

pub returns-in-None : goal.returns-in-None
returns-in-None c = record {
  listed = listed-less (cost_in c.args.reach.now) c.args.node c.args.list.now.items (sym c.in-None.ensures.value) c.requires.listed;
}
