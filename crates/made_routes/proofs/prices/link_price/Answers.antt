use Rattle.std.proofs.Common.{sym, subst}
use Rattle.cost_model.specs.Facts.{AreFacts}
use Rattle.way_class.specs.Links.{links_of-sound}
use Rattle.made_routes.proofs.prices.link_price.Goals as goal

pub price-requires : goal.price-requires
price-requires c =
    record { facts = subst AreFacts (sym c.facts-facts.ensures.value) (links_of-sound c.args.bound.now c.args.link c.requires.there) }
