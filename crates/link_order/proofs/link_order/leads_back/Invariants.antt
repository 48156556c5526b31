use Rattle.link_order.specs.Orders.{LeadsBack}
use Rattle.link_order.proofs.link_order.leads_back.Given as goal

abbrev pub invariant-places : goal.invariant-places
invariant-places l = LeadsBack l.there l.back l.place
