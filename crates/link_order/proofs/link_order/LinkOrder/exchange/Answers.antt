use Rattle.std.proofs.Common.{◌<◌, length, ◌∙◌, arith}
use Rattle.std.proofs.lemmas.Grind.{get_or_default_zero}
use Rattle.link_order.proofs.OrderLemmas.{exchanged-order}
use Rattle.link_order.proofs.link_order.LinkOrder.exchange.Goals as goal

pub invariant_of-self : goal.invariant_of-self
invariant_of-self c =
    let first : c.args.first < length c.self.inside.links.items = omega (arith, c.if-p-len.false, c.len.ensures, c.self.inside.links.ok.0) in
    let second : c.args.second < length c.self.inside.links.items =
    omega (arith, c.if-q-len.false, c.len-else-p-len.ensures, c.self.inside.links.ok.0) in
    exchanged-order c.self.inside.links.items c.self.inside.places.items c.args.first c.args.second c.index-a.result.now c.index-b.result.now
    c.self.invariant first second
    (c.index-a.ensures ∙ get_or_default_zero c.self.inside.links.items c.args.first c.index-a.result.now first)
    (c.index-b.ensures ∙ get_or_default_zero c.self.inside.links.items c.args.second c.index-b.result.now second)
