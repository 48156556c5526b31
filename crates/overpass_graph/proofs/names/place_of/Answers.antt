use Rattle.std.proofs.Common.{◌+◌, ◌-◌, ◌/◌, ◌∙◌, refl, ap, arith}
use Rattle.overpass_graph.specs.Links.{link_weight}
use Rattle.overpass_graph.proofs.WeightLemmas.{halving-less, halving-more}
use Rattle.overpass_graph.proofs.names.place_of.Goals as goal

pub halving-preserved-then-link_weight-wanted : goal.halving-preserved-then-link_weight-wanted
halving-preserved-then-link_weight-wanted c =
    let weighs = c.link_weight.ensures.value ∙ ap link_weight c.link.ensures.value in
    halving-less c.args.links.now.links c.args.wanted c.halving.low c.halving.high
    (c.halving.low + (c.halving.high - c.halving.low) / 2) _ c.requires.rising c.halving.invariant (omega arith) refl
    (omega (arith, weighs, c.if-link_weight-wanted.true))

pub halving-preserved : goal.halving-preserved
halving-preserved c =
    let weighs = c.link_weight.ensures.value ∙ ap link_weight c.link.ensures.value in
    halving-more c.args.links.now.links c.args.wanted c.halving.low c.halving.high
    (c.halving.low + (c.halving.high - c.halving.low) / 2) c.requires.rising c.halving.invariant (omega arith) (omega arith)
    (omega (arith, weighs, c.if-link_weight-wanted.false))
