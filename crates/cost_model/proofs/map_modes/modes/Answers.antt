use Rattle.std.proofs.Common.{◌≡◌, ◌<◌, refl, arith}
use Rattle.cost_model.specs.Facts.{AreFacts}
use Rattle.cost_model.specs.Modes.{modes_before}
use Rattle.cost_model.proofs.ModeLemmas.{modes-allow, modes-step}
use Rattle.cost_model.proofs.map_modes.modes.Goals as goal

pub links-init : goal.links-init
unfolding modes_before
links-init g c = refl

pub links-preserved : goal.links-preserved
links-preserved g c =
    let within : c.links.link < (g.F.FactsOf.links c.args.facts.now).count = rw (← c.count-link-end.ensures.value) c.links-test.true in
    let sound : AreFacts c.facts-each.result = rw c.facts-each.ensures.value (g.met.F.FactsOf.sound c.args.facts.now c.links.link within) in
    modes-step (g.F.FactsOf.links c.args.facts.now).facts c.links.link _ c.links.found c.facts-each.result _ _ sound (omega arith)
    c.facts-each.ensures.value
    c.links.invariant c.joined.ensures.exact c.joined-in-links.ensures.exact

pub returns-clause-allows : goal.returns-clause-allows
returns-clause-allows g c = λ link h.
    let end : c.links.link ≡ (g.F.FactsOf.links c.args.facts.now).count =
    omega (arith, c.links-test.false, c.links.auto.link-end, c.count-link-end.ensures.value) in
    rw (c.links.invariant) (modes-allow (g.F.FactsOf.links c.args.facts.now).facts c.links.link link (omega (arith, end, h)))
