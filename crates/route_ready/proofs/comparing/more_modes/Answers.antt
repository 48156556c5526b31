use Rattle.std.proofs.Common.{◌<◌, arith, subst, sym}
use Rattle.cost_model.proofs.ModeLemmas.{modes-step}
use Rattle.cost_model.specs.Facts.{AreFacts}
use Rattle.cost_model.specs.declared.facts.LinkFacts.{LinkFacts}
use Rattle.way_class.specs.Links.{links_of, links_of-sound}
use Rattle.route_ready.proofs.comparing.more_modes.Goals as goal

pub links-preserved : goal.links-preserved
links-preserved c =
    let links = links_of c.args.bound.now in
    let within : c.links.link < links.count = omega (arith, c.links-test.true, c.requires.within) in
    let sound : AreFacts c.facts-each.result =
    subst (λ (f : LinkFacts). AreFacts f) (sym c.facts-each.ensures.value) (links_of-sound c.args.bound.now c.links.link within) in
    record {
      within = omega (arith, c.links-test.true);
      modes_are = modes-step links.facts c.links.link _ c.links.found c.facts-each.result _ _ sound (omega arith)
          c.facts-each.ensures.value c.links.invariant.modes_are c.joined.ensures.exact c.joined-in-links.ensures.exact;
    }
