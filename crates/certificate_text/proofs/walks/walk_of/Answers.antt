use Rattle.item_list.proofs.ListLemmas.{some_from_test}
use Rattle.certificate_text.proofs.WalkLemmas.{walking-lost, walking-next, walking-other}
use Rattle.certificate_text.proofs.walks.walk_of.Goals as goal

pub returns-in_default : goal.returns-in_default
returns-in_default c = record {
  exact = walking-other c.args.map.now c.args.text.now c.links.walk.items c.links.rest.now c.links.invariant
      (some_from_test c.links.rest.now c.links-test.ensures) c.in_default.ensures.exact;
}

pub returns-in_default-link_at : goal.returns-in_default-link_at
returns-in_default-link_at c = record {
  exact = walking-lost c.args.map.now c.args.text.now c.links.walk.items c.links.rest.now c.in-Some.named.now
      c.links-count.ensures.lawful c.links.invariant c.in-Some.ensures.exact c.in_default-link_at.ensures.exact;
}

pub links-preserved : goal.links-preserved
links-preserved c =
    walking-next c.args.map.now c.args.text.now c.links.walk.items c.links.rest.now c.in-Some.named.now
    c.links-count.ensures.lawful c.links.invariant c.in-Some.ensures.exact c.in-Some-link_at.found.0 c.in-Some-link_at.found.1.now
    c.push.new.self.items c.in-Some-link_at.ensures.exact c.in_ok-push.ensures.items
