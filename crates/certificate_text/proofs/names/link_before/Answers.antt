use Rattle.certificate_text.proofs.PartLemmas.{link-unended}
use Rattle.certificate_text.proofs.names.link_before.Goals as goal

pub returns-in_default-behind_byte : goal.returns-in_default-behind_byte
returns-in_default-behind_byte c = record {
  exact = link-unended c.args.map.now c.args.text.now c.args.byte c.in-Some.found.0 c.in-Some.found.1.now c.links-count.ensures.lawful
      c.in-Some.ensures.exact c.in_default-behind_byte.ensures.exact;
}
