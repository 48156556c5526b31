use Rattle.certificate_text.proofs.LineLemmas.{no-line}
use Rattle.certificate_text.proofs.line.read_line.Goals as goal

pub returns-in-None : goal.returns-in-None
returns-in-None c = record {
  exact = no-line c.args.map.now c.args.text.now c.in_default.ensures.exact c.in_default-behind.ensures.exact
      c.in_default-behind-2.ensures.exact c.in_default-behind-3.ensures.exact c.in-None.ensures.exact;
}
