use Rattle.certificate_text.proofs.LineLemmas.{head-none}
use Rattle.certificate_text.proofs.line.head.Goals as goal

pub returns-in-None : goal.returns-in-None
returns-in-None c = record {
  exact = head-none c.args.text.now c.in_default.ensures.exact c.in-None.ensures.exact;
}
