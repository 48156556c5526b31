use Rattle.certificate_text.proofs.LineLemmas.{leg-none, leg-uncut}
use Rattle.certificate_text.proofs.line.leg.Goals as goal

pub returns-in_default : goal.returns-in_default
returns-in_default c = record {
  exact = leg-uncut c.args.map.now c.args.text.now c.in_default.ensures.exact;
}

pub returns-in_default-2 : goal.returns-in_default-2
returns-in_default-2 c =
    let none = rw c.in_default-2.is at c.in_ok-walk.ensures.exact in
    record {
      exact = leg-none c.args.map.now c.args.text.now c.in-Some.found.0.now c.in-Some.found.1.now c.links-count.ensures.lawful
          c.in-Some.ensures.exact none;
    }
