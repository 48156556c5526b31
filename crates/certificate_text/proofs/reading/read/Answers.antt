use Rattle.std.proofs.Common.{sym, subst}
use Rattle.certificate_text.specs.Texts.{ReadsText}
use Rattle.certificate_text.proofs.ReadLemmas.{headless, read-short}
use Rattle.certificate_text.proofs.RereadLemmas.{reread, reread-refused}
use Rattle.certificate_text.proofs.reading.read.Goals as goal

pub returns-in-Some-clause-few : goal.returns-in-Some-clause-few
returns-in-Some-clause-few c =
    read-short c.args.map.now c.args.text.now c.read_lines.result
    (subst (λ t. ReadsText c.args.map.now t c.read_lines.result) (sym c.in-Some.ensures.exact.1) c.read_lines.ensures.exact)
    c.requires.fits

pub returns-in-Some-clause-reread : goal.returns-in-Some-clause-reread
returns-in-Some-clause-reread c = λ value fits same.
    reread c.args.map.now c.args.text.now value c.read_lines.result c.links-count.ensures.lawful fits same
    (subst (λ t. ReadsText c.args.map.now t c.read_lines.result) (sym c.in-Some.ensures.exact.1) c.read_lines.ensures.exact)

pub returns-in-None-clause-exact : goal.returns-in-None-clause-exact
returns-in-None-clause-exact c = headless c.args.map.now c.args.text.now c.in-None.ensures.exact

pub returns-in-None-clause-reread : goal.returns-in-None-clause-reread
returns-in-None-clause-reread c = λ value fits same.
    absurd (reread-refused c.args.map.now c.args.text.now value 1 c.links-count.ensures.lawful fits same
    (headless c.args.map.now c.args.text.now c.in-None.ensures.exact))
