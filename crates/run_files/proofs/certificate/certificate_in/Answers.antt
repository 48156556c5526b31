use Rattle.run_files.proofs.CertificateLemmas.{each-short}
use Rattle.run_files.proofs.certificate.certificate_in.Goals as goal

pub returns-in-Ok : goal.returns-in-Ok
returns-in-Ok c = record {
  exact = c.in-Ok.ensures.exact;
  fits = each-short c.in-Ok.certificate.legs.items c.in-Ok.ensures.few;
}
