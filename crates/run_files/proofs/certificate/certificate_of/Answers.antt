use Rattle.std.proofs.Common.{ℕ, List, refl, subst}
use Rattle.run_files.proofs.StageLemmas.{then-goes, then-stops}
use Rattle.run_files.specs.Certificate.{IsCertificateIn}
use Rattle.run_files.proofs.certificate.certificate_of.Goals as goal

pub returns-in-Ok : goal.returns-in-Ok
returns-in-Ok g c =
    let named = subst (λ (word : ℕ). IsCertificateIn c.args.map.now word c.as_slice.result.now c.certificate_in.result)
    c.word.ensures.exact c.certificate_in.ensures.exact in
    let read = subst (λ (text : List ℕ). IsCertificateIn c.args.map.now c.args.file.now.word text c.certificate_in.result)
    c.as_slice.ensures.value named in
    record { taken = then-goes _ _ _ _ _ _ _ c.in-Ok.ensures.taken (read, refl); fits = c.certificate_in.ensures.fits }

pub returns-in-Err : goal.returns-in-Err
returns-in-Err g c = record { taken = then-stops _ _ _ _ _ _ c.in-Err.ensures.taken refl; fits = tt }
