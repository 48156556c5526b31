-- What crates above may cite of texts of certificates: those of one text are one.
pub use Rattle.certificate_text.proofs.RereadLemmas.{text-own}
pub use Rattle.certificate_text.proofs.WriteLemmas.{all-at, leg-at}
