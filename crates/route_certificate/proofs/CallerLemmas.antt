-- What crates above may cite.
pub use Rattle.route_certificate.proofs.WritableLemmas.{legs-more}
