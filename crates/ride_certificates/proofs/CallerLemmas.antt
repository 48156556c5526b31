-- What crates above may cite: a question has one setting and one list of nodes or none, and of what certifying gives each check
-- says yes.
pub use Rattle.ride_certificates.proofs.AgreeLemmas.{answer-yes}
pub use Rattle.ride_certificates.proofs.GroundLemmas.{legs-same, never-none, setting-same}
