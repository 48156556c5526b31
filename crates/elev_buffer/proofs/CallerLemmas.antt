-- What crates above may cite of steps, of covering, of slots, of superseding, of the three numbers of a label, and of products with a
-- price.
pub use Rattle.elev_buffer.proofs.StepLemmas.{step-positive, step-within, step-paid, step-light, step-heavy, step-sum, step-grows, step-slowly}
pub use Rattle.elev_buffer.proofs.CoverLemmas.{covers-refl, covers-trans, covers-cheaper, covers-flat, weights-kept, covers-kept, covers-sums}
pub use Rattle.elev_buffer.proofs.TestLemmas.{covers-test}
pub use Rattle.elev_buffer.proofs.SlotLemmas.{slot-covered, slot-own, slot-within, slots-enough}
pub use Rattle.elev_buffer.proofs.NewerLemmas.{supersedes-sound, supersedes-itself}
pub use Rattle.elev_buffer.proofs.WholeLemmas.{supersedes-whole}
pub use Rattle.elev_buffer.proofs.ProductLemmas.{mul-grows}
pub use Rattle.elev_buffer.proofs.SumsLemmas.{covers-below}
