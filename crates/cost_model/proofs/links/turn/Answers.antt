use Rattle.std.proofs.Common.{pos, SFits, w64, arith}
use Rattle.std.proofs.lemmas.Int.{fits_signed_from_abs}
use Rattle.cost_model.proofs.NumberLemmas.{cost-fits, same-bits}
use Rattle.cost_model.proofs.LinkLemmas.{turn_price-free}
use Rattle.cost_model.proofs.links.turn.Goals as goal

pub returns-then-facts-eq0 : goal.returns-then-facts-eq0
returns-then-facts-eq0 c =
    let none : SFits w64 (pos 0) = fits_signed_from_abs w64 _ (omega arith) in
    record { exact = turn_price-free _ _ (same-bits _ (pos 0) (cost-fits _ c.requires.facts.turncost) none c.if-facts-eq0.true) }
