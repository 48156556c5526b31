use Rattle.std.proofs.Common.{rules}
use Rattle.route_http.proofs.FieldLemmas.{CountsOn-step, next_number}
use Rattle.route_http.proofs.fields.number_of.Goals as goal

pub digits-preserved : goal.digits-preserved
digits-preserved c =
    CountsOn-step c.args.text.now c.digits.byte-index c.digits.number c.saturating_add-number.result c.digits-test.true c.digits.invariant
    (search rules)
    (next_number c.saturating_add-number.result c.saturating_mul.result c.from.result _ _ c.saturating_add-number.ensures
    c.saturating_mul.ensures c.from.ensures)
