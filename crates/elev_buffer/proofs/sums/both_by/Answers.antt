use Rattle.std.proofs.Common.{◌≡◌, true, sym, ap, pos, ◌-ℤ◌, ℕ, ◌∙◌}
use Rattle.elev_buffer.specs.Covers.{label, terms}
use Rattle.elev_buffer.specs.Slots.{asks_equal}
use Rattle.elev_buffer.proofs.SumsLemmas.{both-equal, negative-back}
use Rattle.elev_buffer.proofs.sums.both_by.Goals as goal

pub returns-then-asks_equal : goal.returns-then-asks_equal
returns-then-asks_equal c =
    let by = terms c.args.modes.now c.args.kd c.args.ku in
    let a = label c.args.a.now (pos c.args.ca) in
    let asks : asks_equal by.modes ≡ true = sym c.asks_equal.ensures.exact ∙ c.if-asks_equal.true in
    record {
      exact = both-equal by a asks _
          (negative-back c.shared_both.result c.shared_both.ensures.within
          ∙ ap (λ (n : ℕ). pos 0 -ℤ pos n) c.shared_both.ensures.exact);
    }
