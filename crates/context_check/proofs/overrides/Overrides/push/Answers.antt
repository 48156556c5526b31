use Rattle.std.proofs.Common.{◌≡◌, ◌∙◌, ◌+◌, ◌<◌, ◌^◌, false, length, ap, arith, is_ok}
use Rattle.context_check.specs.Overrides.{is_overridden}
use Rattle.context_check.proofs.OverrideLemmas.{AreOverrides-push}
use Rattle.context_check.proofs.overrides.Overrides.push.Goals as goal

pub invariant_of-self : goal.invariant_of-self
invariant_of-self c =
    let old = c.self.inside.items in
    let fresh : is_overridden old c.args.item.0 ≡ false = ap (λ os. is_overridden os c.args.item.0) c.self.view_is ∙ c.requires.new in
    let few : length old + 1 < 2 ^ 32 = omega (arith, c.len.ensures.value, c.if-len-ge-MOST_OVERRIDES.false) in
    AreOverrides-push (is_ok c.push.result) old c.push.new.self c.args.item c.push.ensures.value c.self.invariant fresh few
