use Rattle.std.proofs.Common.{◌≡◌, Bool, max, if◌then◌else◌, refl, subst}
use Rattle.elev_buffer.specs.Slots.{slots_of}
use Rattle.elev_buffer.proofs.slots.slots_of.Goals as goal

pub returns-then-asks_equal-clause-exact : goal.returns-then-asks_equal-clause-exact
unfolding slots_of
returns-then-asks_equal-clause-exact c =
    subst (λ (b : Bool). c.max.result ≡ (if b then max c.args.links 1048573 else c.args.links)) c.if-asks_equal.ensures.exact c.max.ensures

pub returns-else-asks_equal-clause-exact : goal.returns-else-asks_equal-clause-exact
unfolding slots_of
returns-else-asks_equal-clause-exact c =
    subst (λ (b : Bool). c.args.links ≡ (if b then max c.args.links 1048573 else c.args.links)) c.if-asks_equal.ensures.exact refl
