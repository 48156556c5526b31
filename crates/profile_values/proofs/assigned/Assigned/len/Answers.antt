use Rattle.std.proofs.Common.{◌≡◌, ◌∙◌, ap, sym, length, arith}
use Rattle.profile_values.proofs.AssignedLemmas.{zip-length}
use Rattle.profile_values.proofs.assigned.Assigned.len.Goals as goal

pub returns : goal.returns
returns c =
    let long : length c.args.self.now ≡ length c.self.inside.names =
    ap length (sym c.self.view_is) ∙ zip-length c.self.inside.names c.self.inside.numbers.items c.self.invariant in
    record { value = c.len.ensures.value ∙ sym long; fits = omega (arith, long, c.len.ensures.fits) }
