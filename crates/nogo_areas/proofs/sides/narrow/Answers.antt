use Rattle.std.proofs.Common.{◌≡◌, arith, unsigned_abs}
use Rattle.std.proofs.lemmas.Int.{ints}
use Rattle.nogo_areas.proofs.SideLemmas.{narrow_cosine-is}
use Rattle.nogo_areas.proofs.sides.narrow.Goals as goal

pub returns-clause-exact : goal.returns-clause-exact
returns-clause-exact c =
    let e : c.unsigned_abs.result ≡ unsigned_abs c.args.lat = omega (arith, ints) in
    rw (narrow_cosine-is (unsigned_abs c.args.lat), ← e) (c.saturating_sub.ensures)
