use Rattle.std.proofs.Common.{◌≡◌, pos, ◌-ℤ◌, ◌*ℤ◌, ◌<ℤ◌, ◌∙◌, SFits, w64, sym}
use Rattle.std.specs.Int.{int_div_euclid}
use Rattle.std.proofs.lemmas.Int.{to_z-of_z}
use Rattle.elev_buffer.proofs.StepLemmas.{weight_of-below, weight_of-whole, weight_of-part, full_fits}
use Rattle.elev_buffer.proofs.WordLemmas.{order-holds, order-fails}
use Rattle.elev_buffer.proofs.steps.weight_from.Goals as goal

pub returns-then-full-limits : goal.returns-then-full-limits
returns-then-full-limits c =
    let fits = full_fits c.args.limits.now c.args.full c.requires.limits c.requires.full in
    let below = order-holds _ _ (simp (to_z-of_z, c.ranges.full, fits.penalty) at c.if-full-limits.true) in
    record { exact = sym (weight_of-below _ _ _ below) }

pub returns-then-r-full : goal.returns-then-r-full
returns-then-r-full c =
    let fits = full_fits c.args.limits.now c.args.full c.requires.limits c.requires.full in
    let above = order-fails _ _ (simp (to_z-of_z, c.ranges.full, fits.penalty) at c.if-full-limits.false) in
    let whole = order-holds _ _ (simp (to_z-of_z, c.ranges.r, c.ranges.full, fits.penalty, fits.over) at c.if-r-full.true) in
    record { exact = sym (weight_of-whole _ _ _ above whole) }

pub returns-else-r-full : goal.returns-else-r-full
returns-else-r-full c =
    let l = c.args.limits.now in
    let fits = full_fits l c.args.full c.requires.limits c.requires.full in
    let made : SFits w64 c.share.result = record { sfits = c.share.type_inv } in
    let is : c.share.result ≡ int_div_euclid (pos 1000000 *ℤ (c.args.full -ℤ l.penalty)) c.args.r =
    simp (to_z-of_z, c.ranges.r, c.ranges.full, fits.penalty, fits.over) at c.share.ensures.exact in
    let above : l.penalty <ℤ c.args.full =
    order-fails _ _ (simp (to_z-of_z, c.ranges.full, fits.penalty) at c.if-full-limits.false) in
    let part : (c.args.full -ℤ l.penalty) <ℤ c.args.r =
    order-fails _ _ (simp (to_z-of_z, c.ranges.r, c.ranges.full, fits.penalty, fits.over) at c.if-r-full.false) in
    record { exact = simp (to_z-of_z, made) (is ∙ sym (weight_of-part l c.args.r c.args.full above part)) }
