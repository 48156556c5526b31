use Rattle.std.proofs.Common.{◌∙◌, ◌+◌, ◌<◌, ◌&&◌, sym, ap, drop, length, refl, arith}
use Rattle.std.proofs.lemmas.Option.{slice_get_read}
use Rattle.map_tables.specs.Draft.{same_members}
use Rattle.map_tables.proofs.MemberLemmas.{same_members-step}
use Rattle.map_tables.proofs.members.are_same.Goals as goal

pub returns-then-not-is_same : goal.returns-then-not-is_same
returns-then-not-is_same c =
    let below : c.each.i < length c.args.others.now = omega (arith, c.each-test.true, c.if-len-others.false, c.len.ensures.value) in
    record {
      value = sym (sym c.each.invariant
          ∙ same_members-step c.args.members.now c.args.others.now c.each.i _ _ c.at.ensures.value
          (slice_get_read c.args.others.now _ c.each.i c.index-others-i.result refl below c.index-others-i.is)
          ∙ ap (λ b. b && same_members (drop (c.each.i + 1) c.args.members.now) (drop (c.each.i + 1) c.args.others.now))
          (sym c.is_same.ensures.value ∙ c.if-not-is_same.true));
    }

pub each-preserved : goal.each-preserved
each-preserved c =
    let below : c.each.i < length c.args.others.now = omega (arith, c.each-test.true, c.if-len-others.false, c.len.ensures.value) in
    sym (same_members-step c.args.members.now c.args.others.now c.each.i _ _ c.at.ensures.value
    (slice_get_read c.args.others.now _ c.each.i c.index-others-i.result refl below c.index-others-i.is)
    ∙ ap (λ b. b && same_members (drop (c.each.i + 1) c.args.members.now) (drop (c.each.i + 1) c.args.others.now))
    (sym c.is_same.ensures.value ∙ c.if-not-is_same.false))
    ∙ c.each.invariant
