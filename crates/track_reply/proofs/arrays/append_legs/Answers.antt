use Rattle.std.proofs.Common.{◌++◌, List, ℕ, length, subst, sym, ap, ◌∙◌}
use Rattle.track_legs.specs.Rows.{AreBelow}
use Rattle.track_legs.specs.declared.track.Leg.{Leg}
use Rattle.track_reply.specs.GeoJson.{walk_array}
use Rattle.track_reply.proofs.ArrayLemmas.{joined-more}
use Rattle.track_reply.proofs.BelowLemmas.{leg-below}
use Rattle.track_reply.proofs.arrays.append_legs.Goals as goal

pub append_walk-requires : goal.append_walk-requires
append_walk-requires c =
    let count = length c.args.map.now.links in
    let below = leg-below count c.args.legs.now c.legs.place c.index-legs-place.result c.requires.in_range c.legs-test.true
    c.index-legs-place.is in
    let same = c.as_slice.ensures.value ∙ ap (λ (leg : Leg). leg.links) (sym c.index-legs-place.is) in
    record { in_range = subst (λ (walk : List ℕ). AreBelow count walk) (sym same) below }

pub legs-preserved : goal.legs-preserved
legs-preserved c =
    let same = c.as_slice.ensures.value ∙ ap (λ (leg : Leg). leg.links) (sym c.index-legs-place.is) in
    joined-more (λ (leg : Leg). walk_array c.args.map.now leg.links) c.args.legs.now c.legs.place c.index-legs-place.result _
    c.args.out.now.items c.legs.out.items _ c.append_walk.new.out.items c.legs-test.true c.index-legs-place.is c.legs.invariant
    c.in_ok-append_comma.ensures.exact
    (c.in_ok-append_walk.ensures.exact ∙ ap (λ walk. c.append_comma.new.out.items ++ walk_array c.args.map.now walk) same)
