use Rattle.std.proofs.Common.{◌++◌, length, ap, ◌∙◌, arith}
use Rattle.std.specs.List.{join_by}
use Rattle.track_reply.specs.GeoJson.{walk_array}
use Rattle.track_reply.specs.Joined.{comma}
use Rattle.track_reply.proofs.ArrayLemmas.{joined-more}
use Rattle.track_reply.proofs.EarlierLemmas.{earlier-below, leg-within, walks-all}
use Rattle.track_reply.proofs.arrays.append_walks.Goals as goal

pub append_walk-requires : goal.append_walk-requires
append_walk-requires c = record {
  in_range = earlier-below c.args.earlier.now c.args.number (length c.args.map.now.links) c.legs.leg c.walk_at.result.now
      c.requires.in_range c.legs-test.true c.walk_at.ensures.exact;
}

pub legs-preserved : goal.legs-preserved
legs-preserved c =
    joined-more (walk_array c.args.map.now) _ c.legs.leg c.walk_at.result.now _ c.args.out.now.items c.legs.out.items _
    c.append_walk.new.out.items (leg-within c.args.earlier.now c.args.number _ c.legs-test.true) c.walk_at.ensures.exact
    c.legs.invariant c.in_ok-append_comma.ensures.exact c.in_ok-append_walk.ensures.exact

pub returns : goal.returns
returns c = record {
  exact = c.legs.invariant
      ∙ ap (λ walks. c.args.out.now.items ++ join_by (walk_array c.args.map.now) comma walks)
      (walks-all c.args.earlier.now c.args.number _ (omega (arith, c.legs-test.false, c.legs.auto.leg-end)));
}
