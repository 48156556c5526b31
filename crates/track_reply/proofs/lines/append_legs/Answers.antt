use Rattle.std.proofs.Common.{length}
use Rattle.track_reply.specs.Csv.{leg_line}
use Rattle.track_reply.proofs.BelowLemmas.{leg-below}
use Rattle.track_reply.proofs.JoinLemmas.{texts-more}
use Rattle.track_reply.proofs.lines.append_legs.Goals as goal

pub append_leg-requires : goal.append_leg-requires
append_leg-requires c = record {
  in_range = leg-below (length c.args.map.now.links) c.args.legs.now c.legs.place c.index-legs-place.result c.requires.in_range
      c.legs-test.true c.index-legs-place.is;
}

pub legs-preserved : goal.legs-preserved
legs-preserved c =
    texts-more (leg_line c.args.map.now) c.args.legs.now c.legs.place c.index-legs-place.result _ c.args.out.now.items c.legs.out.items
    c.append_leg.new.out.items c.legs-test.true c.index-legs-place.is c.legs.invariant c.in_ok-append_leg.ensures.exact
