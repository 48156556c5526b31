use Rattle.std.proofs.Common.{◌++◌, length, ap, ◌∙◌, arith}
use Rattle.std.specs.List.{flat_map}
use Rattle.track_reply.specs.Csv.{alternative_lines, earlier_line}
use Rattle.track_reply.proofs.EarlierLemmas.{earlier-below, leg-within, walks-all}
use Rattle.track_reply.proofs.JoinLemmas.{texts-more}
use Rattle.track_reply.proofs.lines.append_alternative.Goals as goal

pub append_earlier_leg-requires : goal.append_earlier_leg-requires
append_earlier_leg-requires c = record {
  in_range = earlier-below c.args.earlier.now c.args.number (length c.args.map.now.links) c.legs.leg c.walk_at.result.now
      c.requires.in_range c.legs-test.true c.walk_at.ensures.exact;
}

pub legs-preserved : goal.legs-preserved
legs-preserved c =
    texts-more (earlier_line c.args.map.now c.args.number) _ c.legs.leg c.walk_at.result.now _ c.args.out.now.items
    c.legs.out.items c.append_earlier_leg.new.out.items (leg-within c.args.earlier.now c.args.number _ c.legs-test.true)
    c.walk_at.ensures.exact c.legs.invariant c.in_ok-append_earlier_leg.ensures.exact

pub returns : goal.returns
unfolding alternative_lines
returns c = record {
  exact = c.legs.invariant
      ∙ ap (λ walks. c.args.out.now.items ++ flat_map (earlier_line c.args.map.now c.args.number) walks)
      (walks-all c.args.earlier.now c.args.number _ (omega (arith, c.legs-test.false, c.legs.auto.leg-end)));
}
