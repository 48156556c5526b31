use Rattle.std.proofs.Common.{sym}
use Rattle.std.proofs.lemmas.Result.{on_ok_weaker}
use Rattle.overpass_graph.proofs.LayLemmas.{links_at-both}
use Rattle.overpass_graph.proofs.lay.lay_segment.Goals as goal

pub returns : goal.returns
returns c =
    let both = links_at-both c.args.tables.now.draft.nodes c.args.numbers.now c.args.way c.args.segment c.args.a c.args.b c.arrow.result _ _
    c.requires.a_in c.requires.b_in c.if-a-b.false c.node_spot.ensures.value c.node_spot-2.ensures.value c.arrow.ensures.exact
    (sym c.if-is_none.ensures) in
    record {
      links = rw both (on_ok_weaker c.push.result (λ lays. lays _ c.requires.sound
          (c.requires.numbers.in_range c.args.a c.requires.a_in) (c.requires.numbers.in_range c.args.b c.requires.b_in))
          c.push.ensures.value);
    }
