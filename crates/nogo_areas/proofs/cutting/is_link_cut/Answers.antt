use Rattle.nogo_areas.proofs.CutLemmas.{link-cut}
use Rattle.nogo_areas.proofs.cutting.is_link_cut.Goals as goal

pub returns : goal.returns
returns c = record {
  exact = link-cut c.args.map.now c.args.circles.now c.args.link c.link-found.result _ _ c.touch.result c.link-found.ensures.value
      c.node_spot.ensures.value c.node_spot-2.ensures.value c.touch.ensures.exact;
}
