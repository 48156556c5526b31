use Rattle.std.proofs.Common.{◌≡◌, ◌<◌, ◌∙◌, length, get_or, sym, ap, arith}
use Rattle.overpass_graph.specs.Links.{link_weight}
use Rattle.overpass_graph.specs.Maps.{no_link}
use Rattle.overpass_graph.proofs.WeightLemmas.{weight-none}
use Rattle.overpass_graph.proofs.names.find.Goals.{else-place-len-via-then-place-len+else-link_weight-wanted, else-place-len-via-else-place-len}
use Rattle.overpass_graph.proofs.names.find.Goals as goal

pub returns-else-place-len : goal.returns-else-place-len
returns-else-place-len c =
    let other : c.place_of-place.result < length c.args.links.now.links →
    link_weight (get_or c.args.links.now.links c.place_of-place.result no_link) ≡ c.weight-wanted.result → ⊥ =
    elim c.else-place-len.branch [
      | else-place-len-via-then-place-len+else-link_weight-wanted w ↦ λ below same.
          absurd (w.if-link_weight-wanted.false (w.link_weight.ensures.value ∙ ap link_weight w.link.ensures.value ∙ same))
      | else-place-len-via-else-place-len w ↦ λ below same. absurd (omega (arith, w.if-place-len.false, c.len.ensures.value))
    ] in
    record {
      exact = λ link below same.
          weight-none c.args.links.now.links c.weight-wanted.result c.place_of-place.result c.requires.rising
          c.place_of-place.ensures.exact other link below (same ∙ sym c.weight-wanted.ensures.value);
    }
