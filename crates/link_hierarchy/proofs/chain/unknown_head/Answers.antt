use Rattle.std.proofs.Common.{◌≡◌, ◌<◌, inl, inr, length, ◌∙◌, sym, ap, arith}
use Rattle.std.proofs.lemmas.Bool.{cases_eq}
use Rattle.std.proofs.lemmas.List.{get_or_read}
use Rattle.link_hierarchy.specs.Potentials.{at}
use Rattle.link_hierarchy.specs.Topologies.{IsPair, IsPlace, head_of, up_of}
use Rattle.link_hierarchy.specs.declared.limits.TheConstants.{NONE}
use Rattle.link_hierarchy.proofs.chain.unknown_head.Goals as goal

pub returns-then-get : goal.returns-then-get
returns-then-get c =
    let place : IsPlace (up_of c.args.topology.now) c.args.node c.places.place = record {
      node_in = c.requires.in_range;
      from_start = omega (arith, c.out_start-place.ensures.value, c.places.auto.place);
      to_end = omega (arith, c.out_end-place-end.ensures.value, c.places-test.true);
    } in
    let pair : IsPair (up_of c.args.topology.now) c.args.node c.head-high.result c.places.place =
    record { at = place; is = sym c.head-high.ensures.value } in
    let is = c.out_start-place.ensures.lawful.out in
    let high_in = is.within c.args.node c.head-high.result c.places.place pair in
    let inside : c.head-high.result < length c.args.over.now = omega (arith, high_in, c.requires.counted) in
    record {
      value = (
        is.rises c.args.node c.head-high.result c.places.place pair,
        high_in,
        sym (get_or_read c.args.over.now c.head-high.result c.get.result inside c.get.ensures.value NONE) ∙ c.if-get.true,
      );
    }

pub places-preserved : goal.places-preserved
places-preserved c high place pair below unknown =
    elim (cases_eq place c.places.place) [
      | inr other ↦ c.places.invariant high place pair (omega (arith, other, below)) unknown
      | inl same ↦
          let high_is : c.head-high.result ≡ high = c.head-high.ensures.value ∙ ap (head_of (up_of c.args.topology.now)) (sym same) ∙ pair.is in
          let high_in = c.out_start-place.ensures.lawful.out.within c.args.node high place pair in
          let inside : c.head-high.result < length c.args.over.now = omega (arith, high_in, high_is, c.requires.counted) in
          let read = get_or_read c.args.over.now c.head-high.result c.get.result inside c.get.ensures.value NONE in
          absurd (c.if-get.false (read ∙ ap (at c.args.over.now) high_is ∙ unknown))
    ]
