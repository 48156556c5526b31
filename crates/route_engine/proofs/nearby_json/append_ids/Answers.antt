use Rattle.std.proofs.Common.{◌≡◌, ◌++◌, ℤ, SFits, w64, ap, arith, length, refl, ◌∙◌}
use Rattle.std.specs.Fmt.{signed_decimal}
use Rattle.std.proofs.lemmas.Int.{to_z-of_z}
use Rattle.route_engine.specs.NearbyAnswers.{near_id}
use Rattle.route_engine.proofs.RowLemmas.{items-more}
use Rattle.route_engine.proofs.nearby_json.append_ids.Goals as goal

pub nodes-preserved : goal.nodes-preserved
nodes-preserved c =
    let fits : SFits w64 c.node_id.result = search in
    items-more (near_id c.args.map.now) c.args.list.now c.nodes.at _ (0, 0) c.nodes.text.items c.append_comma.new.out.items
    c.append_signed.new.text.items _ (omega (arith, c.nodes-test.true, c.requires.within)) refl c.nodes.invariant
    c.in_ok-append_comma.ensures.exact
    (c.in_ok-append_signed.ensures.exact
    ∙ ap (λ (id : ℤ). c.append_comma.new.out.items ++ signed_decimal id)
    (to_z-of_z w64 c.node_id.result fits ∙ c.node_id.ensures.value))
