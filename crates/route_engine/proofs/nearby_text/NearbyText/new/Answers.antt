use Rattle.std.proofs.Common.{◌≡◌, ◌++◌, ℕ, List, Vec, ap, ◌∙◌}
use Rattle.std.specs.Vec.Iter.{into_iter_items}
use Rattle.std.specs.declared.alloc.Global.{Global}
use Rattle.route_engine.specs.Nearby.{lists_in}
use Rattle.route_engine.specs.NearbyTexts.{lists_text, reply_head}
use Rattle.route_engine.specs.Told.{source_by}
use Rattle.route_engine.proofs.NearbyWritingLemmas.{reply-whole}
use Rattle.route_ready.specs.World.{world_of}
use Rattle.route_engine.proofs.nearby_text.NearbyText.new.Goals as goal

pub returns-clause-comes : goal.returns-clause-comes
returns-clause-comes c =
    let form = c.args.told.now.form in
    let source = source_by (world_of c.args._world.now) c.args._ready.now c.args.told.now in
    let rest : into_iter_items c.into_iter.result ≡ c.args.found.lists.items =
    c.into_iter.ensures.rest ∙ ap (λ (lists : Vec (Vec (ℕ × ℕ) Global) Global). lists.items) c.into_parts-cost.ensures.lists in
    ap (λ (text : List ℕ). text ++ lists_text form source c.into_parts-cost.result.0 0 (lists_in (into_iter_items c.into_iter.result)))
    c.in_ok-text.ensures.exact
    ∙ ap (λ (cost : ℕ). reply_head form ++ lists_text form source cost 0 (lists_in (into_iter_items c.into_iter.result)))
    c.into_parts-cost.ensures.cost
    ∙ ap (λ (lists : List (Vec (ℕ × ℕ) Global)). reply_head form ++ lists_text form source c.args.found.cost 0 (lists_in lists)) rest
    ∙ reply-whole form source c.args.found
