use Rattle.std.proofs.Common.{◌≡◌, ◌++◌, List, ℕ, ap, append_assoc, ◌∙◌}
use Rattle.std.specs.Prelude.{codes}
use Rattle.std.proofs.lemmas.Result.{on_ok_weaker}
use Rattle.route_engine.specs.NearbyAnswers.{asked_part, feature_name}
use Rattle.route_engine.specs.NearbyTexts.{feature_begin}
use Rattle.route_engine.specs.Told.{source_by}
use Rattle.route_ready.specs.World.{world_of}
use Rattle.track_reply.specs.Joined.{comma_before}
use Rattle.route_engine.proofs.RowLemmas.{ok-leaves}
use Rattle.route_engine.proofs.nearby_json.append_feature_head.Goals as goal

pub returns : goal.returns
unfolding feature_begin
returns c =
    let source = source_by (world_of c.args.world.now) c.args._ready.now c.args.told.now in
    let text = c.args.text.now.items in
    let parted = comma_before c.args.number in
    let name = feature_name source in
    let asked = asked_part c.args.cost in
    let head : List ℕ = codes "\",\"nodes\":[" in
    record {
      exact = on_ok_weaker c.extend_from_slice.result
          (λ (added : c.extend_from_slice.new.self.items ≡ c.append_asked.new.text.items ++ head).
          added
          ∙ ap (λ (t : List ℕ). t ++ head)
          (c.in_ok-append_asked.ensures.exact
          ∙ ap (λ (t : List ℕ). t ++ asked)
          (c.in_ok-append_name.ensures.exact ∙ ap (λ (t : List ℕ). t ++ name) c.in_ok-append_comma.ensures.exact))
          ∙ append_assoc ((text ++ parted) ++ name) asked head ∙ append_assoc (text ++ parted) name (asked ++ head)
          ∙ append_assoc text parted (name ++ (asked ++ head)))
          (ok-leaves c.extend_from_slice.result _ _ _ c.extend_from_slice.ensures.items);
    }
