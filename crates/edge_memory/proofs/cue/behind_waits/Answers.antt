use Rattle.std.proofs.Common.{◌≡◌, ◌==◌, ◌+◌, ◌∙◌, true, sym, subst}
use Rattle.edge_memory.specs.declared.script.Script.{Script}
use Rattle.std.specs.List.{list_any}
use Rattle.edge_memory.specs.Place.{is_met}
use Rattle.edge_memory.proofs.PlaceLemmas.{met-at, place-none}
use Rattle.edge_memory.proofs.cue.behind_waits.Goals as goal

pub waits-preserved : goal.waits-preserved
waits-preserved c =
    let met : is_met (λ id. list_any (λ x. x == id) c.args.closed.now) c.index-script-at.result ≡ true = sym c.is_met.ensures.exact
    ∙ c.if-is_met.true in
    record {
      same = c.waits.invariant.same ∙ met-at _ c.args.script.now c.waits.at c.waits.spent c.index-script-at.result c.waits-test.true
          (subst (λ (entry : Script). is_met (λ id. list_any (λ x. x == id) c.args.closed.now) entry ≡ true) c.index-script-at.is met);
      is_place = place-none c.args.script.now (c.waits.at + 1) c.requires.playable;
    }
