use Rattle.std.proofs.Common.{◌≡◌, ◌+◌, ◌≤◌}
use Rattle.leg_search.specs.Quests.{IsSearchOn, counted_of, quest_of}
use Rattle.leg_search.specs.Steps.{stages_left}
use Rattle.leg_search.proofs.search.LegSearch.turn.Given as goal

abbrev pub invariant-steps : goal.invariant-steps
invariant-steps g l =
    let terrain = g.G.TerrainOf.terrain l.terrain in
    record {
      on : IsSearchOn terrain l.search;
      same : quest_of terrain l.search ≡ quest_of terrain l.initial.search;
      some : 1 ≤ l.left;
      counted : counted_of l.search + l.left ≡ counted_of l.initial.search + l.quota;
      few : l.left ≤ l.quota;
    }

abbrev pub decreases-steps : goal.decreases-steps
decreases-steps g l = stages_left l.search.aim.first l.search.stage + l.left
