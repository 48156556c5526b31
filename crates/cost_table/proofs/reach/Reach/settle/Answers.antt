use Rattle.std.proofs.Common.{◌+◌, length, subst}
use Rattle.std.proofs.lemmas.Result.{IfOk-weaker}
use Rattle.bike_space.specs.Kept.{task_of}
use Rattle.bike_space.specs.Tasks.{rules_of}
use Rattle.item_list.specs.Turns.{Says, Settles}
use Rattle.space_search.specs.Searches.{IsSearchOf}
use Rattle.space_search.specs.Turns.{EndsSearch, GoesOn, IsClosedSoFar}
use Rattle.space_search.specs.View.{view}
use Rattle.cost_table.specs.Endless.{endless}
use Rattle.cost_table.specs.Reaches.{EndsBy, StepsTo, quest_of}
use Rattle.cost_table.specs.declared.reach.Reach.{Reach}
use Rattle.cost_table.proofs.StepLemmas.{ended-steps, searched-more, searched-stays}
use Rattle.cost_table.proofs.reach.Reach.settle.Goals as goal

pub returns-in_err-turn-clause-stays : goal.returns-in_err-turn-clause-stays
returns-in_err-turn-clause-stays g c =
    let space = c.args.space.now in
    let task = task_of (g.G.TerrainOf.terrain space.terrain) space.kept in
    let before = view c.args.self.now.search in
    let after = view c.turn-turn.new.self in
    let of = subst (λ s. IsSearchOf (endless (rules_of (task_of (g.G.TerrainOf.terrain s.terrain) s.kept))) c.turn-turn.new.self)
    c.new.ensures.space c.turn-turn.ensures.of in
    let kept = subst (λ s. GoesOn (endless (rules_of (task_of (g.G.TerrainOf.terrain s.terrain) s.kept))) before after)
    c.new.ensures.space c.turn-turn.ensures.kept in
    searched-stays task space.wakes.lawful c.requires.unused c.args.self.now c.requires.way c.turn-turn.new.self of kept

pub note-requires-clause-more : goal.note-requires-clause-more
note-requires-clause-more g c =
    let space = c.args.space.now in
    let task = task_of (g.G.TerrainOf.terrain space.terrain) space.kept in
    let before = view c.args.self.now.search in
    let after = view c.turn-turn.new.self in
    let of = subst (λ s. IsSearchOf (endless (rules_of (task_of (g.G.TerrainOf.terrain s.terrain) s.kept))) c.turn-turn.new.self)
    c.new.ensures.space c.turn-turn.ensures.of in
    let kept = subst (λ s. GoesOn (endless (rules_of (task_of (g.G.TerrainOf.terrain s.terrain) s.kept))) before after)
    c.new.ensures.space c.turn-turn.ensures.kept in
    let ends = subst (λ s. Says (λ _. IsClosedSoFar (endless (rules_of (task_of (g.G.TerrainOf.terrain s.terrain) s.kept))) after)
    (EndsSearch (endless (rules_of (task_of (g.G.TerrainOf.terrain s.terrain) s.kept))) after) c.in_ok-turn.field-0)
    c.new.ensures.space c.in_ok-turn.ensures.ends in
    searched-more task space.wakes.lawful c.requires.unused c.args.self.now c.requires.way c.turn-turn.new.self of kept
    (subst (Settles (length before.settled + 1) (length after.settled)) c.in-More.is c.in_ok-turn.ensures.counts)
    (subst (Says (λ _. IsClosedSoFar (endless (rules_of task)) after) (EndsSearch (endless (rules_of task)) after))
    c.in-More.is ends)

pub returns-in-Done-clause-stays : goal.returns-in-Done-clause-stays
returns-in-Done-clause-stays g c =
    let space = c.args.space.now in
    let task = task_of (g.G.TerrainOf.terrain space.terrain) space.kept in
    let before = view c.args.self.now.search in
    let after = view c.turn-turn.new.self in
    let of = subst (λ s. IsSearchOf (endless (rules_of (task_of (g.G.TerrainOf.terrain s.terrain) s.kept))) c.turn-turn.new.self)
    c.new.ensures.space c.turn-turn.ensures.of in
    let kept = subst (λ s. GoesOn (endless (rules_of (task_of (g.G.TerrainOf.terrain s.terrain) s.kept))) before after)
    c.new.ensures.space c.turn-turn.ensures.kept in
    searched-stays task space.wakes.lawful c.requires.unused c.args.self.now c.requires.way c.turn-turn.new.self of kept

pub returns-in-Done-clause-steps : goal.returns-in-Done-clause-steps
returns-in-Done-clause-steps g c =
    let space = c.args.space.now in
    let task = task_of (g.G.TerrainOf.terrain space.terrain) space.kept in
    let self : Reach = c.args.self.now in
    let before = view self.search in
    let after = view c.turn-turn.new.self in
    let of = subst (λ s. IsSearchOf (endless (rules_of (task_of (g.G.TerrainOf.terrain s.terrain) s.kept))) c.turn-turn.new.self)
    c.new.ensures.space c.turn-turn.ensures.of in
    let kept = subst (λ s. GoesOn (endless (rules_of (task_of (g.G.TerrainOf.terrain s.terrain) s.kept))) before after)
    c.new.ensures.space c.turn-turn.ensures.kept in
    let ends = subst (λ s. Says (λ _. IsClosedSoFar (endless (rules_of (task_of (g.G.TerrainOf.terrain s.terrain) s.kept))) after)
    (EndsSearch (endless (rules_of (task_of (g.G.TerrainOf.terrain s.terrain) s.kept))) after) c.in_ok-turn.field-0)
    c.new.ensures.space c.in_ok-turn.ensures.ends in
    let next : Reach = record self { search = c.turn-turn.new.self } in
    IfOk-weaker c.ended.result (EndsBy c.in-Done.end) (StepsTo task (quest_of task self) next)
    (λ turn by.
    ended-steps task space.wakes.lawful c.requires.unused self c.requires.way c.turn-turn.new.self of kept c.in-Done.end turn by
    (subst (Says (λ _. IsClosedSoFar (endless (rules_of task)) after) (EndsSearch (endless (rules_of task)) after))
    c.in-Done.is ends)
    (subst (Settles (length before.settled + 1) (length after.settled)) c.in-Done.is c.in_ok-turn.ensures.counts))
    c.ended.ensures.value
