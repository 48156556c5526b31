use Rattle.std.proofs.Common.{◌≡◌, ◌+◌, ◌≤◌, length, true, false, ap, ◌∙◌, refl, arith}
use Rattle.cost_model.specs.declared.parts.Carry.{Carry}
use Rattle.overpass_graph.specs.Maps.{MapValue, link_of}
use Rattle.overpass_graph.specs.declared.link.Link.{Link}
use Rattle.space_search.proofs.CallerLemmas.{settled-within}
use Rattle.bike_space.specs.Kept.{task_of}
use Rattle.bike_space.specs.Tasks.{rules_of}
use Rattle.cost_table.specs.Endless.{endless}
use Rattle.cost_table.specs.Reaches.{arrival}
use Rattle.cost_table.proofs.StepLemmas.{last-shown, last-within, noted-steps, passed-counts, passed-steps}
use Rattle.cost_table.proofs.reach.Reach.note.Goals as goal

pub overflow_add-self : goal.overflow_add-self
overflow_add-self g c =
    let space = c.args._space.now in
    let task = task_of (g.G.TerrainOf.terrain space.terrain) space.kept in
    let more = c.requires.more in
    omega (arith, more.counted, more.grown, more.of.small, settled-within (endless (rules_of task)) c.args.self.now.search more.of)

pub link-node-requires : goal.link-node-requires
link-node-requires g c =
    let space = c.args._space.now in
    let task = task_of (g.G.TerrainOf.terrain space.terrain) space.kept in
    let more = c.requires.more in
    let state = c.state_of.ensures.exact more.last (last-shown task c.args.self.now more c.args.self.now.settled more.counted) in
    let link = ap (λ (s : Carry). s.link) state in
    let links = ap (λ (m : MapValue). length m.links) c.requires.map in
    record { in_range = omega (arith, last-within task c.args.self.now more, link, links) }

pub returns-then-label-self-clause-steps : goal.returns-then-label-self-clause-steps
returns-then-label-self-clause-steps g c =
    let space = c.args._space.now in
    let task = task_of (g.G.TerrainOf.terrain space.terrain) space.kept in
    let more = c.requires.more in
    let shown = last-shown task c.args.self.now more c.args.self.now.settled more.counted in
    passed-steps task space.wakes.lawful c.requires.unused c.args.self.now more c.if-label-self.true c.cost_of-cost.result
    (c.cost_of-cost.ensures.exact more.last shown) c.past.result c.past.ensures.passes

pub returns-then-label-self-clause-counts : goal.returns-then-label-self-clause-counts
returns-then-label-self-clause-counts g c =
    let self = c.args.self.now in
    passed-counts self.found.want c.cost_of-cost.result self.limit self.settled c.past.result c.past.ensures.passes
    c.if-label-self.true

pub returns-then-branch-clause-steps : goal.returns-then-branch-clause-steps
returns-then-branch-clause-steps g c =
    let space = c.args._space.now in
    let task = task_of (g.G.TerrainOf.terrain space.terrain) space.kept in
    let self = c.args.self.now in
    let more = c.requires.more in
    let shown = last-shown task self more self.settled more.counted in
    let link = ap (λ (s : Carry). s.link) (c.state_of.ensures.exact more.last shown) in
    let node : c.link-node.result.to ≡ arrival task more.last =
    ap (λ (l : Link). l.to) c.link-node.ensures.value
    ∙ ap (λ (m : MapValue). (link_of m c.state_of.result.now.link).to) c.requires.map
    ∙ ap task.leg.ride.roads.to link in
    let within : self.settled + 1 ≤ self.limit = omega (arith, more.within, c.if-label-self.false) in
    noted-steps task space.wakes.lawful c.requires.unused self more c.note.new.self c.note.ensures.want (self.settled + 1) refl
    within _ _ node (c.cost_of-cost.ensures.exact more.last shown) _ true c.if-branch.true c.in_ok-note.ensures.notes

pub returns-else-branch-clause-steps : goal.returns-else-branch-clause-steps
returns-else-branch-clause-steps g c =
    let space = c.args._space.now in
    let task = task_of (g.G.TerrainOf.terrain space.terrain) space.kept in
    let self = c.args.self.now in
    let more = c.requires.more in
    let shown = last-shown task self more self.settled more.counted in
    let link = ap (λ (s : Carry). s.link) (c.state_of.ensures.exact more.last shown) in
    let node : c.link-node.result.to ≡ arrival task more.last =
    ap (λ (l : Link). l.to) c.link-node.ensures.value
    ∙ ap (λ (m : MapValue). (link_of m c.state_of.result.now.link).to) c.requires.map
    ∙ ap task.leg.ride.roads.to link in
    let within : self.settled + 1 ≤ self.limit = omega (arith, more.within, c.if-label-self.false) in
    noted-steps task space.wakes.lawful c.requires.unused self more c.note.new.self c.note.ensures.want (self.settled + 1) refl
    within _ _ node (c.cost_of-cost.ensures.exact more.last shown) _ false c.if-branch.false c.in_ok-note.ensures.notes
