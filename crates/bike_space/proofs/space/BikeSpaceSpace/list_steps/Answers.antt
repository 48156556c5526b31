use Rattle.std.proofs.Common.{ℕ, ◌≡◌, ◌<◌, ◌+◌, ap, arith, sym, subst, ◌∙◌}
use Rattle.space_search.specs.Known.{LeavesKnown}
use Rattle.space_search.specs.Listed.{listed_below}
use Rattle.space_search.proofs.KnownLemmas.{leaves-none, leaves-adds, leaves-known, leaves-skips}
use Rattle.bike_space.specs.Kept.{task_of}
use Rattle.bike_space.specs.Tasks.{rules_of, step_by}
use Rattle.bike_space.proofs.CarryLemmas.{carried-is}
use Rattle.bike_space.proofs.KnownLemmas.{step-link}
use Rattle.bike_space.proofs.space.BikeSpaceSpace.list_steps.Goals as goal
use Rattle.bike_space.proofs.space.BikeSpaceSpace.list_steps.Goals.{in-Some+in_ok-put, in_default}

pub choices-init : goal.choices-init
choices-init g c = leaves-none _ _ _ _ _ c.clear.ensures.value

pub step_after-requires-clause-held : goal.step_after-requires-clause-held
step_after-requires-clause-held g c = (carried-is _ c.args.state.now c.requires.valid).1

pub choices-preserved-then-is_covered : goal.choices-preserved-then-is_covered
choices-preserved-then-is_covered g c =
    let self = c.args.self.now in
    let task = task_of (g.G.TerrainOf.terrain self.terrain) self.kept in
    let rules = rules_of task in
    let by = ap (step_by task c.args.state.now) (rw c.link-from.ensures.value at c.chosen-link.ensures.value) in
    leaves-known rules c.args.known.now c.args.cost (rules.step c.args.state.now) c.choices.choice c.choices.found
    c.choices.invariant
    (λ next paid is.
    let count = rw c.link-from.ensures.value at c.choices-choice-end.ensures.value in
    let within : c.choices.choice < rules.steps c.args.state.now = omega (arith, count, c.choices-test.true) in
    let moves = self.wakes.keeps.moves.steps c.args.state.now c.choices.choice next paid c.requires.valid within is in
    c.is_covered.ensures.sound c.if-is_covered.true next (c.args.cost + paid)
    (step-link task c.args.state.now c.chosen-link.result next paid (by ∙ is))
    (carried-is _ next moves.valid).1 (omega arith))

pub choices-preserved : goal.choices-preserved
choices-preserved g c =
    let task = task_of (g.G.TerrainOf.terrain c.args.self.now.terrain) c.args.self.now.kept in
    let rules = rules_of task in
    let step = rules.step c.args.state.now in
    let by = ap (step_by task c.args.state.now) (rw c.link-from.ensures.value at c.chosen-link.ensures.value) in
    elim c.match-step_after.branch [
      | in-Some+in_ok-put w ↦
          rw w.found-is
          (leaves-adds rules c.args.known.now c.args.cost step c.choices.choice c.choices.found w.put.new.self w.in-Some.reached
          c.choices.invariant (w.in-Some.ensures.value ∙ by) w.in_ok-put.ensures.value)
      | in_default w ↦
          rw w.found-is
          (leaves-skips rules c.args.known.now c.args.cost step c.choices.choice c.choices.found c.choices.invariant
          (sym by ∙ sym c.step_after.ensures.value ∙ w.in_default.is))
    ]

pub returns : goal.returns
returns g c =
    let self = c.args.self.now in
    let rules = rules_of (task_of (g.G.TerrainOf.terrain self.terrain) self.kept) in
    let count = rw c.link-from.ensures.value at c.choices-choice-end.ensures.value in
    let all : c.choices.choice ≡ rules.steps c.args.state.now = omega (arith, count, c.choices-test.false, c.choices.auto.choice-end) in
    record {
      lists = subst
          (λ (n : ℕ). LeavesKnown rules c.args.known.now c.args.cost (listed_below (rules.step c.args.state.now) n) c.choices.found)
          all c.choices.invariant;
    }
