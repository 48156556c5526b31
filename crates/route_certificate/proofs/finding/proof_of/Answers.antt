use Rattle.std.proofs.Common.{◌∙◌, ap, sym, subst, arith}
use Rattle.bike_space.specs.Kept.{task_of}
use Rattle.bike_space.specs.Runs.{IsSomeRun}
use Rattle.bike_space.specs.Tasks.{rules_of, walk_by}
use Rattle.space_search.specs.View.{view}
use Rattle.space_search.proofs.CallerLemmas.{goal-readable, settled-within}
use Rattle.route_certificate.proofs.FoundLemmas.{found-proof, found-read}
use Rattle.route_certificate.proofs.finding.proof_of.Goals as goal

pub settled_entries-requires : goal.settled_entries-requires
settled_entries-requires g c = record { of = (_, c.requires.of) }

pub choices-requires : goal.choices-requires
choices-requires g c =
    record { readable = goal-readable _ c.args.search.now c.requires.of c.args.label c.requires.found }

pub link_of-requires : goal.link_of-requires
link_of-requires g c =
    let space = c.args.space.now in
    let task = task_of (g.G.TerrainOf.terrain space.terrain) space.kept in
    let found = c.requires.found in
    let shown = found-read (view c.args.search.now) c.args.label found.goal found.numbered found.there in
    record {
      run = subst (IsSomeRun task) (sym c.as_slice.ensures.value)
          (record {
            end = found.goal.state;
            cost = found.goal.cost;
            run = c.in_ok-choices.ensures.run (rules_of task) found.goal c.requires.of shown;
          });
    }

pub cost_of-cost-requires : goal.cost_of-cost-requires
cost_of-cost-requires g c =
    record { readable = goal-readable _ c.args.search.now c.requires.of c.args.label c.requires.found }

pub returns : goal.returns
returns g c =
    let space = c.args.space.now in
    let task = task_of (g.G.TerrainOf.terrain space.terrain) space.kept in
    let found = c.requires.found in
    let seen = view c.args.search.now in
    let shown = found-read seen c.args.label found.goal found.numbered found.there in
    record {
      exact = found-proof task space.wakes.lawful c.requires.unused c.requires.differ seen
          (omega (arith, settled-within (rules_of task) c.args.search.now c.requires.of, c.requires.small)) c.args.label
          found _ c.in_ok-entries.ensures.exact (c.cost_of-cost.ensures.exact found.goal shown)
          (c.into_vec.ensures.value ∙ c.in_ok-walk.ensures.walk
          ∙ ap (walk_by task.leg) (c.as_slice.ensures.value ∙ c.in_ok-choices.ensures.exact found.goal shown));
    }
