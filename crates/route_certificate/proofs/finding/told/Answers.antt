use Rattle.std.proofs.Common.{subst}
use Rattle.bike_space.specs.Kept.{task_of}
use Rattle.bike_space.specs.Tasks.{rules_of}
use Rattle.bike_space.proofs.CallerLemmas.{no-way}
use Rattle.space_search.specs.Turns.{EndsSearch}
use Rattle.space_search.specs.View.{view}
use Rattle.route_certificate.proofs.FoundLemmas.{spent-found}
use Rattle.route_certificate.proofs.finding.told.Goals as goal

pub proof_of-requires-clause-found : goal.proof_of-requires-clause-found
proof_of-requires-clause-found g c =
    let space = c.args.space.now in
    let rules = rules_of (task_of (g.G.TerrainOf.terrain space.terrain) space.kept) in
    subst (EndsSearch rules (view c.args.search.now)) c.in-Found.is c.requires.ends

pub returns-in-NoWay : goal.returns-in-NoWay
returns-in-NoWay g c =
    let space = c.args.space.now in
    let task = task_of (g.G.TerrainOf.terrain space.terrain) space.kept in
    record {
      exact = λ bound rests.
          no-way task (view c.args.search.now) c.requires.differ
          (subst (EndsSearch (rules_of task) (view c.args.search.now)) c.in-NoWay.is c.requires.ends);
    }

pub returns-in-Budget : goal.returns-in-Budget
returns-in-Budget g c =
    let space = c.args.space.now in
    let task = task_of (g.G.TerrainOf.terrain space.terrain) space.kept in
    record {
      exact = λ bound rests.
          spent-found task space.wakes.lawful c.requires.unused c.requires.differ
          (view c.args.search.now)
          (subst (EndsSearch (rules_of task) (view c.args.search.now)) c.in-Budget.is c.requires.ends);
    }
