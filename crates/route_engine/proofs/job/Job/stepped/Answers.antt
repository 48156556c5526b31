use Rattle.std.proofs.Common.{◌+◌, ◌-◌, ◌<◌, ◌≤◌, arith, refl, sym, subst}
use Rattle.route_ready.specs.World.{world_of}
use Rattle.route_engine.specs.Jobs.{plan_in}
use Rattle.route_engine.specs.Progress.{IsStage, allowed, counted_in, searches_left}
use Rattle.route_engine.specs.Searches.{work_of_job}
use Rattle.route_engine.specs.declared.stage.Stage.TheVariants.{Searching}
use Rattle.route_engine.proofs.JobLemmas.{counted-allowed, counted-within, next-nearer}
use Rattle.route_engine.proofs.StageLemmas.{allowed-most}
use Rattle.route_engine.proofs.job.Job.stepped.Goals as goal

pub returns-in-Searching : goal.returns-in-Searching
returns-in-Searching c =
    let plan = plan_in (world_of c.args.world.now) c.args.self in
    let next = c.advance-next.result in
    let on = c.advance-next.ensures.advances in
    let walked = c.in-Searching.walked in
    let search = c.in-Searching.search in
    let is = subst (IsStage plan) c.in-Searching.is c.requires.on.stage in
    let whole = allowed plan (Searching walked search) in
    record {
      steps = record {
        fits = counted-within plan walked search c.args.budget whole next is (omega arith) on;
        turn = record {
          on = record {
            plan = c.requires.on.plan;
            stage = on.stage;
          };
          same = refl;
          less = subst (λ s. work_of_job plan next.stage + counted_in next ≤ work_of_job plan s) (sym c.in-Searching.is)
              (omega (
                arith,
                counted-allowed plan walked search c.args.budget whole next is (omega arith) on,
                allowed-most plan next.stage on.stage,
              ));
          nearer = subst (λ s. searches_left plan next.stage + (c.args.budget - counted_in next) < searches_left plan s + c.args.budget)
              (sym c.in-Searching.is)
              (next-nearer plan walked search c.args.budget whole next is (omega arith) on c.requires.some);
        };
      };
    }
