use Rattle.std.proofs.Common.{refl, subst, sym}
use Rattle.route_ready.specs.World.{world_of}
use Rattle.session_answers.specs.Searches.{IsStageOver}
use Rattle.session_answers.proofs.search.search_for.Goals as goal

pub returns-clause-begins : goal.returns-clause-begins
returns-clause-begins c = λ kept sections wanted.
    let is = c.in_ok-stage.ensures.begins kept sections c.args.place wanted in
    record {
      aim_is = refl;
      kind = c.kind_for-kind.ensures.exact;
      over = subst (λ n. IsStageOver (world_of c.args.world.now) kept c.args.place c.args.aim n c.in_ok-stage.stage)
          (sym c.turns_for-left.ensures.exact) is.0;
      is = is.1;
    }
