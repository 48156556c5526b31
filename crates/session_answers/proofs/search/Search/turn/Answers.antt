use Rattle.std.proofs.Common.{◌≡◌, ◌-◌, arith, subst, sym, take}
use Rattle.profile_text.specs.Expr.{sections_in}
use Rattle.route_ready.specs.Entries.{profiles_of}
use Rattle.route_ready.specs.World.{world_of}
use Rattle.session_answers.proofs.JobLemmas.{job_there}
use Rattle.session_answers.proofs.QueryLemmas.{query-told}
use Rattle.session_answers.proofs.TurnLemmas.{sections-same}
use Rattle.session_answers.specs.Profiles.{stored_of}
use Rattle.session_answers.specs.Searches.{EndsFor, IsStageFor, IsStageOver}
use Rattle.session_answers.specs.Sites.{site_of}
use Rattle.std.specs.Prelude.{slice_get}
use Rattle.session_answers.proofs.search.Search.turn.Goals as goal

pub overflow_sub-result : goal.overflow_sub-result
overflow_sub-result c =
    let on = c.in-More.ensures.counts c.args.self.place c.args.self.left c.requires.over in
    let one = on.1 in
    omega (arith, one)

pub returns-in-More-clause-counts : goal.returns-in-More-clause-counts
returns-in-More-clause-counts c =
    let on = c.in-More.ensures.counts c.args.self.place c.args.self.left c.requires.over in
    let one = on.1 in
    omega (arith, one)

pub returns-in-More-clause-exact : goal.returns-in-More-clause-exact
returns-in-More-clause-exact c = λ labels before aim query job.
    let world = world_of c.args.world.now in
    let p = c.args.self in
    let stored = stored_of c.args.profiles.now in
    let on = c.in-More.ensures.counts p.place p.left c.requires.over in
    let one = on.1 in
    let later : on.0 ≡ p.left - 1 = omega (arith, one) in
    let there = job_there (site_of world labels) aim query p c.args.kept.now before stored job in
    let for = c.in-More.ensures.answers (profiles_of stored) c.requires.kept p.place p.left c.requires.over job.sections there job.asked
    (subst (λ a. IsStageFor world job.sections a job.asked p.stage) (sym job.is.aim_is) job.is.is) in
    record {
      asked = job.asked;
      sections = job.sections;
      asks = job.asks;
      there = job.there;
      is = record {
        aim_is = job.is.aim_is;
        kind = job.is.kind;
        over = subst (λ n. IsStageOver world c.stepped.new.kept p.place p.aim n c.in-More.stage) later on.2;
        is = subst (λ a. IsStageFor world job.sections a job.asked c.in-More.stage) job.is.aim_is for;
      };
    }

pub returns-in-Ok-clause-exact : goal.returns-in-Ok-clause-exact
returns-in-Ok-clause-exact c = λ labels before aim query job.
    let world = world_of c.args.world.now in
    let p = c.args.self in
    let stored = stored_of c.args.profiles.now in
    let there = job_there (site_of world labels) aim query p c.args.kept.now before stored job in
    let ends = c.in-Done.ensures.answers (profiles_of stored) c.requires.kept p.place p.left c.requires.over job.sections there job.asked
    (subst (λ a. IsStageFor world job.sections a job.asked p.stage) (sym job.is.aim_is) job.is.is) in
    let sections = sections_in c.profile.result.now in
    query-told (site_of world labels) (take before stored) c.args.kept.now aim query p job sections
    (sections-same (slice_get (profiles_of stored) p.place) sections job.sections c.profile.ensures.value there) c.in-Done.end
    c.in-Ok.answer.items (subst (λ a. EndsFor world job.sections a job.asked c.in-Done.end) job.is.aim_is ends) c.in-Ok.ensures.exact

pub returns-in-More-clause-kept : goal.returns-in-More-clause-kept
returns-in-More-clause-kept c = c.stepped.ensures.kept (profiles_of (stored_of c.args.profiles.now)) c.requires.kept

pub returns-in-Ok-clause-kept : goal.returns-in-Ok-clause-kept
returns-in-Ok-clause-kept c = c.stepped.ensures.kept (profiles_of (stored_of c.args.profiles.now)) c.requires.kept

pub returns-in-Err-clause-kept : goal.returns-in-Err-clause-kept
returns-in-Err-clause-kept c = c.stepped.ensures.kept (profiles_of (stored_of c.args.profiles.now)) c.requires.kept
