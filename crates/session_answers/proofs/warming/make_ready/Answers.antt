use Rattle.std.proofs.Common.{◌≡◌, ◌⊎◌, ℕ, ℤ, List, Ok, Err, subst}
use Rattle.profile_text.specs.Expr.{sections_in}
use Rattle.route_ready.specs.Entries.{profiles_of}
use Rattle.route_ready.specs.Readiness.{Terms, ready_of}
use Rattle.route_ready.specs.World.{world_of}
use Rattle.route_ready.specs.Worlds.{binding_in}
use Rattle.route_ready.specs.declared.error.RouteError.TheVariants.{NoMemory}
use Rattle.session_answers.specs.Profiles.{stored_of}
use Rattle.session_answers.proofs.warming.make_ready.Goals as goal

pub returns-in-Ok : goal.returns-in-Ok
returns-in-Ok c =
    let is = c.in-Ok.ensures.exact (profiles_of (stored_of c.args.profiles.now)) c.requires.kept c.profile.ensures.value in
    let sections = sections_in c.profile.result.now in
    record {
      exact = record {
        sections = sections;
        there = c.profile.ensures.value;
        is = subst (λ (o : List (List ℕ × ℤ)). (terms : Terms) × (ready_of (binding_in (world_of c.args.world.now) sections o) ≡ Ok terms)) c.new-none.ensures.value
            (_, is.1.terms_are);
      };
      kept = is.0;
    }

pub returns : goal.returns
returns c =
    let is = c.in-Err.ensures.exact (profiles_of (stored_of c.args.profiles.now)) c.requires.kept c.profile.ensures.value in
    let sections = sections_in c.profile.result.now in
    record {
      exact = record {
        sections = sections;
        there = c.profile.ensures.value;
        is = subst (λ (o : List (List ℕ × ℤ)). (c.in-Err.error ≡ NoMemory) ⊎ (ready_of (binding_in (world_of c.args.world.now) sections o) ≡ Err c.in-Err.error)) c.new-none.ensures.value
            is.1;
      };
      kept = is.0;
    }
