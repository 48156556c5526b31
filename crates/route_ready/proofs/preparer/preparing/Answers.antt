use Rattle.std.proofs.Common.{◌≡◌, ◌∙◌, ◌⊎◌, Some, None, Err, ap, subst, sym}
use Rattle.context_check.specs.Checked.{Subject}
use Rattle.context_check.specs.Refusal.{refusal_of}
use Rattle.context_check.specs.Subject.{subject_of}
use Rattle.context_check.specs.declared.error.CheckError.TheVariants as check_fault
use Rattle.lookup_table.specs.First.{TagTable}
use Rattle.profile_text.specs.Expr.{sections_in}
use Rattle.route_ready.proofs.ReadyLemmas.{check-passed, check-refused}
use Rattle.route_ready.specs.Making.{Begins}
use Rattle.route_ready.specs.Readiness.{ready_of}
use Rattle.route_ready.specs.World.{world_of}
use Rattle.route_ready.specs.Worlds.{binding_in}
use Rattle.route_ready.specs.declared.error.RouteError.{RouteError}
use Rattle.route_ready.specs.declared.error.RouteError.TheVariants.{NoMemory}
use Rattle.route_ready.proofs.preparer.preparing.Goals as goal

pub returns-in-Ok : goal.returns-in-Ok
returns-in-Ok c =
    let sections = sections_in c.args.profile.now in
    let overrides = c.args.overrides.now in
    let subject : TagTable → Subject = λ table. record { table = table; sections = sections; overrides = overrides } in
    let same = c.in-Ok.ensures.value ∙ ap subject c.table.ensures.value in
    let none = subst (λ table. refusal_of table sections overrides ≡ None) c.table.ensures.value
    c.in-Ok.ensures.exact in
    record {
      begins = check-passed (world_of c.args.world.now) (subject_of c.in-Ok.checked) (subject c.args.world.now.table)
          (λ binding terms. Begins (world_of c.args.world.now) binding terms c.accepted.result)
          same none c.accepted.ensures.begins;
    }

pub returns-in-Err : goal.returns-in-Err
returns-in-Err c =
    let sections = sections_in c.args.profile.now in
    let overrides = c.args.overrides.now in
    let binding = binding_in (world_of c.args.world.now) sections overrides in
    let Tells : TagTable → Type 0 = λ table.
    (c.in-Err.e ≡ check_fault.NoMemory) ⊎ (refusal_of table sections overrides ≡ Some c.in-Err.e) in
    let why = subst Tells
    c.table.ensures.value c.in-Err.ensures.exact in
    record {
      begins = subst (λ (e : RouteError). (e ≡ NoMemory) ⊎ (ready_of binding ≡ Err e)) (sym c.of_check.ensures.exact)
          (check-refused binding c.in-Err.e why);
    }
