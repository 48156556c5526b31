use Rattle.std.proofs.Common.{◌≡◌, Err, Ok, Some, ap, subst, sym}
use Rattle.profile_text.specs.Expr.{sections_in}
use Rattle.route_ready.specs.World.{world_of}
use Rattle.route_ready.specs.Worlds.{binding_in}
use Rattle.session_answers.proofs.KeptLemmas.{AllMade, made-promoted, made-seen}
use Rattle.session_answers.proofs.KeyLemmas.{key-same}
use Rattle.session_answers.proofs.ReadyLemmas.{gives-ready, ready-under}
use Rattle.session_answers.specs.Kept.{IsWanted}
use Rattle.std.specs.Prelude.{slice_get}
use Rattle.session_answers.proofs.kept.KeptProfiles.want.Goals as goal

pub returns-in-Ok-clause-exact : goal.returns-in-Ok-clause-exact
returns-in-Ok-clause-exact c = λ stored kept there.
    let world = world_of c.args.world.now in
    let sections = sections_in c.args.profile.now in
    let all : AllMade world stored c.promote.new.self.entries =
    subst (AllMade world stored) (sym (ap (λ cache. cache.entries) c.promote.ensures.entries))
    (made-promoted world stored _ c.args.self.now.cache.entries kept.made) in
    let made = made-seen world stored _ key-same c.peek.result c.in-Some.kept c.promote.new.self.entries c.in_ok-key.key c.in-Some.is
    c.peek.ensures all in (
      record { made = all; makings = kept.makings; once = kept.once; guides = kept.guides },
      gives-ready (binding_in world sections c.args.overrides.now) c.in-Some.kept.now.ready.value (Ok c.in-Ok.ready)
          (ready-under world stored c.in_ok-key.key c.args.place c.args.overrides.now sections c.in-Some.kept.now.ready.value
          c.in_ok-key.ensures.exact there made) c.in-Ok.ensures.same c.in-Ok.ensures.cause,
    )

pub returns-in-Some-clause-exact : goal.returns-in-Some-clause-exact
returns-in-Some-clause-exact c = λ stored kept there.
    let world = world_of c.args.world.now in
    let sections = sections_in c.args.profile.now in
    let all : AllMade world stored c.promote.new.self.entries =
    subst (AllMade world stored) (sym (ap (λ cache. cache.entries) c.promote.ensures.entries))
    (made-promoted world stored _ c.args.self.now.cache.entries kept.made) in
    let made = made-seen world stored _ key-same c.peek.result c.in-Some.kept c.promote.new.self.entries c.in_ok-key.key c.in-Some.is
    c.peek.ensures all in (
      record { made = all; makings = kept.makings; once = kept.once; guides = kept.guides },
      gives-ready (binding_in world sections c.args.overrides.now) c.in-Some.kept.now.ready.value (Err c.in-Err.error)
          (ready-under world stored c.in_ok-key.key c.args.place c.args.overrides.now sections c.in-Some.kept.now.ready.value
          c.in_ok-key.ensures.exact there made) c.in-Err.ensures.same c.in-Err.ensures.cause,
    )

pub returns-clause-exact : goal.returns-clause-exact
returns-clause-exact c = λ stored kept there.
    let world = world_of c.args.world.now in
    let sections = sections_in c.args.profile.now in
    let binding = binding_in world sections c.args.overrides.now in
    let made = c.making.ensures.exact stored
    (record {
      made = subst (AllMade world stored) (sym (ap (λ cache. cache.entries) c.promote.ensures.entries))
          (made-promoted world stored _ c.args.self.now.cache.entries kept.made);
      makings = kept.makings;
      once = kept.once;
      guides = kept.guides;
    })
    (subst (λ place. slice_get stored place ≡ Some sections) (sym c.in_ok-key.ensures.exact.0) there) in (
      made.0,
      subst (λ place. IsWanted world binding place c.args.overrides.now c.making.new.self c.making.result) c.in_ok-key.ensures.exact.0
          made.1,
    )
