use Rattle.std.proofs.Common.{◌≡◌, Some, sym, ap, subst, slice_get}
use Rattle.profile_text.specs.Expr.{sections_in}
use Rattle.route_ready.specs.World.{world_of}
use Rattle.route_ready.specs.Worlds.{binding_in}
use Rattle.session_answers.proofs.KeptLemmas.{AllMade, made-promoted, made-seen}
use Rattle.session_answers.proofs.KeyLemmas.{key-same}
use Rattle.session_answers.proofs.ReadyLemmas.{gives-ready, ready-under}
use Rattle.session_answers.proofs.kept.KeptProfiles.ready.Goals as goal

pub returns-in-Some : goal.returns-in-Some
returns-in-Some c =
    let world = world_of c.args.world.now in
    let sections = sections_in c.args.profile.now in
    record {
      exact = λ stored kept there.
          let all : AllMade world stored c.promote.new.self.entries =
          subst (AllMade world stored) (sym (ap (λ cache. cache.entries) c.promote.ensures.entries))
          (made-promoted world stored _ c.args.self.now.cache.entries kept.made) in
          let made = made-seen world stored _ key-same c.peek.result c.in-Some.kept c.promote.new.self.entries c.in_ok-key.key
          c.in-Some.is c.peek.ensures all in (
            record { made = all; makings = kept.makings; once = kept.once; guides = kept.guides },
            gives-ready (binding_in world sections c.args.overrides.now) c.in-Some.kept.now.ready.value c.shared.result
                (ready-under world stored c.in_ok-key.key c.args.place c.args.overrides.now sections c.in-Some.kept.now.ready.value
                c.in_ok-key.ensures.exact there made) c.shared.ensures.same c.shared.ensures.cause,
          );
    }

pub returns-in-None : goal.returns-in-None
returns-in-None c =
    let world = world_of c.args.world.now in
    record {
      exact = λ stored kept there.
          c.made.ensures.exact stored
          (record {
            made = subst (AllMade world stored) (sym (ap (λ cache. cache.entries) c.promote.ensures.entries))
                (made-promoted world stored _ c.args.self.now.cache.entries kept.made);
            makings = kept.makings;
            once = kept.once;
            guides = kept.guides;
          })
          (subst (λ place. slice_get stored place ≡ Some (sections_in c.args.profile.now)) (sym c.in_ok-key.ensures.exact.0) there);
    }
