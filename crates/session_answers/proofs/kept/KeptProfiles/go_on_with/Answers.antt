use Rattle.std.proofs.Common.{subst}
use Rattle.item_list.specs.Turns.{Says}
use Rattle.route_ready.specs.World.{world_of}
use Rattle.session_answers.proofs.GuideLemmas.{none-made}
use Rattle.session_answers.specs.Kept.{IsMadeFrom, IsTarget}
use Rattle.session_answers.proofs.kept.KeptProfiles.go_on_with.Goals as goal

pub returns-in-Ok-More-clause-kept : goal.returns-in-Ok-More-clause-kept
returns-in-Ok-More-clause-kept c = λ stored kept is.
    let world = world_of c.args.world.now in
    record {
      made = kept.made;
      makings = kept.makings;
      once = kept.once;
      guides = record {
        hierarchy = kept.guides.hierarchy;
        target =
            subst (Says (IsTarget world stored) (λ made. IsMadeFrom world stored made.0 made.1.value)) c.in-Ok-More.field-0-is
            (c.in-Ok-More.ensures.steps stored is);
      };
    }

pub returns-in-Ok-Done-clause-kept : goal.returns-in-Ok-Done-clause-kept
returns-in-Ok-Done-clause-kept c = λ stored kept is.
    let world = world_of c.args.world.now in
    c.keep.ensures.kept world stored kept
    (subst (Says (IsTarget world stored) (λ made. IsMadeFrom world stored made.0 made.1.value)) c.in-Ok-Done.field-0-is
    (c.in-Ok-Done.ensures.steps stored is))

pub returns-in-Err-clause-kept : goal.returns-in-Err-clause-kept
returns-in-Err-clause-kept c = λ stored kept is.
    let world = world_of c.args.world.now in
    record {
      made = kept.made;
      makings = kept.makings;
      once = kept.once;
      guides = none-made world stored c.new.result c.new.ensures.none c.new.ensures.hierarchy;
    }
