use Rattle.std.proofs.Common.{refl, subst}
use Rattle.route_ready.specs.World.{world_of}
use Rattle.session_answers.proofs.MakingLemmas.{turned-kept}
use Rattle.session_answers.specs.Makings.{GivesEnd}
use Rattle.session_answers.specs.declared.kept.KeptProfiles.{KeptProfiles}
use Rattle.session_answers.proofs.kept.KeptProfiles.turn.Goals as goal

pub note-requires : goal.note-requires
note-requires c =
    let turned = c.turn-end.ensures.turned in
    record { stands = (turned.after, turned.puts.is) }

pub returns-in-Some-clause-kept : goal.returns-in-Some-clause-kept
returns-in-Some-clause-kept c = λ stored kept.
    let world = world_of c.args.world.now in
    let new : KeptProfiles = record { cache = c.args.self.now.cache; makings = c.turn-end.new.self; guides = c.args.self.now.guides } in
    let turned = c.turn-end.ensures.turned in
    c.note.ensures.kept world stored turned.after turned.puts.is
    (subst (GivesEnd world turned.after.progress) c.in-Some.is turned.gives)
    (turned-kept world c.args.self.now new c.args.k _ turned stored refl refl kept)

pub returns-in_default-clause-kept : goal.returns-in_default-clause-kept
returns-in_default-clause-kept c = λ stored kept.
    turned-kept (world_of c.args.world.now) c.args.self.now (record { cache = c.args.self.now.cache; makings = c.turn-end.new.self; guides = c.args.self.now.guides })
    c.args.k _ c.turn-end.ensures.turned stored refl refl kept
