use Rattle.std.proofs.Common.{refl}
use Rattle.hall.proofs.SweepLemmas.{swept, swept_elsewhere, swept_there}
use Rattle.route_ready.specs.Entries.{profiles_of}
use Rattle.route_ready.specs.World.{world_of}
use Rattle.session_answers.specs.Profiles.{stored_of}
use Rattle.hall.proofs.sweeping.sweep_place.Goals as goal

pub returns-then-is_awaited-clause-swept : goal.returns-then-is_awaited-clause-swept
returns-then-is_awaited-clause-swept c = λ making there. c.if-is_awaited.ensures.found refl

pub returns-clause-held : goal.returns-clause-held
returns-clause-held c =
    let room = c.args.room.now in
    let held = c.requires.held in
    swept room c.forget.new.self c.args.k c.forget.ensures.dropped held (c.if-is_awaited.ensures.none refl)
    (c.forget.ensures.kept (world_of room.desk.world) (profiles_of (stored_of room.desk.profiles)) held.kept)

pub returns-clause-swept : goal.returns-clause-swept
returns-clause-swept c = swept_there c.args.room.now c.forget.new.self c.args.k c.forget.ensures.dropped

pub returns-clause-others : goal.returns-clause-others
returns-clause-others c = swept_elsewhere c.args.room.now c.forget.new.self c.args.k c.forget.ensures.dropped
