use Rattle.std.proofs.Common.{◌≡◌, ◌-◌, Err, Some, arith, inl, refl, subst}
use Rattle.route_engine.specs.Replies.{question_of}
use Rattle.route_http.specs.Asked.{Asked}
use Rattle.route_http.specs.Seen.{asked}
use Rattle.route_ready.specs.World.{world_of}
use Rattle.route_ready.specs.Worlds.{binding_in}
use Rattle.route_ready.specs.declared.error.RouteError.TheVariants.{NoMemory}
use Rattle.session_answers.proofs.MakingLemmas.{turned-stay}
use Rattle.session_answers.proofs.TurnLemmas.{profile-ends, turned-any, turned-for, waits-on, waits-stands}
use Rattle.session_answers.specs.Makings.{GivesReady}
use Rattle.session_answers.specs.Searches.{EndsFor, IsStageFor, IsStageOver, WaitsFor, work_quota}
use Rattle.session_answers.proofs.search.stepped.Goals as goal

pub turn-requires : goal.turn-requires
turn-requires c =
    let world = world_of c.args.world.now in
    let kept = c.args.kept.now in
    let over = c.requires.over in
    let waits : WaitsFor world kept over.0 c.args.aim over.1 c.in-Making.k (asked c.in-Making.request) =
    subst (IsStageOver world kept over.0 c.args.aim over.1) c.in-Making.is over.2 in
    record {
      stands = waits-stands world kept over.0 c.args.aim over.1 c.in-Making.k (asked c.in-Making.request) waits c.requires.kept.0
          c.requires.kept.1;
    }

pub new-requires-clause-fits : goal.new-requires-clause-fits
new-requires-clause-fits c =
    let world = world_of c.args.world.now in
    let kept = c.args.kept.now in
    let over = c.requires.over in
    let waits : WaitsFor world kept over.0 c.args.aim over.1 c.in-Making.k (asked c.in-Making.request) =
    subst (IsStageOver world kept over.0 c.args.aim over.1) c.in-Making.is over.2 in
    let turned = c.in-Some-Ok.ensures.turned in
    let any = turned-any world kept over.0 c.args.aim over.1 c.in-Making.k (asked c.in-Making.request) waits c.turn.new.self
    (Some c.in-Some-Ok.field-0) turned c.requires.kept.0 c.requires.kept.1 in
    let binding = binding_in world any.0 (asked c.in-Making.request).overrides in
    (subst (GivesReady binding) c.in-Some-Ok.field-0-is (turned.gives binding any.1)).fits

pub returns-in-None-clause-stay : goal.returns-in-None-clause-stay
returns-in-None-clause-stay c =
    turned-stay (world_of c.args.world.now) c.args.kept.now c.turn.new.self c.in-Making.k _ c.in-None.ensures.turned

pub returns-in-None-clause-counts : goal.returns-in-None-clause-counts
returns-in-None-clause-counts c = λ place left over.
    let world = world_of c.args.world.now in
    let kept = c.args.kept.now in
    let request = asked c.in-Making.request in
    let waits : WaitsFor world kept place c.args.aim left c.in-Making.k request =
    subst (IsStageOver world kept place c.args.aim left) c.in-Making.is over in
    let turned = c.in-None.ensures.turned in
    waits-on world kept place c.args.aim left c.in-Making.k request waits c.turn.new.self _ turned turned.gives

pub returns-in-Ok-clause-stay : goal.returns-in-Ok-clause-stay
returns-in-Ok-clause-stay c =
    turned-stay (world_of c.args.world.now) c.args.kept.now c.turn.new.self c.in-Making.k _ c.in-Some-Ok.ensures.turned

pub returns-in-Ok-clause-counts : goal.returns-in-Ok-clause-counts
returns-in-Ok-clause-counts c = λ place left over.
    let world = world_of c.args.world.now in
    let request = asked c.in-Making.request in
    let waits : WaitsFor world c.args.kept.now place c.args.aim left c.in-Making.k request =
    subst (IsStageOver world c.args.kept.now place c.args.aim left) c.in-Making.is over in
    let enough = waits.enough in
    let few = c.in-Ok.ensures.few work_quota in
    (left - 1, omega (arith, enough), (c.in-Ok.ensures.over, omega (arith, enough, few)))

pub returns-in-Ok-clause-answers : goal.returns-in-Ok-clause-answers
returns-in-Ok-clause-answers c = λ stored kept place left over sections there asks for end ends.
    let world = world_of c.args.world.now in
    let request = asked c.in-Making.request in
    let waits : WaitsFor world c.args.kept.now place c.args.aim left c.in-Making.k request =
    subst (IsStageOver world c.args.kept.now place c.args.aim left) c.in-Making.is over in
    let same : request ≡ asks = subst (IsStageFor world sections c.args.aim asks) c.in-Making.is for in
    let turned = c.in-Some-Ok.ensures.turned in
    let binding = binding_in world sections request.overrides in
    let ready = subst (GivesReady binding) c.in-Some-Ok.field-0-is
    (turned.gives binding
    (turned-for world c.args.kept.now place c.args.aim left c.in-Making.k request waits c.turn.new.self (Some c.in-Some-Ok.field-0) turned
    stored sections kept there)) in
    subst (λ (a : Asked). EndsFor world sections c.args.aim a end) same (c.in-Ok.ensures.answers sections ready end ends)

pub returns-in-Err-clause-stay : goal.returns-in-Err-clause-stay
returns-in-Err-clause-stay c =
    turned-stay (world_of c.args.world.now) c.args.kept.now c.turn.new.self c.in-Making.k _ c.in-Some-Ok.ensures.turned

pub returns-in-Err-clause-answers : goal.returns-in-Err-clause-answers
returns-in-Err-clause-answers c = λ stored kept place left over sections there asks for.
    profile-ends c.args.aim (question_of (world_of c.args.world.now) sections asks) NoMemory (inl refl)

pub returns-in-Some-Err-clause-stay : goal.returns-in-Some-Err-clause-stay
returns-in-Some-Err-clause-stay c =
    turned-stay (world_of c.args.world.now) c.args.kept.now c.turn.new.self c.in-Making.k _ c.in-Some-Err.ensures.turned

pub returns-in-Some-Err-clause-answers : goal.returns-in-Some-Err-clause-answers
returns-in-Some-Err-clause-answers c = λ stored kept place left over sections there asks for.
    let world = world_of c.args.world.now in
    let request = asked c.in-Making.request in
    let waits : WaitsFor world c.args.kept.now place c.args.aim left c.in-Making.k request =
    subst (IsStageOver world c.args.kept.now place c.args.aim left) c.in-Making.is over in
    let same : request ≡ asks = subst (IsStageFor world sections c.args.aim asks) c.in-Making.is for in
    let turned = c.in-Some-Err.ensures.turned in
    let binding = binding_in world sections request.overrides in
    let why = subst (GivesReady binding) c.in-Some-Err.field-0-is
    (turned.gives binding
    (turned-for world c.args.kept.now place c.args.aim left c.in-Making.k request waits c.turn.new.self (Some c.in-Some-Err.field-0) turned
    stored sections kept there)) in
    subst (λ (a : Asked). EndsFor world sections c.args.aim a (Err c.in-Some-Err.error)) same
    (profile-ends c.args.aim (question_of world sections request) c.in-Some-Err.error why)

pub returns-in-More-clause-counts : goal.returns-in-More-clause-counts
returns-in-More-clause-counts c = λ place left over.
    let world = world_of c.args.world.now in
    let was = subst (IsStageOver world c.args.kept.now place c.args.aim left) c.in-Searching.is over in
    let on = c.in-More.ensures.ends in
    let fewer = on.fewer in
    let enough = was.1 in
    (left - 1, omega (arith, fewer, enough), (on.over, omega (arith, fewer, enough)))
