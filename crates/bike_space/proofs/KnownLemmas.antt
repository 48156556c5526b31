-- What a list of steps may leave out.
use Rattle.std.proofs.Common.{◌≡◌, ℕ, nat_eq, true, ◌<◌, length, Some, ap, arith, sym}
use Rattle.std.proofs.lemmas.Bool.Decides.{nat_tests}
use Rattle.std.proofs.lemmas.Option.{cond_some}
use Rattle.cost_model.specs.declared.parts.Carry.{Carry}
use Rattle.elev_buffer.proofs.CallerLemmas.{slots-enough}
use Rattle.space_search.specs.Known.{AreKnown, known_fronts}
use Rattle.space_search.specs.declared.known.Known.{Known}
use Rattle.bike_space.specs.Spent.{terms_of}
use Rattle.bike_space.specs.Tasks.{Task, entered, rules_of, step_by}

-- a number is itself
pub one-number : (a b : ℕ) → a ≡ b → nat_eq a b ≡ true
one-number a b same = grind (arith, nat_tests)

-- each link has a slot of its number
pub slot-there :
    (task : Task) (known : Known Carry) (link : ℕ) → AreKnown (rules_of task) known → link < task.leg.ride.roads.links →
    link < length (known_fronts known).heads
slot-there task known link are within =
    let enough = slots-enough (terms_of task.leg).modes task.leg.ride.roads.links in
    omega (arith, are.slots, enough, within)

-- a step by a link arrives by it
pub step-link :
    (task : Task) (carry : Carry) (link : ℕ) (next : Carry) (paid : ℕ) → step_by task carry link ≡ Some (next, paid) →
    next.link ≡ link
unfolding entered
step-link task carry link next paid is = sym (ap (λ (x : Carry × ℕ). x.0.link) (cond_some _ _ _ is).1)
