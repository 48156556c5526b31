-- What is carried, and what a start or a step of it is.
use Rattle.std.proofs.Common.{◌≡◌, ℕ, ℤ, ◌<◌, ◌≤ℤ◌, Bool, true, false, ◌&&◌, nat_eq, nat_lt, int_le, cond, Some, None, IsTrue, refl, ap, ◌∙◌, subst, arith}
use Rattle.std.specs.Option.{is_some}
use Rattle.std.proofs.lemmas.Bool.Decides.{nat_tests}
use Rattle.std.proofs.lemmas.Int.{ints}
use Rattle.elev_buffer.specs.Covers.{covers_label}
use Rattle.elev_buffer.specs.Slots.{slot_of}
use Rattle.elev_buffer.specs.declared.labels.Pair.{Pair}
use Rattle.cost_model.specs.Labels.{label_of}
use Rattle.cost_model.specs.Parts.{IsHeld}
use Rattle.cost_model.specs.Prices.{IsPrices, Prices}
use Rattle.cost_model.specs.Walks.{pair_of}
use Rattle.cost_model.specs.declared.parts.Carry.{Carry}
use Rattle.elev_buffer.proofs.CallerLemmas.{covers-below, covers-test, slot-covered, slot-within, slots-enough}
use Rattle.overpass_graph.proofs.CallerLemmas.{out-sound}
use Rattle.cost_model.specs.Rides.{Leg}
use Rattle.space_search.specs.Rules.{IsUnder}
use Rattle.bike_space.specs.Spent.{terms_of}
use Rattle.bike_space.specs.Tasks.{Task, chosen, covers_carry, entered, is_carried, is_within, may_take, point_on, rules_of, slot_on, slots_on}
use Rattle.std.proofs.lemmas.Option.{cond_some}

-- ---- What is carried

-- both of two tests
both : (a b : Bool) → IsTrue (a && b) → IsTrue a × IsTrue b
both true true h = (refl, refl)
both true false h = absurd (cc)
both false b h = absurd (cc)

-- two tests at once
at-once : (a b : Bool) → IsTrue a → IsTrue b → IsTrue (a && b)
at-once a b p q = rw (p, q) refl

-- a number that is at most another by its test
le-test : (x y : ℤ) → IsTrue (int_le x y) → x ≤ℤ y
le-test x y h = grind (arith, ints)

-- the test of a number that is at most another
test-le : (x y : ℤ) → x ≤ℤ y → IsTrue (int_le x y)
test-le x y h = grind (arith, ints)

-- buffers within their bounds are held
within-held : (prices : Prices) (pair : Pair) → IsTrue (is_within prices pair) → IsHeld prices pair
within-held prices pair h =
    let two = both _ _ h in
    let down = both _ _ two.0 in
    let up = both _ _ two.1 in
    record {
      down_low = le-test _ _ down.0;
      down_high = le-test _ _ down.1;
      up_low = le-test _ _ up.0;
      up_high = le-test _ _ up.1;
    }

-- what is carried has a link of the leg, and held buffers
pub carried-is : (leg : Leg) (carry : Carry) → IsTrue (is_carried leg carry) →
    (carry.link < leg.ride.roads.links) × IsHeld leg.ride.prices (pair_of carry)
unfolding is_carried
carried-is leg carry h =
    let two = both _ _ h in
    let below : IsTrue (nat_lt carry.link leg.ride.roads.links) = two.0 in
    (grind (arith, nat_tests), within-held leg.ride.prices (pair_of carry) two.1)

-- a link of the leg with held buffers is what may be carried
pub is-carried : (leg : Leg) (carry : Carry) → carry.link < leg.ride.roads.links → IsHeld leg.ride.prices (pair_of carry) →
    IsTrue (is_carried leg carry)
unfolding is_carried
is-carried leg carry below held =
    let inside : IsTrue (nat_lt carry.link leg.ride.roads.links) = grind (arith, nat_tests) in
    at-once _ _ inside
    (at-once _ _ (at-once _ _ (test-le _ _ held.down_low) (test-le _ _ held.down_high))
    (at-once _ _ (test-le _ _ held.up_low) (test-le _ _ held.up_high)))

-- what covers ends in the same link, and its label covers the other
pub covers-parts : (leg : Leg) (a b : Carry) (ca cb : ℕ) → IsTrue (covers_carry leg a ca b cb) →
    (a.link ≡ b.link) × IsTrue (covers_label (terms_of leg) (label_of a ca) (label_of b cb))
unfolding covers_carry
covers-parts leg a b ca cb h =
    let two = both _ _ h in
    let same : IsTrue (nat_eq a.link b.link) = two.0 in
    (grind (arith, nat_tests), two.1)

-- the slot of what is carried is one of the slots
pub slot-one_of : (leg : Leg) (carry : Carry) → carry.link < leg.ride.roads.links → slot_on leg carry < slots_on leg
slot-one_of leg carry within =
    slot-within (slots_on leg) (terms_of leg).modes carry.link (pair_of carry)
    (omega (arith, within, slots-enough (terms_of leg).modes leg.ride.roads.links))

-- what covers lies in the slot of what it covers
pub covered-slot : (leg : Leg) (a b : Carry) (ca cb : ℕ) → IsTrue (covers_carry leg a ca b cb) → slot_on leg a ≡ slot_on leg b
covered-slot leg a b ca cb h =
    let parts = covers-parts leg a b ca cb h in
    ap (λ (link : ℕ). slot_of (slots_on leg) (terms_of leg).modes link (pair_of a)) parts.0
    ∙ slot-covered (terms_of leg) (label_of a ca) (label_of b cb) (slots_on leg) b.link
    ((covers-test (terms_of leg) (label_of a ca) (label_of b cb)).0 parts.1)

-- the point of what covers lies under that of what it covers
pub covered-under : (leg : Leg) (a b : Carry) (ca cb : ℕ) → IsPrices leg.ride.prices → IsTrue (covers_carry leg a ca b cb) →
    IsUnder (point_on leg a ca) (point_on leg b cb)
covered-under leg a b ca cb prices h =
    let below = covers-below (terms_of leg) (label_of a ca) (label_of b cb) prices.down_rate.low prices.up_rate.low
    ((covers-test _ _ _).0 (covers-parts leg a b ca cb h).1) in
    record { x = below.down; y = below.up; z = below.both }

-- a label of the same link that covers another is what covers
pub parts-cover : (leg : Leg) (a b : Carry) (ca cb : ℕ) → a.link ≡ b.link →
    IsTrue (covers_label (terms_of leg) (label_of a ca) (label_of b cb)) → IsTrue (covers_carry leg a ca b cb)
unfolding covers_carry
parts-cover leg a b ca cb same covers =
    let one : IsTrue (nat_eq a.link b.link) = grind (arith, nat_tests) in
    at-once _ _ one covers

-- ---- Starts and steps

-- whether it is there is its test
pub some-is : (t : Bool) (x : Carry × ℕ) → is_some (cond t (Some x) None) ≡ t
some-is true x = refl
some-is false x = refl

-- a step from a state whose link is this
pub record IsStep (task : Task) (last : ℕ) (pair : Pair) (number : ℕ) (next : Carry) (cost : ℕ) : Type 0 where
  pub within : chosen task.leg.ride.roads (task.leg.ride.roads.to last) number < task.leg.ride.roads.links
  pub leaves : task.leg.ride.roads.from (chosen task.leg.ride.roads (task.leg.ride.roads.to last) number) ≡ task.leg.ride.roads.to last
  pub taken : may_take task.leg last (chosen task.leg.ride.roads (task.leg.ride.roads.to last) number) ≡ true
  pub is : entered task (Some (task.leg.ride.facts last)) (chosen task.leg.ride.roads (task.leg.ride.roads.to last) number) pair ≡
      (next, cost)

-- a permitted step is one
pub step-is : (task : Task) (carry : Carry) (last number : ℕ) (next : Carry) (cost : ℕ) → carry.link ≡ last →
    number < (rules_of task).steps carry → (rules_of task).step carry number ≡ Some (next, cost) →
    IsStep task last (pair_of carry) number next cost
step-is task carry last number next cost same within step =
    let P : ℕ → Type 0 = λ l. IsStep task l (pair_of carry) number next cost in
    let out = out-sound task.leg.ride.roads (task.leg.ride.roads.to carry.link) number within in
    let p = cond_some _ _ _ step in
    subst P same (record { within = out.0; leaves = out.1; taken = p.0; is = p.1 })
