-- The bounds of the parts of a link, and of the buffers after it.
use Rattle.std.proofs.Common.{ℕ, ◌*◌, ◌≤◌, ℤ, pos, negsuc, ◌+ℤ◌, ◌-ℤ◌, ◌*ℤ◌, ◌≤ℤ◌, Bool, true, false, cond, Option, Some, None, unsigned_abs, arith}
use Rattle.std.specs.Int.{int_div_euclid}
use Rattle.std.proofs.lemmas.Int.{ints, unsigned_abs-mul}
use Rattle.std.proofs.lemmas.Nat.{mul-le, div_below}
use Rattle.geo_int.proofs.CallerLemmas.{turn_cosine-within}
use Rattle.elev_buffer.specs.Covers.{down_step, up_step}
use Rattle.elev_buffer.specs.declared.labels.Pair.{Pair}
use Rattle.cost_model.specs.Facts.{IsCost, AreFacts}
use Rattle.cost_model.specs.Prices.{Prices, IsPrices}
use Rattle.cost_model.specs.Parts.{climb_of, turn_price, turn_of, initial_of, parts_with, least_distance, ranked, IsHeld, ArePaid}
use Rattle.cost_model.specs.Walks.{carry_after, empty_pair, pair_of}
use Rattle.cost_model.specs.declared.facts.LinkFacts.{LinkFacts}
use Rattle.cost_model.specs.declared.parts.Parts.{Parts}
use Rattle.cost_model.proofs.NumberLemmas.{per_metre-low, per_metre-high}
use Rattle.cost_model.proofs.FactorLemmas.{factor-within, least-distance}
use Rattle.cost_model.proofs.LinkLemmas.{descent_fits, ascent_fits, step_narrow, product-low}

-- both buffers are held after a link
pub held-after : (p : Prices) (link : ℕ) (facts : LinkFacts) (pair : Pair) → IsPrices p → AreFacts facts → IsHeld p pair →
    IsHeld p (pair_of (carry_after p link facts pair))
held-after p link facts pair is f held =
    let d = descent_fits p facts pair is f held in
    let u = ascent_fits p facts pair is f held in
    record { down_low = d.left; down_high = d.most; up_low = u.left; up_high = u.most }

-- empty buffers are held
pub empty-held : (p : Prices) → IsPrices p → IsHeld p empty_pair
empty-held p is =
    let low = is.limits.penalty in
    let order = is.limits.order in
    let most : pos 0 ≤ℤ p.limits.most = omega (arith, ints) in
    let none : pos 0 ≤ℤ pos 0 = omega (arith, ints) in
    record { down_low = none; down_high = most; up_low = none; up_high = most }

-- a part that is small
pub record IsSmall (n : ℤ) : Type 0 where
  pub low : pos 0 ≤ℤ n
  pub high : n ≤ℤ pos 2000000000000000

-- a millionth of a product that is not negative is small
millionth-small : (x : ℤ) → pos 0 ≤ℤ x → unsigned_abs x ≤ 2000000000000000000000 → IsSmall (int_div_euclid x (pos 1000000))
millionth-small (pos n) low h =
    record {
      low = omega (arith, ints);
      high = omega (arith, ints, div_below n 1000000 2000000000000001 (omega arith) (omega (arith, ints)));
    }
millionth-small (negsuc n) low h = absurd (omega (arith, ints))

-- the price of a turn is small
price-small : (turncost cosine : ℤ) → IsCost turncost → negsuc 999999 ≤ℤ cosine → cosine ≤ℤ pos 1000000 →
    IsSmall (turn_price turncost cosine)
unfolding turn_price
price-small turncost cosine is low high =
    let cl = is.low in
    let ch = is.high in
    let rest : unsigned_abs (pos 1000000 -ℤ cosine) ≤ 2000000 = omega (arith, ints) in
    let cost : unsigned_abs turncost ≤ 1000000000000000 = omega (arith, ints) in
    let p : unsigned_abs (turncost *ℤ (pos 1000000 -ℤ cosine)) ≤ 1000000000000000 * 2000000 =
    omega (
      arith,
      unsigned_abs-mul turncost (pos 1000000 -ℤ cosine),
      mul-le (unsigned_abs turncost) (unsigned_abs (pos 1000000 -ℤ cosine)) 1000000000000000 2000000 cost rest,
    ) in
    millionth-small _ (product-low turncost (pos 1000000 -ℤ cosine) cl (omega (arith, ints))) (omega arith)

-- the turn part is small
pub turn-small : (before : Option LinkFacts) (facts : LinkFacts) → AreFacts facts → IsSmall (turn_of before facts)
turn-small None facts f = record { low = omega (arith, ints); high = omega (arith, ints) }
turn-small (Some last) facts f =
    let k = turn_cosine-within last.arrow facts.arrow in
    price-small facts.turncost _ f.turncost k.0 k.1

-- a choice between nothing and a cost is small
chosen-small : (t : Bool) (n : ℤ) → IsCost n → IsSmall (cond t (pos 0) n)
chosen-small true n is = record { low = omega (arith, ints); high = omega (arith, ints) }
chosen-small false n is = record { low = is.low; high = omega (arith, ints, is.low, is.high) }

-- the initial part is small
pub initial-small : (before : Option LinkFacts) (facts : LinkFacts) → AreFacts facts → IsSmall (initial_of before facts)
initial-small None facts f = record { low = omega (arith, ints); high = omega (arith, ints) }
initial-small (Some last) facts f = chosen-small _ facts.initialcost f.initialcost

-- what holds of the parts of a link
pub record PartsHold (facts : LinkFacts) (parts : Parts) : Type 0 where
  pub paid : ArePaid parts
  pub twice : ArePaid (ranked true parts)
  pub least : least_distance facts ≤ℤ parts.distance

-- parts of these sizes are paid
sizes-paid : (d t i n e : ℤ) → pos 0 ≤ℤ d → d ≤ℤ pos 600000000000000000000 → IsSmall t → IsSmall i → IsCost n →
    pos 0 ≤ℤ e → e ≤ℤ pos 2002000000000000000000000 →
    ArePaid (record { distance = d; turn = t; initial = i; node = n; elevation = e })
sizes-paid d t i n e dl dh ts is ns el eh =
    let sum : (d +ℤ t +ℤ i +ℤ n +ℤ e) ≤ℤ pos 2010000000000000000000000 = omega (arith, ints, ts.high, is.high, ns.high) in
    record {
      distance = dl;
      turn = ts.low;
      initial = is.low;
      node = ns.low;
      elevation = el;
      below = omega (arith, ints);
    }

-- and hold of those of the definition
pub parts-hold : (p : Prices) (facts : LinkFacts) (pair : Pair) (turn initial : ℤ) → IsPrices p → AreFacts facts → IsHeld p pair →
    IsSmall turn → IsSmall initial → PartsHold facts (parts_with p turn initial facts pair)
unfolding parts_with
parts-hold p facts pair turn initial is f held ts ns =
    let d = descent_fits p facts pair is f held in
    let u = ascent_fits p facts pair is f held in
    let dn = step_narrow p (down_step (climb_of p facts) pair) p.down_rate is is.down_rate d in
    let un = step_narrow p (up_step (climb_of p facts) pair) p.up_rate is is.up_rate u in
    let within = factor-within facts _ _ f d.weight u.weight in
    let low = per_metre-low facts.arrow.len _ within.0 in
    let high = per_metre-high facts.arrow.len _ (pos 3000000000000000) f.arrow.short within.0 within.1 in
    let dl = dn.low in
    let dp = dn.price in
    let ul = un.low in
    let up = un.price in
    record {
      paid = sizes-paid _ turn initial _ _ low (omega (arith, ints)) ts ns f.charge (omega (arith, ints)) (omega (arith, ints));
      twice = sizes-paid _ turn initial _ _ (omega (arith, ints)) (omega (arith, ints)) ts ns f.charge (omega (arith, ints))
          (omega (arith, ints));
      least = least-distance facts _ _ d.weight u.weight;
    }
