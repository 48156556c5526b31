-- What the parts of a link come to, with the distance part once more where its segment was used.
use Rattle.std.proofs.Common.{◌≡◌, ℕ, ℤ, pos, ◌+ℤ◌, ◌*ℤ◌, ◌≤ℤ◌, Bool, true, Some, unsigned_abs, ap, sym, ◌∙◌, subst, SFits, arith, refl}
use Rattle.std.specs.Int.{w128}
use Rattle.std.proofs.lemmas.Int.{ints, fits_signed_from_abs}
use Rattle.elev_buffer.specs.Covers.{down_step, up_step}
use Rattle.elev_buffer.specs.declared.labels.Pair.{Pair}
use Rattle.elev_buffer.specs.declared.steps.Stepped.{Stepped}
use Rattle.cost_model.specs.Parts.{ArePaid, climb_of, cost_of, distance_of, initial_of, parts_after, ranked, sum_of, turn_of}
use Rattle.cost_model.specs.Prices.{Prices}
use Rattle.cost_model.specs.declared.facts.LinkFacts.{LinkFacts}
use Rattle.cost_model.specs.declared.parts.Parts.{Parts}
use Rattle.cost_model.proofs.LinkLemmas.{parts-are}

-- the sum with the distance part once more
pub record IsTwice (parts : Parts) : Type 0 where
  pub distance : SFits w128 parts.distance
  pub sum : SFits w128 (sum_of parts)
  pub both : SFits w128 (sum_of parts +ℤ parts.distance)
  pub low : pos 0 ≤ℤ (sum_of parts +ℤ parts.distance)
  pub exact : unsigned_abs (sum_of parts +ℤ parts.distance) ≡ cost_of (ranked true parts)

-- is that of the parts with the distance counted twice
pub is-twice : (parts : Parts) → ArePaid parts → ArePaid (ranked true parts) → IsTwice parts
is-twice parts paid twice =
    let record { distance = d; turn = t; initial = i; node = n; elevation = e; below = b } = paid in
    let below = twice.below in
    let same : sum_of parts +ℤ parts.distance ≡ sum_of (ranked true parts) = omega (arith, ints) in
    record {
      distance = fits_signed_from_abs w128 _ (omega (arith, ints));
      sum = fits_signed_from_abs w128 _ (omega (arith, ints));
      both = fits_signed_from_abs w128 _ (omega (arith, ints));
      low = omega (arith, ints);
      exact = ap unsigned_abs same;
    }

-- the parts that are put together after a link are those of the definition
pub parts-after : (p : Prices) (last facts : LinkFacts) (pair : Pair) (d u : Stepped) (distance turn initial elevation : ℤ) →
    turn ≡ turn_of (Some last) facts → initial ≡ initial_of (Some last) facts → d ≡ down_step (climb_of p facts) pair →
    u ≡ up_step (climb_of p facts) pair → distance ≡ distance_of facts d.weight u.weight →
    elevation ≡ d.paid *ℤ p.down_rate +ℤ u.paid *ℤ p.up_rate →
    ◌≡◌ {A = Parts} (record { distance = distance; turn = turn; initial = initial; node = facts.charge; elevation = elevation })
    (parts_after p (Some last) facts pair)
parts-after p last facts pair d u distance turn initial elevation te ie de ue is paid =
    parts-are p facts pair d u distance turn initial elevation de ue is paid
    ∙ rw (te, ie) refl

-- what is paid of parts is of equal ones
pub paid-parts : (a b : Parts) → a ≡ b → ArePaid b → ArePaid a
paid-parts a b same paid = subst ArePaid (sym same) paid

-- also with the distance counted twice
pub twice-parts : (a b : Parts) → a ≡ b → ArePaid (ranked true b) → ArePaid (ranked true a)
twice-parts a b same paid = subst (λ (p : Parts). ArePaid (ranked true p)) (sym same) paid

-- and what parts come to is what equal ones do
pub cost-parts : (used : Bool) (a b : Parts) → a ≡ b → (price : ℕ) → price ≡ cost_of (ranked used a) → price ≡ cost_of (ranked used b)
cost-parts used a b same price is = is ∙ ap (λ (p : Parts). cost_of (ranked used p)) same
