-- A certificate as it is made leg after leg.
use Rattle.std.proofs.Common.{◌≡◌, ℕ, ◌+◌, ◌<◌, inl, inr, List, [], ◌∷◌, ◌++◌, length, map, Some, refl, sym, ap, ◌∙◌, subst, arith, length-append}
use Rattle.std.specs.List.{slice_get}
use Rattle.std.proofs.lemmas.Option.{slice_get_within}
use Rattle.certificate_text.specs.Texts.{AreLegs, IsLeg, leg_of}
use Rattle.certificate_text.specs.declared.certificate.Certificate.{Certificate}
use Rattle.certificate_text.specs.declared.certificate.LowerBound.{LowerBound}
use Rattle.certificate_text.specs.declared.certificate.Proof.{Proof}
use Rattle.cost_model.specs.Rides.{Terrain}
use Rattle.item_list.proofs.ListLemmas.{slice_get-push_cases, slice_get-there}
use Rattle.route_certificate.specs.Asks.{leg_in}
use Rattle.route_certificate.specs.Certified.{IsCertified, IsFirst, IsProof, shown}
use Rattle.route_certificate.specs.Legs.{ShowsLeast}
use Rattle.route_certificate.specs.Verdicts.{IsAccepted, IsVerdict, total_cost}
use Rattle.route_certificate.specs.declared.ask.TrackAsk.{TrackAsk}
use Rattle.route_certificate.specs.declared.making.Certified.TheVariants.{Shown}
use Rattle.route_certificate.specs.declared.verdict.Verdict.{Verdict}
use Rattle.route_certificate.specs.declared.verdict.Verdict.TheVariants.{Yes}
use Rattle.route_certificate.proofs.VerdictLemmas.{accepted-alone}
use Rattle.route_certificate.proofs.WritableLemmas.{legs-more}

-- so many legs are shown, and may be written
pub record AreShownTo (terrain : Terrain) (ask : TrackAsk) (bound : LowerBound) (count : ℕ) (legs : List Proof) : Type 0 where
  pub counted : length legs ≡ count
  pub each : (number : ℕ) (proof : Proof) → slice_get legs number ≡ Some proof →
      IsProof bound (leg_in terrain ask number) proof
  pub written : AreLegs terrain.map (map leg_of legs)

module _ (terrain : Terrain) (ask : TrackAsk) (bound : LowerBound) where
  -- before the first leg
  pub shown-first : (legs : List Proof) → legs ≡ [] → AreShownTo terrain ask bound 0 legs
  shown-first legs same = record {
    counted = ap length same;
    each = λ number proof there.
        let within = slice_get_within legs number proof there in
        absurd (omega (arith, within, ap length same));
    written = subst (λ (l : List Proof). AreLegs terrain.map (map leg_of l)) (sym same) tt;
  }

  -- one leg more
  pub shown-more : (count : ℕ) (legs after : List Proof) (proof : Proof) → AreShownTo terrain ask bound count legs →
      IsProof bound (leg_in terrain ask count) proof → IsLeg terrain.map (leg_of proof) → after ≡ legs ++ proof ∷ [] →
      AreShownTo terrain ask bound (count + 1) after
  shown-more count legs after proof are is fits grown = record {
    counted = omega (arith, ap length grown, length-append legs (proof ∷ []), are.counted);
    each = λ number other there.
        elim (slice_get-push_cases legs proof number other (ap (λ (l : List Proof). slice_get l number) (sym grown) ∙ there)) [
          | inl before ↦ are.each number other before
          | inr last ↦
              let at : count ≡ number = sym are.counted ∙ sym last.0 in
              subst (λ n. IsProof bound (leg_in terrain ask n) other) at (subst (IsProof bound (leg_in terrain ask count)) last.1 is)
        ];
    written = subst (λ (l : List Proof). AreLegs terrain.map (map leg_of l)) (sym grown)
        (legs-more terrain.map legs proof are.written fits);
  }

  -- each leg before the next one has a least walk
  pub shown-before : (count : ℕ) (legs : List Proof) → AreShownTo terrain ask bound count legs →
      count + 1 < length ask.nodes.now → IsFirst terrain ask count
  shown-before count legs are within = record {
    within = within;
    before = λ number below.
        let t = slice_get-there legs number (omega (arith, below, are.counted)) in
        (t.0.walk.items, (are.each number t.0 t.1).least);
  }

  -- all conditions hold of a certificate of all legs
  pub shown-accepted : (count : ℕ) (certificate : Certificate) → AreShownTo terrain ask bound count certificate.legs.items →
      certificate.bound ≡ bound → count + 1 ≡ length ask.nodes.now → IsAccepted terrain ask certificate (total_cost certificate)
  shown-accepted count certificate are by all = record {
    one_fewer = omega (arith, are.counted, all);
    hold = λ number proof below there.
        subst (λ (b : LowerBound). ShowsLeast b (leg_in terrain ask number) proof) (sym by) (are.each number proof there).shows;
    cost = refl;
  }

  -- so it is what certifying comes to
  pub shown-all : (count limit : ℕ) (certificate : Certificate) → AreShownTo terrain ask bound count certificate.legs.items →
      certificate.bound ≡ bound → count + 1 ≡ length ask.nodes.now → IsCertified terrain ask bound limit (Shown certificate)
  shown-all count limit certificate are by all =
      shown by (λ number proof there. (are.each number proof there).short) (shown-accepted count certificate are by all)

  -- and it is accepted
  pub shown-alone : (count : ℕ) (certificate other : Certificate) (verdict : Verdict) →
      AreShownTo terrain ask bound count certificate.legs.items → certificate.bound ≡ bound →
      count + 1 ≡ length ask.nodes.now → certificate ≡ other → IsVerdict terrain ask other verdict →
      verdict ≡ Yes (total_cost other)
  shown-alone count certificate other verdict are by all same is =
      accepted-alone terrain ask other (total_cost certificate)
      (subst (λ c. IsAccepted terrain ask c (total_cost certificate)) same (shown-accepted count certificate are by all))
      verdict is
