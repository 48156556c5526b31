-- A certificate as it is checked leg after leg, and that its verdict is one.
use Rattle.std.proofs.Common.{◌≡◌, ℕ, ◌+◌, ◌*◌, ◌<◌, ◌≤◌, ◌^◌, inl, inr, List, length, get_or, take, Some, refl, sym, ap, ◌∙◌, subst, arith}
use Rattle.std.specs.List.{slice_get, sum_by}
use Rattle.std.proofs.lemmas.Bool.{cases_eq}
use Rattle.std.proofs.lemmas.List.{take_all}
use Rattle.std.proofs.lemmas.List.Sums.{sum_by_more}
use Rattle.std.proofs.lemmas.Option.{get_or_from_slice_get, slice_get-get_or, slice_get_within}
use Rattle.certificate_text.specs.declared.certificate.Certificate.{Certificate}
use Rattle.certificate_text.specs.declared.certificate.Proof.{Proof}
use Rattle.cost_model.specs.Rides.{Terrain}
use Rattle.bike_space.specs.LegWalks.{IsLeastWalk}
use Rattle.route_certificate.specs.Asks.{leg_in}
use Rattle.route_certificate.specs.Legs.{IsFirstFault, ShowsLeast}
use Rattle.route_certificate.specs.Verdicts.{AreLeastLegs, IsAccepted, IsLegAt, IsOneFewer, IsVerdict, accepted, miscounted, refused, total_cost}
use Rattle.route_certificate.specs.declared.ask.TrackAsk.{TrackAsk}
use Rattle.route_certificate.specs.declared.verdict.Verdict.{Verdict}
use Rattle.route_certificate.specs.declared.verdict.Verdict.TheVariants.{Yes, No}
use Rattle.route_certificate.specs.declared.verdict.Why.{Why}
use Rattle.route_certificate.specs.declared.verdict.Why.TheVariants.{Legs}
use Rattle.route_certificate.proofs.LegLemmas.{fault-none}

-- what the first legs cost together, so many of them
abbrev pub cost_before : Certificate → ℕ → ℕ
cost_before certificate count = sum_by (λ (proof : Proof). proof.cost) (take count certificate.legs.items)

-- the first legs hold, so many of them: none of their walks can be beaten, and they cost this together
pub record IsCheckedTo (terrain : Terrain) (ask : TrackAsk) (certificate : Certificate) (count sum : ℕ) : Type 0 where
  pub cost : sum ≡ cost_before certificate count
  pub small : sum ≤ count * 2 ^ 113
  pub hold :
      (number : ℕ) (proof : Proof) → number < count → IsLegAt certificate number proof →
      ShowsLeast certificate.bound (leg_in terrain ask number) proof
  pub least :
      (number : ℕ) (proof : Proof) → number < count → IsLegAt certificate number proof →
      IsLeastWalk (leg_in terrain ask number) proof.walk.items

module _ (terrain : Terrain) (ask : TrackAsk) (certificate : Certificate) where
  -- before the first leg
  pub checked-first : IsCheckedTo terrain ask certificate 0 0
  checked-first = record {
    cost = refl;
    small = omega arith;
    hold = λ number proof below. absurd (omega (arith, below));
    least = λ number proof below. absurd (omega (arith, below));
  }

  -- what is said of each of the first legs and of the one after them is said of one more
  each-more : (P : ℕ → Proof → Type 0) (count : ℕ) (one : Proof) → IsLegAt certificate count one → P count one →
      ((number : ℕ) (proof : Proof) → number < count → IsLegAt certificate number proof → P number proof) →
      (number : ℕ) (proof : Proof) → number < count + 1 → IsLegAt certificate number proof → P number proof
  each-more P count one there here before number proof below at =
      elim (cases_eq number count) [
        | inl same ↦
            let both : Some one ≡ Some proof =
            sym there ∙ ap (slice_get certificate.legs.items) (sym same) ∙ at in
            let proofs : one ≡ proof = cc in
            subst (λ n. P n proof) (sym same) (subst (P count) proofs here)
        | inr other ↦ before number proof (omega (arith, below, other)) at
      ]

  -- one leg more
  pub checked-more : (count sum new : ℕ) (one : Proof) → IsCheckedTo terrain ask certificate count sum →
      IsLegAt certificate count one → ShowsLeast certificate.bound (leg_in terrain ask count) one →
      IsLeastWalk (leg_in terrain ask count) one.walk.items → one.cost < 2 ^ 113 → new ≡ sum + one.cost →
      IsCheckedTo terrain ask certificate (count + 1) new
  checked-more count sum new one is there shows least fits added = record {
    cost =
        let within = slice_get_within certificate.legs.items count one there in
        let reads : get_or certificate.legs.items count one ≡ one =
        get_or_from_slice_get certificate.legs.items count one one there in
        let costs : (get_or certificate.legs.items count one).cost ≡ one.cost = ap (λ (p : Proof). p.cost) reads in
        omega (
          arith,
          added,
          is.cost,
          costs,
          sum_by_more (λ (p : Proof). p.cost) certificate.legs.items count one within,
        );
    small = omega (arith, added, is.small, fits);
    hold = each-more (λ number proof. ShowsLeast certificate.bound (leg_in terrain ask number) proof) count one there shows is.hold;
    least = each-more (λ number proof. IsLeastWalk (leg_in terrain ask number) proof.walk.items) count one there least
        is.least;
  }

  -- after the last leg the certificate is accepted
  pub checked-all : (count sum : ℕ) → IsOneFewer ask certificate → length certificate.legs.items ≤ count →
      IsCheckedTo terrain ask certificate count sum → IsVerdict terrain ask certificate (Yes sum)
  unfolding total_cost
  checked-all count sum one_fewer all is = accepted (record {
    one_fewer = one_fewer;
    hold = λ number proof below. is.hold number proof (omega (arith, below, all));
    cost = is.cost ∙ ap (sum_by (λ (p : Proof). p.cost)) (take_all count certificate.legs.items all);
  })

  -- and all its walks are least
  pub checked-least : (count sum : ℕ) → length certificate.legs.items ≤ count →
      IsCheckedTo terrain ask certificate count sum → AreLeastLegs terrain ask certificate
  checked-least count sum all is number proof at =
      is.least number proof (omega (arith, all, slice_get_within certificate.legs.items number proof at)) at

  -- a leg that fails after those that hold is what is answered
  pub checked-refused : (count sum : ℕ) (one : Proof) (why : Why) → IsOneFewer ask certificate →
      IsCheckedTo terrain ask certificate count sum → IsLegAt certificate count one →
      IsFirstFault certificate.bound (leg_in terrain ask count) one (Some why) → IsVerdict terrain ask certificate (No count why)
  checked-refused count sum one why one_fewer is there fails = refused (record {
    one_fewer = one_fewer;
    before = is.hold;
    proof = one;
    there = there;
    fails = fails;
  })

  -- another number of legs is what is answered
  pub counted-refused : (count : ℕ) → (IsOneFewer ask certificate → ⊥) → count ≡ length certificate.legs.items →
      IsVerdict terrain ask certificate (No count Legs)
  counted-refused count differ counted = miscounted (record { differ = differ; counted = counted })

  -- where all conditions hold, no other verdict is one
  pub accepted-alone : (sum : ℕ) → IsAccepted terrain ask certificate sum → (verdict : Verdict) →
      IsVerdict terrain ask certificate verdict → verdict ≡ Yes (total_cost certificate)
  accepted-alone sum all verdict (accepted is) = ap Yes is.cost
  accepted-alone sum all verdict (miscounted is) = absurd (is.differ all.one_fewer)
  accepted-alone sum all verdict (refused {leg = leg} {why = why} is) =
      absurd (fault-none certificate.bound (leg_in terrain ask leg) is.proof
      (all.hold leg is.proof (slice_get_within certificate.legs.items leg is.proof is.there) is.there) why is.fails)

-- the leg at a place of a list that is read there
pub leg-read : (certificate : Certificate) (legs : List Proof) (place : ℕ) (proof : Proof) →
    legs ≡ certificate.legs.items → place < length legs → proof ≡ get_or legs place proof →
    IsLegAt certificate place proof
leg-read certificate legs place proof same below is =
    subst (λ (ls : List Proof). slice_get ls place ≡ Some proof) same
    (slice_get-get_or legs place proof below ∙ ap Some (sym is))
