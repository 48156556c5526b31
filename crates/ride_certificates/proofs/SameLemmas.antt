-- Certificates that say the same are accepted alike.
use Rattle.std.proofs.Common.{◌≡◌, ℕ, zero, suc, ◌+◌, List, [], ◌∷◌, length, map, Some, refl, sym, ap, ◌∙◌, subst}
use Rattle.std.specs.List.{slice_get}
use Rattle.std.proofs.lemmas.List.{length-map}
use Rattle.std.proofs.lemmas.Option.{slice_get_within}
use Rattle.bike_space.specs.LegWalks.{IsLegWalk, leg_cost}
use Rattle.certificate_text.specs.Texts.{CertificateValue, LegValue, leg_of, legs_of, value_of}
use Rattle.certificate_text.specs.declared.certificate.Certificate.{Certificate}
use Rattle.certificate_text.specs.declared.certificate.LowerBound.{LowerBound}
use Rattle.certificate_text.specs.declared.certificate.Proof.{Proof}
use Rattle.cost_model.specs.Rides.{Leg, Terrain}
use Rattle.route_certificate.specs.Asks.{leg_in}
use Rattle.route_certificate.specs.Closing.{Closes}
use Rattle.route_certificate.specs.Legs.{AreInBounds, AreRestsBelow, ShowsLeast, leg_rules}
use Rattle.route_certificate.specs.Verdicts.{IsAccepted, total_cost}
use Rattle.route_certificate.specs.declared.ask.TrackAsk.{TrackAsk}

-- what shows a leg's walk least does so wherever walk, cost and labels are the same
shows-same : (bound : LowerBound) (leg : Leg) (one other : Proof) → leg_of one ≡ leg_of other →
    ShowsLeast bound leg one → ShowsLeast bound leg other
shows-same bound leg one other same is =
    let walk : one.walk.items ≡ other.walk.items = ap (λ (l : LegValue). l.walk) same in
    let cost : one.cost ≡ other.cost = ap (λ (l : LegValue). l.cost) same in
    let entries : one.entries.items ≡ other.entries.items = ap (λ (l : LegValue). l.entries) same in
    record {
      sound = record {
        walk = record {
          is_walk = subst (λ (w : List ℕ). IsLegWalk leg w) walk is.sound.walk.is_walk;
          cost = ap (λ (w : List ℕ). leg_cost leg w) (sym walk) ∙ is.sound.walk.cost ∙ cost;
          home = λ at. sym cost ∙ is.sound.walk.home at;
        };
        bounds = subst (AreInBounds leg) entries is.sound.bounds;
      };
      closed = λ low rests. subst (λ (n : ℕ). Closes (leg_rules leg low) n other.entries.items) cost
          (subst (Closes (leg_rules leg low) one.cost) entries
          (is.closed low (subst (λ (n : ℕ). AreRestsBelow bound leg n low) (sym cost) rests)));
    }

-- the leg of a number in another list of the same legs
record IsTwin (legs : List Proof) (number : ℕ) (proof : Proof) : Type 0 where
  twin : Proof
  there : slice_get legs number ≡ Some twin
  same : leg_of twin ≡ leg_of proof

-- there is one
twin-of : (legs others : List Proof) → map leg_of legs ≡ map leg_of others → (number : ℕ) (proof : Proof) →
    slice_get others number ≡ Some proof → IsTwin legs number proof
twin-of legs [] same number proof at = absurd (cc)
twin-of [] (other ∷ others) same number proof at = absurd (cc)
twin-of (leg ∷ legs) (other ∷ others) same zero proof at =
    let mine : other ≡ proof = cc in
    let heads : leg_of leg ≡ leg_of other = cc in
    record { twin = leg; there = refl; same = heads ∙ ap leg_of mine }
twin-of (leg ∷ legs) (other ∷ others) same (suc number) proof at =
    let rests : map leg_of legs ≡ map leg_of others = cc in
    let found = twin-of legs others rests number proof at in
    record { twin = found.twin; there = found.there; same = found.same }

-- what is accepted is so with any other certificate that says the same
pub accepted-same : (terrain : Terrain) (ask : TrackAsk) (certificate other : Certificate) (sum : ℕ) →
    value_of other ≡ value_of certificate → IsAccepted terrain ask certificate sum →
    IsAccepted terrain ask other (total_cost other)
accepted-same terrain ask certificate other sum alike is =
    let same : legs_of other ≡ legs_of certificate = ap (λ (v : CertificateValue). v.legs) alike in
    let bounds : other.bound ≡ certificate.bound = ap (λ (v : CertificateValue). v.bound) alike in
    let counts : length other.legs.items ≡ length certificate.legs.items =
    sym (length-map other.legs.items leg_of) ∙ ap length same ∙ length-map certificate.legs.items leg_of in
    record {
      one_fewer = ap (λ (n : ℕ). n + 1) counts ∙ is.one_fewer;
      hold = λ number proof below there.
          let found = twin-of certificate.legs.items other.legs.items (sym same) number proof there in
          subst (λ (b : LowerBound). ShowsLeast b (leg_in terrain ask number) proof) (sym bounds)
          (shows-same certificate.bound (leg_in terrain ask number) found.twin proof found.same
          (is.hold number found.twin (slice_get_within certificate.legs.items number found.twin found.there) found.there));
      cost = refl;
    }
