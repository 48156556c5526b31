-- What is asked for a request that was made ready, and what is said of that.
use Rattle.std.proofs.Common.{◌≡◌, ℕ, ◌<◌, ◌≤◌, Bool, List, length, get_or, sym, ap, ◌∙◌, subst}
use Rattle.std.proofs.lemmas.Option.{slice_get_within}
use Rattle.bike_space.specs.LegWalks.{IsLeastWalk, leg_cost}
use Rattle.certificate_text.specs.declared.certificate.Certificate.{Certificate}
use Rattle.certificate_text.specs.declared.certificate.LowerBound.{LowerBound}
use Rattle.cost_model.specs.OpenLinks.{is_cut}
use Rattle.cost_model.specs.Rides.{Leg, Setting, Terrain}
use Rattle.geo_int.specs.Place.{Place}
use Rattle.ride_certificates.specs.Bases.{IsBasisFor, IsBasisOf, IsBasisOn, setting_on}
use Rattle.ride_certificates.specs.Certificates.{AsksFor, CertifiesTo}
use Rattle.ride_certificates.specs.Checks.{AreLeastFor, AreLeastOn, ChecksTo}
use Rattle.ride_certificates.specs.Grounds.{HasLegs}
use Rattle.ride_certificates.specs.declared.basis.Basis.{Basis}
use Rattle.route_certificate.specs.Asks.{IsAsk, leg_in}
use Rattle.route_certificate.specs.Certified.{IsCertified}
use Rattle.route_certificate.specs.Verdicts.{AreLeastLegs, IsVerdict}
use Rattle.route_certificate.specs.declared.ask.TrackAsk.{TrackAsk}
use Rattle.route_certificate.specs.declared.making.Certified.{Certified}
use Rattle.route_certificate.specs.declared.verdict.Verdict.{Verdict}
use Rattle.route_certificate.specs.declared.verdict.Verdict.TheVariants.{Yes}
use Rattle.route_engine.specs.Jobs.{terrain_of}
use Rattle.route_engine.specs.Settings.{Question}
use Rattle.route_ready.specs.Worlds.{WorldValue}
use Rattle.ride_certificates.proofs.LegLemmas.{leg-asked, leg-same}
use Rattle.ride_certificates.proofs.ShownLemmas.{yes-accepted}

module _ (world : WorldValue) (basis : Basis) (terrain : Terrain) (ask : TrackAsk)
    (on_terrain : terrain ≡ terrain_of world basis.ready) (nodes : ask.nodes.now ≡ basis.nodes.items)
    (cut : ask.cut.now ≡ basis.cut.items) where
  -- it may be asked
  pub may-ask : IsBasisOn world basis → IsAsk terrain ask
  may-ask on = record {
    few = subst (λ (ns : List ℕ). length ns ≤ 100) (sym nodes) on.few;
    nodes = λ k below.
        subst (λ (t : Terrain). get_or ask.nodes.now k 0 < length t.map.nodes) (sym on_terrain)
        (subst (λ (ns : List ℕ). get_or ns k 0 < length world.map.nodes) (sym nodes)
        (on.nodes_in k (subst (λ (ns : List ℕ). k < length ns) nodes below)));
  }

  module _ (turns : ask.turns ≡ basis.ready.turns) where
    -- it asks for the legs by the marks of the request
    pub asks-for : AsksFor (setting_on world basis) basis.nodes.items ask
    asks-for = record { nodes = nodes; cut = λ link. ap (λ (m : List Bool). is_cut m link) cut; turns = turns }

    -- what certifying comes to
    pub certifies-on : (bound : LowerBound) (limit : ℕ) (found : Certified) → IsCertified terrain ask bound limit found →
        CertifiesTo (setting_on world basis) basis.nodes.items bound limit found
    certifies-on bound limit found is = record {
      ask = ask;
      asks = asks-for;
      is = subst (λ (t : Terrain). IsCertified t ask bound limit found) on_terrain is;
    }

    -- what a check comes to
    pub checks-on : (certificate : Certificate) (verdict : Verdict) → IsVerdict terrain ask certificate verdict →
        ChecksTo (setting_on world basis) basis.nodes.items certificate verdict
    checks-on certificate verdict is = record {
      ask = ask;
      asks = asks-for;
      is = subst (λ (t : Terrain). IsVerdict t ask certificate verdict) on_terrain is;
    }

    -- walks that are least are so on these legs
    pub least-on : (certificate : Certificate) → AreLeastLegs terrain ask certificate →
        AreLeastOn (setting_on world basis) basis.nodes.items certificate
    least-on certificate least number proof there =
        subst (λ (leg : Leg). IsLeastWalk leg proof.walk.items)
        (leg-asked (setting_on world basis) basis.nodes.items ask number asks-for)
        (subst (λ (t : Terrain). IsLeastWalk (leg_in t ask number) proof.walk.items) on_terrain (least number proof there))

module _ (world : WorldValue) (setting : Setting) (waypoints : List Place) (basis : Basis)
    (is : IsBasisFor world setting waypoints basis) where
  -- what asks for the legs by the marks of the request asks for those over its setting
  asks-moved : (ask : TrackAsk) → AsksFor (setting_on world basis) basis.nodes.items ask →
      AsksFor setting basis.nodes.items ask
  asks-moved ask asks = record {
    nodes = asks.nodes;
    cut = λ link. asks.cut link ∙ is.marks link;
    turns = asks.turns ∙ is.turns;
  }

  -- so is what certifying comes to
  pub certifies-moved : (bound : LowerBound) (limit : ℕ) (found : Certified) →
      CertifiesTo (setting_on world basis) basis.nodes.items bound limit found →
      CertifiesTo setting basis.nodes.items bound limit found
  certifies-moved bound limit found comes = record {
    ask = comes.ask;
    asks = asks-moved comes.ask comes.asks;
    is = subst (λ (t : Terrain). IsCertified t comes.ask bound limit found) is.terrain comes.is;
  }

  -- so is what a check comes to
  pub checks-moved : (certificate : Certificate) (verdict : Verdict) →
      ChecksTo (setting_on world basis) basis.nodes.items certificate verdict →
      ChecksTo setting basis.nodes.items certificate verdict
  checks-moved certificate verdict comes = record {
    ask = comes.ask;
    asks = asks-moved comes.ask comes.asks;
    is = subst (λ (t : Terrain). IsVerdict t comes.ask certificate verdict) is.terrain comes.is;
  }

  -- so is it with walks that are least
  pub least-moved : (certificate : Certificate) → AreLeastOn (setting_on world basis) basis.nodes.items certificate →
      AreLeastOn setting basis.nodes.items certificate
  least-moved certificate least number proof there =
      subst (λ (leg : Leg). IsLeastWalk leg proof.walk.items)
      (leg-same (setting_on world basis) setting basis.nodes.items number is.terrain is.marks is.turns)
      (least number proof there)

module _ (world : WorldValue) (question : Question) (basis : Basis) (is : IsBasisOf world question basis) where
  -- a request that was made ready has legs
  pub basis-legs : HasLegs question is.setting basis.nodes.items
  basis-legs = record { over = is.over; are = is.is.nodes }

  -- with yes its walks are least, at the costs that are kept
  pub yes-least : (certificate : Certificate) (verdict : Verdict) (cost : ℕ) →
      ChecksTo (setting_on world basis) basis.nodes.items certificate verdict →
      AreLeastOn (setting_on world basis) basis.nodes.items certificate → verdict ≡ Yes cost →
      AreLeastFor question certificate cost
  yes-least certificate verdict cost checks least says =
      let over = checks-moved world is.setting question.asked.waypoints basis is.is certificate verdict checks in
      let all = yes-accepted is.setting.terrain over.ask certificate verdict cost over.is says in
      record {
        setting = is.setting;
        nodes = basis.nodes.items;
        legs = basis-legs;
        one_fewer = all.one_fewer ∙ ap length over.asks.nodes;
        least = least-moved world is.setting question.asked.waypoints basis is.is certificate least;
        costs = λ number proof there.
            ap (λ (leg : Leg). leg_cost leg proof.walk.items)
            (sym (leg-asked is.setting basis.nodes.items over.ask number over.asks))
            ∙ (all.hold number proof (slice_get_within certificate.legs.items number proof there) there).sound.walk.cost;
        together = all.cost;
      }
