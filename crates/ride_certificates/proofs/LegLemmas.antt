-- Marks that tell the same of each link make the same legs.
use Rattle.std.proofs.Common.{◌≡◌, ℕ, ◌+◌, Bool, not, ◌&&◌, List, get_or, ap, ◌∙◌}
use Rattle.cost_model.specs.OpenLinks.{forbids_where, is_cut, is_passable, open_by}
use Rattle.cost_model.specs.Rides.{Leg, Ride, Setting, Terrain, ride_of}
use Rattle.cost_model.specs.declared.facts.LinkFacts.{LinkFacts}
use Rattle.overpass_graph.specs.Maps.{forbids_of, roads_of}
use Rattle.ride_certificates.specs.Certificates.{AsksFor}
use Rattle.ride_certificates.specs.Grounds.{leg_of}
use Rattle.route_certificate.specs.Asks.{leg_in, setting_in}
use Rattle.route_certificate.specs.declared.ask.TrackAsk.{TrackAsk}

-- two lists tell the same of each link
abbrev pub TellSame : List Bool → List Bool → Type 0
TellSame a b = (link : ℕ) → is_cut a link ≡ is_cut b link

-- then the same links are open
pub open-same : (facts : ℕ → LinkFacts) (a b : List Bool) → TellSame a b → open_by facts a ≡ open_by facts b
open-same facts a b same = λ i link. is_passable (facts link) && not (same link i)

-- a ride on a terrain, by which links are open and whether turn restrictions count
abbrev ride_from : Terrain → (ℕ → Bool) → Bool → Ride
ride_from terrain is_open turns = record {
  roads = roads_of terrain.map;
  is_open = is_open;
  forbids = forbids_where turns (forbids_of terrain.map);
  facts = terrain.links.facts;
  prices = terrain.prices;
}

-- settings that differ in their marks alone make the same ride
ride-same : (a b : Setting) → a.terrain ≡ b.terrain → TellSame a.cut b.cut → a.turns ≡ b.turns → ride_of a ≡ ride_of b
ride-same a b terrain marks turns =
    ap (λ (o : ℕ → Bool). ride_from a.terrain o a.turns) (open-same a.terrain.links.facts a.cut b.cut marks)
    ∙ ap (ride_from a.terrain (open_by a.terrain.links.facts b.cut)) turns
    ∙ ap (λ (t : Terrain). ride_from t (open_by t.links.facts b.cut) b.turns) terrain

-- so are their legs
pub leg-same :
    (a b : Setting) (nodes : List ℕ) (number : ℕ) → a.terrain ≡ b.terrain → TellSame a.cut b.cut → a.turns ≡ b.turns →
    leg_of a nodes number ≡ leg_of b nodes number
leg-same a b nodes number terrain marks turns =
    let leg : Ride → Leg = λ r. record { ride = r; start = get_or nodes number 0; target = get_or nodes (number + 1) 0 } in
    ap leg (ride-same a b terrain marks turns)

-- the legs that are asked for are those over the setting
pub leg-asked : (setting : Setting) (nodes : List ℕ) (ask : TrackAsk) (number : ℕ) → AsksFor setting nodes ask →
    leg_in setting.terrain ask number ≡ leg_of setting nodes number
leg-asked setting nodes ask number asks =
    leg-same (setting_in setting.terrain ask) setting ask.nodes.now number (λ i. setting.terrain) asks.cut asks.turns
    ∙ ap (λ (ns : List ℕ). leg_of setting ns number) asks.nodes
