-- A question has one setting, and so the legs that it has are one list.
use Rattle.std.proofs.Common.{◌≡◌, ℕ, inl, inr, Bool, List, length, Ok, sym, ap, ◌∙◌, subst, arith}
use Rattle.std.proofs.lemmas.Bool.{cases_lt}
use Rattle.cost_model.specs.Rides.{Setting}
use Rattle.cost_model.specs.declared.facts.LinkFacts.{LinkFacts}
use Rattle.overpass_graph.specs.Maps.{MapValue}
use Rattle.ride_certificates.specs.Grounds.{HasLegs}
use Rattle.route_engine.proofs.WaypointLemmas.{nodes-or-refusal, nodes-same}
use Rattle.route_engine.specs.Refusals.{IsEarly, profile, waypoint}
use Rattle.route_engine.specs.Settings.{IsSettingOf, Question, open_map_of}
use Rattle.route_engine.specs.Waypoints.{AreNodes}
use Rattle.route_ready.specs.Readiness.{Terms, ready_of}
use Rattle.route_ready.specs.declared.error.RouteError.{RouteError}

-- functions that agree everywhere are one
functions-same : {A B : Type 0} {f g : A → B} → ((x : A) → f x ≡ g x) → f ≡ g
functions-same same = λ i x. same x i

-- a setting of its parts
abbrev setting_from : MapValue → ℕ → (ℕ → LinkFacts) → Terms → List Bool → Setting
setting_from map count facts terms cut = record {
  terrain = record { map = map; links = record { count = count; facts = facts }; prices = terms.prices };
  cut = cut;
  turns = terms.turns;
}

-- the terms of a setting
abbrev terms_on : Setting → Terms
terms_on setting = record { prices = setting.terrain.prices; turns = setting.turns }

-- settings of the same parts are one
parts-same : (a b : Setting) → a.terrain.map ≡ b.terrain.map → a.terrain.links.count ≡ b.terrain.links.count →
    a.terrain.links.facts ≡ b.terrain.links.facts → terms_on a ≡ terms_on b → a.cut ≡ b.cut → a ≡ b
parts-same a b maps counts facts terms cuts =
    ap (λ (m : MapValue). setting_from m a.terrain.links.count a.terrain.links.facts (terms_on a) a.cut) maps
    ∙ ap (λ (n : ℕ). setting_from b.terrain.map n a.terrain.links.facts (terms_on a) a.cut) counts
    ∙ ap (λ (f : ℕ → LinkFacts). setting_from b.terrain.map b.terrain.links.count f (terms_on a) a.cut) facts
    ∙ ap (λ (t : Terms). setting_from b.terrain.map b.terrain.links.count b.terrain.links.facts t a.cut) terms
    ∙ ap (setting_from b.terrain.map b.terrain.links.count b.terrain.links.facts (terms_on b)) cuts

module _ (question : Question) (a b : Setting) (one : IsSettingOf question a) (other : IsSettingOf question b) where
  -- the facts of a link are one
  facts-same : (link : ℕ) → a.terrain.links.facts link ≡ b.terrain.links.facts link
  facts-same link = elim (cases_lt link (length question.binding.map.links)) [
    | inl below ↦ one.facts link below ∙ sym (other.facts link below)
    | inr past ↦ one.beyond link (omega (arith, past)) ∙ sym (other.beyond link (omega (arith, past)))
  ]

  -- so are the terms
  terms-same : terms_on a ≡ terms_on b
  terms-same =
      let first : ready_of question.binding ≡ Ok (terms_on a) = one.accepted in
      let second : ready_of question.binding ≡ Ok (terms_on b) = other.accepted in
      cc

  -- so are the settings
  pub setting-same : a ≡ b
  setting-same =
      parts-same a b (one.map ∙ sym other.map) (one.count ∙ sym other.count)
      (functions-same facts-same) terms-same (one.cut ∙ sym other.cut)

module _ (question : Question) (a : Setting) (nodes : List ℕ) (legs : HasLegs question a nodes) where
  -- the nodes of the waypoints over another such setting
  moved : (b : Setting) → IsSettingOf question b → AreNodes (open_map_of b) question.asked.waypoints nodes
  moved b over =
      subst (λ (s : Setting). AreNodes (open_map_of s) question.asked.waypoints nodes) (setting-same question a b legs.over over)
      legs.are

  -- the legs of a question are one list
  pub legs-same : (b : Setting) (others : List ℕ) → HasLegs question b others → (a ≡ b) × (nodes ≡ others)
  legs-same b others other = (
    setting-same question a b legs.over other.over,
    nodes-same (open_map_of b) question.asked.waypoints nodes others (moved b other.over) other.are,
  )

  -- a question that has legs isn't one that has none
  pub never-none : (e : RouteError) → IsEarly question e → ⊥
  never-none e (profile is) =
      let both = sym legs.over.accepted ∙ is in
      cc
  never-none e (waypoint {setting = b} over refuses) =
      nodes-or-refusal (open_map_of b) question.asked.waypoints nodes e (moved b over) refuses
