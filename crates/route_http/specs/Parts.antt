-- What the pairs of a query so far say. This project's own rule.
use Rattle.std.specs.Prelude.{ℕ, suc, ℤ, Bool, List, [], ◌∷◌, if◌then◌else◌, Option, Some, None, Result, Ok, Err}
use Rattle.item_list.specs.Answer.{and_then}
use Rattle.context_check.specs.Overrides.{is_overridden}
use Rattle.fixed_num.specs.Literal.{literal_of}
use Rattle.geo_int.specs.Place.{Place}
use Rattle.route_http.specs.declared.error.RequestError.{RequestError}
use Rattle.route_http.specs.declared.error.RequestError.TheVariants as error
use Rattle.route_http.specs.declared.form.Form.{Form}
use Rattle.route_http.specs.declared.key.Key.{Key}
use Rattle.route_http.specs.declared.key.Key.TheVariants.{Lonlats, Nogos, Profile, Alternativeidx, Format, Labels, Override, Runs, Cost, Sources, Destinations}
use Rattle.route_http.specs.Key.{key_of, variable_of, is_variable}
use Rattle.route_http.specs.List.{one_more}
use Rattle.route_http.specs.Numbers.{numbers_of}
use Rattle.route_http.specs.Value.{formed, waypoints_of, circles_of, profile_of, digit_of, form_of, labels_of, runs_of, cost_of, override_of}

-- the values of the keys that came, and the overrides that came; and whether a cost may come, and whether sources and
-- destinations may
pub record Parts : Type 0 where
  pub waypoints : Option (List Place)
  pub circles : Option (List (Place × ℕ))
  pub profile : Option (List ℕ)
  pub alternative : Option ℕ
  pub form : Option Form
  pub labels : Option ℕ
  pub overrides : List (List ℕ × ℤ)
  pub runs : Option Bool
  pub costed : Bool
  pub cost : Option ℕ
  pub tabled : Bool
  pub sources : Option (List ℕ)
  pub destinations : Option (List ℕ)

-- no pair came
abbrev pub no_parts : (costed tabled : Bool) → Parts
no_parts costed tabled = record {
  waypoints = None;
  circles = None;
  profile = None;
  alternative = None;
  form = None;
  labels = None;
  overrides = [];
  runs = None;
  costed = costed;
  cost = None;
  tabled = tabled;
  sources = None;
  destinations = None;
}

-- the value of a key that hasn't come before
abbrev pub once : {A B : Type 0} → Key → Option B → Result A RequestError → Result A RequestError
once key None value = value
once key (Some before) value = Err (error.Repeated key)

-- one more override: of a variable, once, of a literal within range, and at most 64
abbrev pub override_more : List ℕ → List ℕ → List (List ℕ × ℤ) → Result (List (List ℕ × ℤ)) RequestError
override_more variable value before =
    if is_variable variable
    then (if is_overridden before variable then Err (error.Repeated Override)
    else one_more Override 64 before (override_of variable (literal_of value)))
    else Err (error.BadValue Override)

-- what a pair of this key adds
unfoldable pub take_keyed : Key → List ℕ → List ℕ → Parts → Result Parts RequestError
take_keyed Lonlats name value p =
    and_then (once Lonlats p.waypoints (waypoints_of value)) (λ x. Ok (record p { waypoints = Some x }))
take_keyed Nogos name value p =
    and_then (once Nogos p.circles (circles_of value)) (λ x. Ok (record p { circles = Some x }))
take_keyed Profile name value p =
    and_then (once Profile p.profile (formed Profile (profile_of value)))
    (λ x. Ok (record p { profile = Some x }))
take_keyed Alternativeidx name value p =
    and_then (once Alternativeidx p.alternative (formed Alternativeidx (digit_of 3 value)))
    (λ x. Ok (record p { alternative = Some x }))
take_keyed Format name value p =
    and_then (once Format p.form (form_of value)) (λ x. Ok (record p { form = Some x }))
take_keyed Labels name value p =
    and_then (once Labels p.labels (formed Labels (labels_of value))) (λ x. Ok (record p { labels = Some x }))
take_keyed Override name value p =
    and_then (override_more (variable_of name) value p.overrides) (λ x. Ok (record p { overrides = x }))
take_keyed Runs name value p =
    and_then (once Runs p.runs (formed Runs (runs_of value))) (λ x. Ok (record p { runs = Some x }))
take_keyed Cost name value p =
    and_then (once Cost p.cost (formed Cost (cost_of value))) (λ x. Ok (record p { cost = Some x }))
take_keyed Sources name value p =
    and_then (once Sources p.sources (numbers_of Sources value)) (λ x. Ok (record p { sources = Some x }))
take_keyed Destinations name value p =
    and_then (once Destinations p.destinations (numbers_of Destinations value))
    (λ x. Ok (record p { destinations = Some x }))

-- what a pair adds whose name is this key, if it is one
abbrev pub take_named : (key : Option Key) (place : ℕ) (name value : List ℕ) (parts : Parts)
    → Result Parts RequestError
take_named None place name value p = Err (error.UnknownKey place)
take_named (Some key) place name value p = take_keyed key name value p

-- what the pair at a place adds
unfoldable pub take_pair : ℕ → List ℕ × List ℕ → Parts → Result Parts RequestError
take_pair place pair p = take_named (key_of p.costed p.tabled pair.0) place pair.0 pair.1 p

-- what the pairs from a place on add, one after the other: the first at fault counts
abbrev pub take_pairs : ℕ → List (List ℕ × List ℕ) → Parts → Result Parts RequestError
take_pairs place [] p = Ok p
take_pairs place (pair ∷ pairs) p = and_then (take_pair place pair p) (take_pairs (suc place) pairs)
