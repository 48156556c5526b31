-- The request of a query, read as form data by the URL Standard. The keys are this project's own rule.
use Rattle.std.specs.Prelude.{ℕ, Bool, true, false, not, ◌||◌, List, [], length, map, if◌then◌else◌, is_some, unwrap_or, Some, Result, Ok, Err}
use Rattle.std.specs.Str.Lossy.{utf8_lossy}
use Rattle.form_urlencoded.specs.Form.{raw_pairs, decode}
use Rattle.item_list.specs.Answer.{and_then}
use Rattle.route_http.specs.Asked.{Asked}
use Rattle.route_http.specs.Numbers.{all_below}
use Rattle.route_http.specs.Parts.{Parts, no_parts, take_pairs}
use Rattle.route_http.specs.declared.error.RequestError.{RequestError}
use Rattle.route_http.specs.declared.error.RequestError.TheVariants as error
use Rattle.route_http.specs.declared.form.Form.{Form}
use Rattle.route_http.specs.declared.form.Form.TheVariants.{Csv, GeoJson}
use Rattle.route_http.specs.declared.key.Key.TheVariants.{Cost, Destinations, Lonlats, Profile, Sources}

-- the text that an encoded name or value stands for
abbrev pub decoded : List ℕ → List ℕ
decoded text = utf8_lossy (decode text)

-- a pair, decoded
abbrev pub decoded_pair : List ℕ × List ℕ → List ℕ × List ℕ
decoded_pair pair = (decoded pair.0, decoded pair.1)

-- the pairs of a query, decoded
abbrev pub pairs_of : List ℕ → List (List ℕ × List ℕ)
pairs_of query = map decoded_pair (raw_pairs query)

-- the values of the keys, with those that stand for keys that didn't come
abbrev pub whole : Parts → Asked
whole p = record {
  waypoints = unwrap_or p.waypoints [];
  circles = unwrap_or p.circles [];
  profile = unwrap_or p.profile [];
  alternative = unwrap_or p.alternative 0;
  form = unwrap_or p.form GeoJson;
  labels = unwrap_or p.labels 10000000;
  overrides = p.overrides;
  runs = unwrap_or p.runs false;
  cost = unwrap_or p.cost 0;
  sources = unwrap_or p.sources [];
  destinations = unwrap_or p.destinations [];
}

-- a request whose sources and destinations are numbers of its waypoints
abbrev pub with_numbers : Asked → Result Asked RequestError
with_numbers asked =
    if all_below (length asked.waypoints) asked.sources
    then (if all_below (length asked.waypoints) asked.destinations then Ok asked else Err
    (error.BadValue Destinations))
    else Err (error.BadValue Sources)

-- the request of pairs in which a cost is there, where one is asked for
abbrev pub with_cost : Parts → Result Asked RequestError
with_cost p = if not p.costed || is_some p.cost then with_numbers (whole p) else Err (error.Missing Cost)

-- the request of all pairs: the waypoints, then the profile and then a cost that is asked for have to be there; then
-- the sources and the destinations have to be waypoints
unfoldable pub finish : Parts → Result Asked RequestError
finish p =
    if is_some p.waypoints
    then (if is_some p.profile then with_cost p else Err (error.Missing Profile))
    else Err (error.Missing Lonlats)

-- pairs with this form, where none came
abbrev pub with_form : Form → Parts → Parts
with_form form p = record p { form = Some (unwrap_or p.form form) }

-- the request of a query, in which a cost is asked for or may not come, and in which sources and destinations may come
-- or not, in this form where none is asked for; or its first refusal
unfoldable pub request_by : (costed tabled : Bool) → Form → List ℕ → Result Asked RequestError
request_by costed tabled form query =
    and_then (take_pairs 0 (pairs_of query) (no_parts costed tabled)) (λ p. finish (with_form form p))

-- the request of a query without a cost, sources and destinations, or its first refusal
abbrev pub request_of : List ℕ → Result Asked RequestError
request_of query = request_by false false GeoJson query

-- the same, as lines where no form is asked for
abbrev pub lined_of : List ℕ → Result Asked RequestError
lined_of query = request_by false false Csv query

-- the request of a query that asks for what lies within a cost, or its first refusal
abbrev pub costed_of : List ℕ → Result Asked RequestError
costed_of query = request_by true false GeoJson query

-- the request of a query for costs between waypoints, in which sources and destinations may come, or its first refusal
abbrev pub tabled_of : List ℕ → Result Asked RequestError
tabled_of query = request_by false true GeoJson query
