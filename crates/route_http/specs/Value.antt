-- The values of a query's keys. This project's own rule.
use Rattle.std.specs.Prelude.{ℕ, ◌+◌, ◌-◌, ◌/◌, ◌==◌, Bool, ◌&&◌, nat_lt, nat_le, ℤ, pos, unsigned_abs, cond, List, [], ◌∷◌, length, if◌then◌else◌, Option, Some, None, option_map, Result, Ok, Err, codes, bytes_eq}
use Rattle.std.specs.Int.{is_negative}
use Rattle.std.specs.List.{before_first, after_first}
use Rattle.std.specs.Str.{all_ascii_digits}
use Rattle.item_list.specs.Answer.{and_then}
use Rattle.fixed_num.specs.declared.coordinate.CoordError.{CoordError}
use Rattle.fixed_num.specs.declared.literal.NumError.{NumError}
use Rattle.fixed_num.specs.Coordinate.{coordinate_of}
use Rattle.fixed_num.specs.Decimal.{digits_after}
use Rattle.fixed_num.specs.Literal.{literal_of}
use Rattle.geo_int.specs.Place.{Place, place}
use Rattle.route_http.specs.declared.error.RequestError.{RequestError}
use Rattle.route_http.specs.declared.error.RequestError.TheVariants as error
use Rattle.route_http.specs.declared.form.Form.{Form}
use Rattle.route_http.specs.declared.form.Form.TheVariants as form
use Rattle.route_http.specs.declared.key.Key.{Key}
use Rattle.route_http.specs.declared.key.Key.TheVariants as key
use Rattle.route_http.specs.List.{parts_of, items_of}

-- a value that has to be well formed
abbrev pub formed : {A : Type 0} → Key → Option A → Result A RequestError
formed key None = Err (error.BadValue key)
formed key (Some a) = Ok a

-- ---- Places

-- what stands before the first comma
abbrev pub before_comma : List ℕ → List ℕ
before_comma text = before_first (λ b. b == 44) text

-- what stands after the first comma
abbrev pub after_comma : List ℕ → List ℕ
after_comma text = after_first (λ b. b == 44) text

-- the place at a longitude and a latitude, where both are coordinates
abbrev pub place_at : Result ℤ CoordError → Result ℤ CoordError → Option Place
place_at (Err e) lat = None
place_at (Ok lon) (Err e) = None
place_at (Ok lon) (Ok lat) = Some (place lon lat)

-- the place that two texts give, the longitude within 180 degrees and the latitude within 90
unfoldable pub place_by : List ℕ → List ℕ → Option Place
place_by lon lat = place_at (coordinate_of (pos 180000000) lon) (coordinate_of (pos 90000000) lat)

-- the place of a text `lon,lat`
abbrev pub place_of_text : List ℕ → Option Place
place_of_text text = place_by (before_comma text) (after_comma text)

-- two waypoints or more
abbrev pub some_leg : List Place → Result (List Place) RequestError
some_leg waypoints = if nat_lt (length waypoints) 2 then Err (error.BadValue key.Lonlats) else Ok waypoints

-- waypoints: at most 100 places, and at least two, which is judged at the end
abbrev pub waypoints_of : List ℕ → Result (List Place) RequestError
waypoints_of value = and_then (items_of place_of_text key.Lonlats 100 [] (parts_of 124 value)) some_leg

-- ---- Circles

-- millionths of a metre cut to millimetres, where those are at most 100,000 metres
abbrev pub millimetres_of : Result ℤ NumError → Option ℕ
millimetres_of (Err e) = None
millimetres_of (Ok n) =
    if nat_le (unsigned_abs n / 1000) 100000000 then Some (unsigned_abs n / 1000) else None

-- the radius of a text in metres without a sign
unfoldable pub radius_of : List ℕ → Option ℕ
radius_of [] = None
radius_of (c ∷ cs) = if c == 45 then None else millimetres_of (literal_of (c ∷ cs))

-- a centre with its radius
abbrev pub circle_at : Option Place → Option ℕ → Option (Place × ℕ)
circle_at None radius = None
circle_at (Some centre) None = None
circle_at (Some centre) (Some radius) = Some (centre, radius)

-- the circle of a text `lon,lat,radius`
abbrev pub circle_of_text : List ℕ → Option (Place × ℕ)
circle_of_text text =
    circle_at (place_by (before_comma text) (before_comma (after_comma text)))
    (radius_of (after_comma (after_comma text)))

-- circles: nothing, or at most 64
abbrev pub circles_of : List ℕ → Result (List (Place × ℕ)) RequestError
circles_of [] = Ok []
circles_of (c ∷ cs) = items_of circle_of_text key.Nogos 64 [] (parts_of 124 (c ∷ cs))

-- ---- Single values

-- a name of a profile: some text
abbrev pub profile_of : List ℕ → Option (List ℕ)
profile_of [] = None
profile_of (c ∷ cs) = Some (c ∷ cs)

-- the number of one digit up to the greatest
abbrev pub digit_of : ℕ → List ℕ → Option ℕ
digit_of most [] = None
digit_of most (c ∷ []) = if nat_le 48 c && nat_le c (48 + most) then Some (c - 48) else None
digit_of most (c ∷ d ∷ ds) = None

-- whether runs are searched: 0 or 1
abbrev pub runs_of : List ℕ → Option Bool
runs_of value = option_map (λ digit. digit == 1) (digit_of 1 value)

-- the form of the reply; two that others offer aren't offered here
unfoldable pub form_of : List ℕ → Result Form RequestError
form_of value =
    if bytes_eq value (codes "geojson") then Ok form.GeoJson
    else (if bytes_eq value (codes "csv") then Ok form.Csv
    else (if bytes_eq value (codes "gpx") then Err error.Format
    else (if bytes_eq value (codes "kml") then Err error.Format else Err (error.BadValue key.Format))))

-- 1 to 10 digits
abbrev pub is_count : List ℕ → Bool
is_count value = nat_lt 0 (length value) && (nat_le (length value) 10 && all_ascii_digits value)

-- a number from 1 to 4,000,000,000
abbrev pub within_labels : ℕ → Option ℕ
within_labels n = if nat_le 1 n && nat_le n 4000000000 then Some n else None

-- the most labels
unfoldable pub labels_of : List ℕ → Option ℕ
labels_of value = if is_count value then within_labels (digits_after 0 value) else None

-- a number that was read and isn't negative, in millionths
abbrev pub unsigned_of : Result ℤ NumError → Option ℕ
unsigned_of (Err e) = None
unsigned_of (Ok n) = cond (is_negative n) None (Some (unsigned_abs n))

-- a cost: a number as a profile's literal spells it, which isn't negative
abbrev pub cost_of : List ℕ → Option ℕ
cost_of value = unsigned_of (literal_of value)

-- an override: the variable with its number, where that is a literal within range
abbrev pub override_of : List ℕ → Result ℤ NumError → Option (List ℕ × ℤ)
override_of variable (Err e) = None
override_of variable (Ok n) = Some (variable, n)
