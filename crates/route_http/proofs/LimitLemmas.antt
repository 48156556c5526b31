-- A request that was read is within the limits of its keys.
use Rattle.std.proofs.Common.{◌≡◌, ℕ, zero, suc, ◌+◌, ◌≤◌, ◌<◌, Bool, true, false, ◌&&◌, ◌||◌, not, nat_lt, nat_le, List, [], ◌∷◌, ◌++◌, length, get_or, Option, Some, None, Result, Ok, Err, refl, ap, sym, arith, length-append, subst}
use Rattle.std.proofs.lemmas.Bool.Decides.{nat_tests}
use Rattle.std.specs.Prelude.{if◌then◌else◌, is_some, unwrap_or}
use Rattle.geo_int.specs.Place.{Place}
use Rattle.item_list.specs.Answer.{and_then}
use Rattle.fixed_num.specs.Decimal.{digits_after}
use Rattle.route_http.specs.Asked.{Asked}
use Rattle.route_http.specs.List.{one_more, items_of, parts_of}
use Rattle.route_http.specs.Key.{key_of, variable_of}
use Rattle.route_http.specs.Numbers.{AreBelow, all_below, number_in, numbers_of, once_each}
use Rattle.route_http.specs.Parts.{Parts, no_parts, once, override_more, take_keyed, take_named, take_pair, take_pairs}
use Rattle.route_http.specs.Request.{finish, pairs_of, request_by, request_of, whole, with_cost, with_form, with_numbers}
use Rattle.route_http.specs.Value.{formed, some_leg, waypoints_of, place_of_text, digit_of, labels_of, is_count, within_labels}
use Rattle.route_http.specs.declared.error.RequestError.{RequestError}
use Rattle.route_http.specs.declared.error.RequestError.TheVariants as error
use Rattle.route_http.specs.declared.form.Form.{Form}
use Rattle.route_http.specs.declared.form.Form.TheVariants.{GeoJson}
use Rattle.route_http.specs.declared.key.Key.{Key}
use Rattle.route_http.specs.declared.key.Key.TheVariants.{Lonlats, Nogos, Profile, Alternativeidx, Format, Labels, Override, Runs, Cost, Sources, Destinations}

-- ---- What goes on

-- what went on had a value
record Went {A B E : Type 0} (r : Result A E) (go : A → Result B E) (b : B) : Type 0 where
  value : A
  given : r ≡ Ok value
  rest : go value ≡ Ok b

went : {A B E : Type 0} (r : Result A E) (go : A → Result B E) (b : B) → and_then r go ≡ Ok b → Went r go b
went (Ok a) go b is = record { value = a; given = refl; rest = is }
went (Err e) go b is = cc

-- a value that comes once is the value
once-is : {A B : Type 0} (key : Key) (before : Option B) (value : Result A RequestError) (a : A) → once key before value ≡ Ok a →
    value ≡ Ok a
once-is key None value a is = is
once-is key (Some b) value a is = cc

-- a value that is well formed is there
formed-is : {A : Type 0} (key : Key) (value : Option A) (a : A) → formed key value ≡ Ok a → value ≡ Some a
formed-is key None a is = cc
formed-is key (Some b) a is = let same : b ≡ a = cc in ap Some same

-- a test that gives a value holds, and the value is the given one
record Holds {A : Type 0} (test : Bool) (a b : A) : Type 0 where
  test_is : test ≡ true
  same : a ≡ b

holds-some : {A : Type 0} (test : Bool) (a b : A) → (if test then Some a else None) ≡ Some b → Holds test a b
holds-some true a b is = record { test_is = refl; same = cc }
holds-some false a b is = cc

-- two tests that hold together hold each
both-true : (a b : Bool) → (a && b) ≡ true → (a ≡ true) × (b ≡ true)
both-true true b is = (refl, is)
both-true false b is = cc

-- a test that gives an answer holds, and its value is the given one
holds-ok : {A E : Type 0} (test : Bool) (a b : A) (e : E) → (if test then Ok a else Err e) ≡ Ok b → Holds test a b
holds-ok true a b e is = record { test_is = refl; same = cc }
holds-ok false a b e is = cc

refused-ok : {A E : Type 0} (test : Bool) (a b : A) (e : E) → (if test then Err e else Ok a) ≡ Ok b → (test ≡ false) × (a ≡ b)
refused-ok true a b e is = cc
refused-ok false a b e is = (refl, cc)

-- ---- Lists

-- one item more leaves a list within the most
one-few : {A : Type 0} (key : Key) (most : ℕ) (before : List A) (item : Option A) (items : List A) →
    one_more key most before item ≡ Ok items → length items ≤ most
one-few key most before None items is = cc
one-few key most before (Some item) items is =
    let held = holds-ok (nat_lt (length before) most) (before ++ item ∷ []) items (error.TooMany key) is in
    let long : length items ≡ length before + 1 = omega (arith, ap length held.same, length-append before (item ∷ [])) in
    let room : suc (length before) ≤ most = let test = held.test_is in grind (arith, nat_tests) in
    omega (arith, long, room)

-- all items are within the most
items-few : {A : Type 0} (read : List ℕ → Option A) (key : Key) (most : ℕ) (before : List A) (texts : List (List ℕ)) (items : List A) →
    length before ≤ most → items_of read key most before texts ≡ Ok items → length items ≤ most
items-few read key most before [] items few is = let same : before ≡ items = cc in subst (λ (l : List _). length l ≤ most) same few
items-few read key most before (text ∷ texts) items few is =
    let w = went (one_more key most before (read text)) (λ more. items_of read key most more texts) items is in
    items-few read key most w.value texts items (one-few key most before (read text) w.value w.given) w.rest

-- ---- Values

-- two to 100 waypoints
waypoints-fit : (value : List ℕ) (waypoints : List Place) → waypoints_of value ≡ Ok waypoints →
    (2 ≤ length waypoints) × (length waypoints ≤ 100)
waypoints-fit value waypoints is =
    let w = went (items_of place_of_text Lonlats 100 [] (parts_of 124 value)) some_leg waypoints is in
    let leg = refused-ok (nat_lt (length w.value) 2) w.value waypoints (error.BadValue Lonlats) w.rest in
    let some : 2 ≤ length w.value = let test = leg.0 in grind (arith, nat_tests) in
    let few : length w.value ≤ 100 = items-few place_of_text Lonlats 100 [] (parts_of 124 value) w.value (omega arith) w.given in
    subst (λ (l : List Place). (2 ≤ length l) × (length l ≤ 100)) leg.1 (some, few)

-- a digit is no more than the greatest
digit-fits : (most : ℕ) (value : List ℕ) (n : ℕ) → digit_of most value ≡ Some n → n ≤ most
digit-fits most [] n is = cc
digit-fits most (c ∷ []) n is =
    let held = holds-some (nat_le 48 c && nat_le c (48 + most)) _ n is in
    let test = held.test_is in
    let same = held.same in
    grind (arith, nat_tests)
digit-fits most (c ∷ d ∷ ds) n is = cc

-- labels are no more than 4,000,000,000
labels-fit : (value : List ℕ) (n : ℕ) → labels_of value ≡ Some n → n ≤ 4000000000
unfolding labels_of
labels-fit value n is = go (is_count value) is
  where
    within : (m : ℕ) → within_labels m ≡ Some n → n ≤ 4000000000
    within m given =
        let held = holds-some (nat_le 1 m && nat_le m 4000000000) m n given in
        let test = held.test_is in
        let same = held.same in
        grind (arith, nat_tests)

    go : (test : Bool) → (if test then within_labels (digits_after 0 value) else None) ≡ Some n → n ≤ 4000000000
    go true given = within (digits_after 0 value) given
    go false given = cc

-- numbers are at most 100
numbers-fit : (key : Key) (value : List ℕ) (numbers : List ℕ) → numbers_of key value ≡ Ok numbers → length numbers ≤ 100
numbers-fit key value numbers is =
    let w = went (items_of number_in key 100 [] (parts_of 59 value)) (once_each key) numbers is in
    let same = (holds-ok _ w.value numbers (error.BadValue key) w.rest).same in
    let few : length w.value ≤ 100 = items-few number_in key 100 [] (parts_of 59 value) w.value (omega arith) w.given in
    subst (λ (l : List ℕ). length l ≤ 100) same few

-- ---- Pairs

-- the values that came are within their limits
record AreLimited (p : Parts) : Type 0 where
  waypoints : (l : List Place) → p.waypoints ≡ Some l → (2 ≤ length l) × (length l ≤ 100)
  alternative : (n : ℕ) → p.alternative ≡ Some n → n ≤ 3
  labels : (n : ℕ) → p.labels ≡ Some n → n ≤ 4000000000
  sources : (l : List ℕ) → p.sources ≡ Some l → length l ≤ 100
  destinations : (l : List ℕ) → p.destinations ≡ Some l → length l ≤ 100

-- what a pair adds is within its limits
keyed-limited : (key : Key) (name value : List ℕ) (p q : Parts) → AreLimited p → take_keyed key name value p ≡ Ok q → AreLimited q
unfolding take_keyed
keyed-limited Lonlats name value p q are is =
    let w = went (once Lonlats p.waypoints (waypoints_of value)) _ q is in
    let new : Parts = record p { waypoints = Some w.value } in
    let same : new ≡ q = let rest = w.rest in cc in
    let fits = waypoints-fit value w.value (once-is Lonlats p.waypoints (waypoints_of value) w.value w.given) in
    subst AreLimited same
    (record {
      waypoints = λ l e. let here : w.value ≡ l = cc in subst (λ (x : List Place). (2 ≤ length x) × (length x ≤ 100)) here fits;
      alternative = are.alternative;
      labels = are.labels;
      sources = are.sources;
      destinations = are.destinations;
    })
keyed-limited Nogos name value p q are is =
    let w = went (once Nogos p.circles _) _ q is in
    let new : Parts = record p { circles = Some w.value } in
    let same : new ≡ q = let rest = w.rest in cc in
    subst AreLimited same (record { waypoints = are.waypoints; alternative = are.alternative; labels = are.labels; sources = are.sources; destinations = are.destinations })
keyed-limited Profile name value p q are is =
    let w = went (once Profile p.profile _) _ q is in
    let new : Parts = record p { profile = Some w.value } in
    let same : new ≡ q = let rest = w.rest in cc in
    subst AreLimited same (record { waypoints = are.waypoints; alternative = are.alternative; labels = are.labels; sources = are.sources; destinations = are.destinations })
keyed-limited Alternativeidx name value p q are is =
    let w = went (once Alternativeidx p.alternative (formed Alternativeidx (digit_of 3 value))) _ q is in
    let new : Parts = record p { alternative = Some w.value } in
    let same : new ≡ q = let rest = w.rest in cc in
    let given = formed-is Alternativeidx (digit_of 3 value) w.value
    (once-is Alternativeidx p.alternative (formed Alternativeidx (digit_of 3 value)) w.value w.given) in
    let fits = digit-fits 3 value w.value given in
    subst AreLimited same
    (record {
      waypoints = are.waypoints;
      alternative = λ n e. let here : w.value ≡ n = cc in subst (λ (x : ℕ). x ≤ 3) here fits;
      labels = are.labels;
      sources = are.sources;
      destinations = are.destinations;
    })
keyed-limited Format name value p q are is =
    let w = went (once Format p.form _) _ q is in
    let new : Parts = record p { form = Some w.value } in
    let same : new ≡ q = let rest = w.rest in cc in
    subst AreLimited same (record { waypoints = are.waypoints; alternative = are.alternative; labels = are.labels; sources = are.sources; destinations = are.destinations })
keyed-limited Labels name value p q are is =
    let w = went (once Labels p.labels (formed Labels (labels_of value))) _ q is in
    let new : Parts = record p { labels = Some w.value } in
    let same : new ≡ q = let rest = w.rest in cc in
    let given = formed-is Labels (labels_of value) w.value (once-is Labels p.labels (formed Labels (labels_of value)) w.value w.given) in
    let fits = labels-fit value w.value given in
    subst AreLimited same
    (record {
      waypoints = are.waypoints;
      alternative = are.alternative;
      labels = λ n e. let here : w.value ≡ n = cc in subst (λ (x : ℕ). x ≤ 4000000000) here fits;
      sources = are.sources;
      destinations = are.destinations;
    })
keyed-limited Override name value p q are is =
    let w = went (override_more (variable_of name) value p.overrides) (λ x. Ok (record p { overrides = x })) q is in
    let new : Parts = record p { overrides = w.value } in
    let same : new ≡ q = let rest = w.rest in cc in
    subst AreLimited same (record { waypoints = are.waypoints; alternative = are.alternative; labels = are.labels; sources = are.sources; destinations = are.destinations })
keyed-limited Runs name value p q are is =
    let w = went (once Runs p.runs _) _ q is in
    let new : Parts = record p { runs = Some w.value } in
    let same : new ≡ q = let rest = w.rest in cc in
    subst AreLimited same (record { waypoints = are.waypoints; alternative = are.alternative; labels = are.labels; sources = are.sources; destinations = are.destinations })
keyed-limited Cost name value p q are is =
    let w = went (once Cost p.cost _) _ q is in
    let new : Parts = record p { cost = Some w.value } in
    let same : new ≡ q = let rest = w.rest in cc in
    subst AreLimited same (record { waypoints = are.waypoints; alternative = are.alternative; labels = are.labels; sources = are.sources; destinations = are.destinations })
keyed-limited Sources name value p q are is =
    let w = went (once Sources p.sources (numbers_of Sources value)) _ q is in
    let new : Parts = record p { sources = Some w.value } in
    let same : new ≡ q = let rest = w.rest in cc in
    let fits = numbers-fit Sources value w.value (once-is Sources p.sources (numbers_of Sources value) w.value w.given) in
    let sources : (l : List ℕ) → new.sources ≡ Some l → length l ≤ 100 =
    λ l e. let here : w.value ≡ l = cc in subst (λ (x : List ℕ). length x ≤ 100) here fits in
    subst AreLimited same (record {
      waypoints = are.waypoints;
      alternative = are.alternative;
      labels = are.labels;
      sources = sources;
      destinations = are.destinations;
    })
keyed-limited Destinations name value p q are is =
    let w = went (once Destinations p.destinations (numbers_of Destinations value)) _ q is in
    let new : Parts = record p { destinations = Some w.value } in
    let same : new ≡ q = let rest = w.rest in cc in
    let fits = numbers-fit Destinations value w.value (once-is Destinations p.destinations (numbers_of Destinations value) w.value w.given) in
    let destinations : (l : List ℕ) → new.destinations ≡ Some l → length l ≤ 100 =
    λ l e. let here : w.value ≡ l = cc in subst (λ (x : List ℕ). length x ≤ 100) here fits in
    subst AreLimited same (record {
      waypoints = are.waypoints;
      alternative = are.alternative;
      labels = are.labels;
      destinations = destinations;
      sources = are.sources;
    })

-- so is what a pair of any name adds
pair-limited : (place : ℕ) (pair : List ℕ × List ℕ) (p q : Parts) → AreLimited p → take_pair place pair p ≡ Ok q → AreLimited q
unfolding take_pair
pair-limited place pair p q are is = go (key_of p.costed p.tabled pair.0) is
  where
    go : (key : Option Key) → take_named key place pair.0 pair.1 p ≡ Ok q → AreLimited q
    go None e = cc
    go (Some key) e = keyed-limited key pair.0 pair.1 p q are e

-- and what all pairs add
pairs-limited : (place : ℕ) (pairs : List (List ℕ × List ℕ)) (p q : Parts) → AreLimited p → take_pairs place pairs p ≡ Ok q → AreLimited q
pairs-limited place [] p q are is = let same : p ≡ q = cc in subst AreLimited same are
pairs-limited place (pair ∷ pairs) p q are is =
    let w = went (take_pair place pair p) (take_pairs (suc place) pairs) q is in
    pairs-limited (suc place) pairs w.value q (pair-limited place pair p w.value are w.given) w.rest

none-limited : (costed tabled : Bool) → AreLimited (no_parts costed tabled)
none-limited costed tabled = record {
  waypoints = λ l e. cc;
  alternative = λ n e. cc;
  labels = λ n e. cc;
  sources = λ l e. cc;
  destinations = λ l e. cc;
}

-- ---- Requests

-- two to 100 waypoints, alternatives 0 to 3, at most 4,000,000,000 labels, and sources and destinations among the
-- waypoints
pub record IsLimited (asked : Asked) : Type 0 where
  pub some : 2 ≤ length asked.waypoints
  pub few : length asked.waypoints ≤ 100
  pub alternative : asked.alternative ≤ 3
  pub labels : asked.labels ≤ 4000000000
  pub sources : AreBelow (length asked.waypoints) asked.sources
  pub destinations : AreBelow (length asked.waypoints) asked.destinations

-- a value within a limit, or the one that stands for it
or-fits : (most given : ℕ) (value : Option ℕ) → given ≤ most → ((n : ℕ) → value ≡ Some n → n ≤ most) → unwrap_or value given ≤ most
or-fits most given None fits each = fits
or-fits most given (Some n) fits each = each n refl

-- so are numbers, or none
or-few : (value : Option (List ℕ)) → ((l : List ℕ) → value ≡ Some l → length l ≤ 100) → length (unwrap_or value []) ≤ 100
or-few None each = omega arith
or-few (Some l) each = each l refl

-- numbers that are tested are below their count
below-each : (count : ℕ) (numbers : List ℕ) → all_below count numbers ≡ true → (k : ℕ) → k < length numbers → get_or numbers k 0 < count
below-each count [] test k there = absurd (omega (arith, there))
below-each count (n ∷ ns) test zero there =
    let first : nat_lt n count ≡ true = (both-true (nat_lt n count) (all_below count ns) test).0 in
    grind (arith, nat_tests)
below-each count (n ∷ ns) test (suc k) there =
    below-each count ns (both-true (nat_lt n count) (all_below count ns) test).1 k (omega (arith, there))

-- a request whose numbers are tested is the one that was given, and they are below the count of its waypoints
record Numbered (given asked : Asked) : Type 0 where
  same : given ≡ asked
  sources : all_below (length given.waypoints) given.sources ≡ true
  destinations : all_below (length given.waypoints) given.destinations ≡ true

numbered : (given asked : Asked) → with_numbers given ≡ Ok asked → Numbered given asked
numbered given asked is =
    go (all_below (length given.waypoints) given.sources) (all_below (length given.waypoints) given.destinations) refl refl is
  where
    go : (a b : Bool) → all_below (length given.waypoints) given.sources ≡ a → all_below (length given.waypoints) given.destinations ≡ b →
        (if a then (if b then Ok given else Err (error.BadValue Destinations)) else Err (error.BadValue Sources)) ≡ Ok asked → Numbered given asked
    go true true first second e = record { same = cc; sources = first; destinations = second }
    go true false first second e = cc
    go false b first second e = cc

-- the request of values that are within their limits
finish-limited : (p : Parts) (asked : Asked) → AreLimited p → finish p ≡ Ok asked → IsLimited asked
unfolding finish
finish-limited p asked are is = go p.waypoints refl is
  where
    made : (w : List Place) → p.waypoints ≡ Some w → Numbered (whole p) asked → IsLimited (whole p)
    made w there is_numbered =
        let fits = are.waypoints w there in
        let same : unwrap_or p.waypoints [] ≡ w = ap (λ (o : Option (List Place)). unwrap_or o []) there in
        record {
          some = subst (λ (l : List Place). 2 ≤ length l) (sym same) fits.0;
          few = subst (λ (l : List Place). length l ≤ 100) (sym same) fits.1;
          alternative = or-fits 3 0 p.alternative (omega arith) are.alternative;
          labels = or-fits 4000000000 10000000 p.labels (omega arith) are.labels;
          sources = record {
            few = or-few p.sources are.sources;
            each = below-each (length (whole p).waypoints) (whole p).sources is_numbered.sources;
          };
          destinations = record {
            few = or-few p.destinations are.destinations;
            each = below-each (length (whole p).waypoints) (whole p).destinations is_numbered.destinations;
          };
        }

    named : (profile : Bool) → (if profile then with_cost p else Err (error.Missing Profile)) ≡ Ok asked → Numbered (whole p) asked
    named true e = numbered (whole p) asked (costed (not p.costed || is_some p.cost) e)
      where
        costed : (test : Bool) → (if test then with_numbers (whole p) else Err (error.Missing Cost)) ≡ Ok asked →
            with_numbers (whole p) ≡ Ok asked
        costed true given = given
        costed false given = cc
    named false e = cc

    go : (waypoints : Option (List Place)) → p.waypoints ≡ waypoints →
        (if is_some waypoints then (if is_some p.profile then with_cost p else Err (error.Missing Profile)) else Err
        (error.Missing Lonlats)) ≡ Ok asked →
        IsLimited asked
    go None there e = cc
    go (Some w) there e =
        let is_numbered = named (is_some p.profile) e in
        subst IsLimited is_numbered.same (made w there is_numbered)

-- a request that was read is within its limits
pub read-limited : (costed tabled : Bool) (form : Form) (query : List ℕ) (asked : Asked) → request_by costed tabled form query ≡ Ok asked →
    IsLimited asked
unfolding request_by
read-limited costed tabled form query asked is =
    let w = went (take_pairs 0 (pairs_of query) (no_parts costed tabled)) (λ p. finish (with_form form p)) asked is in
    let are = pairs-limited 0 (pairs_of query) (no_parts costed tabled) w.value (none-limited costed tabled) w.given in
    finish-limited (with_form form w.value) asked
    (record {
      waypoints = are.waypoints;
      alternative = are.alternative;
      labels = are.labels;
      sources = are.sources;
      destinations = are.destinations;
    }) w.rest

-- so it is of one without a cost
pub request-limited : (query : List ℕ) (asked : Asked) → request_of query ≡ Ok asked → IsLimited asked
request-limited query asked is = read-limited false false GeoJson query asked is
