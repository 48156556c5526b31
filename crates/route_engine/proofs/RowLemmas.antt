-- The rows of a list, one further; the parts of a list, one after the other; and the lists of all waypoints.
use Rattle.std.proofs.Common.{◌≡◌, ℕ, suc, ◌+◌, ◌<◌, List, [], ◌∷◌, ◌++◌, length, drop, get_or, Some, None, Result, Ok, Err, refl, sym, ap, ◌∙◌, arith, append_assoc, append-nil}
use Rattle.std.specs.Prelude.{OnOk, codes, if◌then◌else◌}
use Rattle.std.specs.Result.{is_ok}
use Rattle.std.specs.List.{flat_map, join_by}
use Rattle.std.proofs.lemmas.List.{drop_more}
use Rattle.overpass_graph.specs.Maps.{MapValue}
use Rattle.route_http.specs.declared.form.Form.{Form}
use Rattle.route_http.specs.declared.form.Form.TheVariants.{GeoJson, Csv}
use Rattle.track_reply.specs.Joined.{comma, comma_before}
use Rattle.track_reply.specs.Source.{Source}
use Rattle.route_engine.specs.Nearby.{Costed}
use Rattle.route_engine.specs.NearbyAnswers.{asked_part, costs_part, feature, feature_name, id_of, lines_from, list_part, near_cost, near_id, near_position, near_text, nearby_text, nodes_part, points_part, within_geojson, within_lines}
use Rattle.route_engine.specs.NearbyTexts.{GoesToPart, feature_begin, items_behind, items_from, lists_text, reply_head, rows_from}
use Rattle.route_engine.specs.declared.nearby_parts.Part.TheVariants.{Ids, Costs, Places, Lines}

-- where a call is Ok, what it leaves is the first of two
pub ok-leaves : {T E : Type 0} (r : Result T E) (new first second : List ℕ) → new ≡ (if is_ok r then first else second) → OnOk r (new ≡ first)
ok-leaves (Ok x) new first second is = is
ok-leaves (Err e) new first second is = tt

-- ---- Rows

-- one row more, behind its comma
pub items-more : {A : Type 0} (f : A → List ℕ) (xs : List A) (place : ℕ) (x d : A) (mid between new total : List ℕ) → place < length xs →
    x ≡ get_or xs place d → mid ++ items_behind f place xs ≡ total → between ≡ mid ++ comma_before place → new ≡ between ++ f x →
    new ++ items_behind f (place + 1) xs ≡ total
items-more f xs place x d mid between new total below is so_far parted added =
    let rest = items_from f (suc place) (drop (place + 1) xs) in
    let next : place + 1 ≡ suc place = omega arith in
    let here : comma_before place ++ (f x ++ rest) ≡ items_behind f place xs =
    sym (ap (items_from f place) (drop_more xs place d below ∙ ap (λ y. y ∷ drop (place + 1) xs) (sym is))) in
    ap (λ (n : ℕ). new ++ items_from f n (drop (place + 1) xs)) next
    ∙ ap (λ t. t ++ rest) (added ∙ ap (λ t. t ++ f x) parted ∙ append_assoc mid (comma_before place) (f x))
    ∙ append_assoc mid (comma_before place ++ f x) rest
    ∙ ap (λ t. mid ++ t) (append_assoc (comma_before place) (f x) rest ∙ here)
    ∙ so_far

-- one line more
pub lines-more : (map : MapValue) (number : ℕ) (xs : Costed) (place : ℕ) (x d : ℕ × ℕ) (mid new total : List ℕ) → place < length xs →
    x ≡ get_or xs place d → mid ++ nearby_text map number (drop place xs) ≡ total →
    new ≡ mid ++ near_text number (id_of map x.0) x.1 → new ++ nearby_text map number (drop (place + 1) xs) ≡ total
lines-more map number xs place x d mid new total below is so_far added =
    let rest = nearby_text map number (drop (place + 1) xs) in
    let here : near_text number (id_of map x.0) x.1 ++ rest ≡ nearby_text map number (drop place xs) =
    sym (ap (nearby_text map number) (drop_more xs place d below ∙ ap (λ y. y ∷ drop (place + 1) xs) (sym is))) in
    ap (λ t. t ++ rest) added ∙ append_assoc mid (near_text number (id_of map x.0) x.1) rest ∙ ap (λ t. mid ++ t) here ∙ so_far

-- items from a later place on
items-later : {A : Type 0} (f : A → List ℕ) (n : ℕ) (xs : List A) → items_from f (suc n) xs ≡ flat_map (λ y. comma ++ f y) xs
items-later f n [] = refl
items-later f n (x ∷ xs) =
    sym (append_assoc comma (f x) (items_from f (suc (suc n)) xs)) ∙ ap (λ t. (comma ++ f x) ++ t) (items-later f (suc n) xs)

-- all items
items-all : {A : Type 0} (f : A → List ℕ) (xs : List A) → items_from f 0 xs ≡ join_by f comma xs
items-all f [] = refl
items-all f (x ∷ xs) = ap (λ t. f x ++ t) (items-later f 0 xs)

-- ---- Parts

-- behind the ids stand the costs
pub to-costs : (before after : List ℕ) → after ≡ before ++ codes "],\"costs\":[" → GoesToPart before after Ids (Some Costs)
unfolding costs_part
to-costs before after added = record {
  follows = λ source number list.
      let head : List ℕ = codes "],\"costs\":[" in
      let items = items_from near_cost 0 list in
      let joined : List ℕ = join_by near_cost comma list in
      ap (λ t. t ++ (items ++ points_part source list)) added ∙ append_assoc before head (items ++ points_part source list)
      ∙ ap (λ t. before ++ (head ++ (t ++ points_part source list))) (items-all near_cost list)
      ∙ ap (λ t. before ++ t) (sym (append_assoc head joined (points_part source list)));
  fewer = λ nodes. omega arith;
}

-- behind the costs stand the places
pub to-places : (before after : List ℕ) → after ≡ before ++ codes "]},\"geometry\":{\"type\":\"MultiPoint\",\"coordinates\":[" →
    GoesToPart before after Costs (Some Places)
unfolding points_part
to-places before after added = record {
  follows = λ source number list.
      let head : List ℕ = codes "]},\"geometry\":{\"type\":\"MultiPoint\",\"coordinates\":[" in
      let end : List ℕ = codes "]}}" in
      let items = items_from (near_position source) 0 list in
      ap (λ t. t ++ (items ++ end)) added ∙ append_assoc before head (items ++ end)
      ∙ ap (λ t. before ++ (head ++ (t ++ end))) (items-all (near_position source) list);
  fewer = λ nodes. omega arith;
}

-- behind the places stands the end of the feature
pub to-end : (before after : List ℕ) → after ≡ before ++ codes "]}}" → GoesToPart before after Places None
to-end before after added = record { follows = λ source number list. append-nil after ∙ added; fewer = λ nodes. omega arith }

-- ---- Lists

-- the feature of a waypoint, and what follows it
feature-whole : (source : Source) (cost number : ℕ) (list : Costed) (rest : List ℕ) →
    feature_begin source cost number ++ (rows_from source number Ids list 0 ++ rest) ≡
    comma_before number ++ (feature source cost list ++ rest)
unfolding feature_begin feature list_part nodes_part
feature-whole source cost number list rest =
    let head : List ℕ = codes "\",\"nodes\":[" in
    let name = feature_name source in
    let asked = asked_part cost in
    let items = items_from (near_id source.map) 0 list in
    let joined : List ℕ = join_by (near_id source.map) comma list in
    let behind = costs_part list ++ points_part source list in
    append_assoc (comma_before number) (name ++ (asked ++ head)) ((items ++ behind) ++ rest)
    ∙ ap (λ t. comma_before number ++ t)
    (append_assoc name (asked ++ head) ((items ++ behind) ++ rest)
    ∙ ap (λ t. name ++ t)
    (append_assoc asked head ((items ++ behind) ++ rest)
    ∙ ap (λ t. asked ++ (head ++ ((t ++ behind) ++ rest))) (items-all (near_id source.map) list)
    ∙ ap (λ t. asked ++ t)
    (sym (append_assoc head (joined ++ behind) rest) ∙ ap (λ t. t ++ rest) (sym (append_assoc head joined behind)))
    ∙ sym (append_assoc asked ((head ++ joined) ++ behind) rest))
    ∙ sym (append_assoc name (asked ++ ((head ++ joined) ++ behind)) rest))

-- features and the end of the collection
features-whole : (source : Source) (cost number : ℕ) (lists : List Costed) →
    lists_text GeoJson source cost number lists ≡ items_from (feature source cost) number lists ++ codes "]}\n"
features-whole source cost number [] = refl
features-whole source cost number (list ∷ lists) =
    let rest = items_from (feature source cost) (suc number) lists in
    let end : List ℕ = codes "]}\n" in
    ap (λ t. feature_begin source cost number ++ (rows_from source number Ids list 0 ++ t)) (features-whole source cost (suc number) lists)
    ∙ feature-whole source cost number list (rest ++ end)
    ∙ ap (λ t. comma_before number ++ t) (sym (append_assoc (feature source cost list) rest end))
    ∙ sym (append_assoc (comma_before number) (feature source cost list ++ rest) end)

-- the lines of waypoints
lines-whole : (source : Source) (cost number : ℕ) (lists : List Costed) →
    lists_text Csv source cost number lists ≡ lines_from source.map number lists
lines-whole source cost number [] = refl
lines-whole source cost number (list ∷ lists) =
    ap (λ t. t ++ lists_text Csv source cost (suc number) lists) (append-nil (nearby_text source.map number list))
    ∙ ap (λ t. nearby_text source.map number list ++ t) (lines-whole source cost (suc number) lists)

-- the whole collection
pub geojson-whole : (source : Source) (cost : ℕ) (lists : List Costed) →
    reply_head GeoJson ++ lists_text GeoJson source cost 0 lists ≡ within_geojson source cost lists
unfolding within_geojson
geojson-whole source cost lists =
    ap (λ t. reply_head GeoJson ++ t)
    (features-whole source cost 0 lists ∙ ap (λ t. t ++ codes "]}\n") (items-all (feature source cost) lists))

-- all lines
pub csv-whole : (source : Source) (cost : ℕ) (lists : List Costed) →
    reply_head Csv ++ lists_text Csv source cost 0 lists ≡ within_lines source.map lists
unfolding within_lines
csv-whole source cost lists = lines-whole source cost 0 lists
