-- Names of links: the ids of ways in them, and what is found by its weight is found by its name.
use Rattle.std.proofs.Common.{◌≡◌, ℕ, ℤ, zero, suc, ◌^◌, ◌<◌, ◌⊎◌, Bool, true, false, inl, inr, List, [], ◌∷◌, length, slice_get, Option, Some, None, refl, sym, ap, ◌∙◌, subst, arith}
use Rattle.std.specs.Prelude.{if◌then◌else◌, FitsSigned}
use mir.Syntax.{w64}
use Rattle.std.specs.Ordering.{int_eq}
use Rattle.std.specs.Str.{bytes_eq}
use lib.Chars.{codes}
use Rattle.std.proofs.lemmas.Option.{same_Some, slice_get_within}
use Rattle.map_tables.specs.Kept.{Kept, Tag, ids_of, place_of_id, with_tag}
use Rattle.map_tables.specs.declared.member.Member.{Member}
use Rattle.map_tables.proofs.CallerLemmas.{place_in-at, place_in-own}
use Rattle.overpass_graph.specs.Links.{weight_of, link_weight}
use Rattle.overpass_graph.specs.Maps.{MapValue, IsMap, AreIds, link_of, way_at}
use Rattle.overpass_graph.specs.Members.{KeptWay}
use Rattle.overpass_graph.specs.Names.{LinkName, name_of, FindsLink, FindsWeight}
use Rattle.overpass_graph.specs.RouteTags.{tag_members, tag_of_route, tag_with_id, with_route, with_routes}

-- ---- Ids of ways

-- there are as many ids as ways
ids-length : (ways : List KeptWay) → length (ids_of ways) ≡ length ways
ids-length [] = refl
ids-length (w ∷ ws) = ap suc (ids-length ws)

-- the id at a place is that of the way there
ids-at : (ways : List KeptWay) (k : ℕ) → k < length ways → slice_get (ids_of ways) k ≡ Some (way_at ways k).id
ids-at [] k below = absurd (omega arith)
ids-at (w ∷ ws) zero below = refl
ids-at (w ∷ ws) (suc k) below = ids-at ws k (omega arith)

-- tags change no ids
tagged-ids : (id : ℤ) (tag : Tag) (ways : List KeptWay) → ids_of (tag_with_id id tag ways) ≡ ids_of ways
tagged-ids id tag [] = refl
tagged-ids id tag (w ∷ ws) = by_test (int_eq w.id id) (tagged-ids id tag ws)
  where
    by_test : (b : Bool) → ids_of (tag_with_id id tag ws) ≡ ids_of ws →
        ids_of ((if b then with_tag tag w else w) ∷ tag_with_id id tag ws) ≡ ids_of (w ∷ ws)
    by_test true rest = ap (λ ids. w.id ∷ ids) rest
    by_test false rest = ap (λ ids. w.id ∷ ids) rest

members-ids : (tag : Tag) (members : List Member) (ways : List KeptWay) → ids_of (tag_members tag members ways) ≡ ids_of ways
members-ids tag [] ways = refl
members-ids tag (m ∷ ms) ways =
    members-ids tag ms (if bytes_eq m.kind (codes "way") then tag_with_id m.reference tag ways else ways)
    ∙ by_kind (bytes_eq m.kind (codes "way"))
  where
    by_kind : (b : Bool) → ids_of (if b then tag_with_id m.reference tag ways else ways) ≡ ids_of ways
    by_kind true = tagged-ids m.reference tag ways
    by_kind false = refl

route-ids : (o : Option Tag) (members : List Member) (ways : List KeptWay) → ids_of (with_route o members ways) ≡ ids_of ways
route-ids None members ways = refl
route-ids (Some tag) members ways = members-ids tag members ways

-- the tags of routes change no ids
pub routes-ids : (relations : List (Kept (List Member))) (ways : List KeptWay) → ids_of (with_routes relations ways) ≡ ids_of ways
routes-ids [] ways = refl
routes-ids (r ∷ rs) ways =
    routes-ids rs (with_route (tag_of_route r.tags) r.content ways) ∙ route-ids (tag_of_route r.tags) r.content ways

-- ways of the same ids have ids of 64 bits
pub ids-same : (old new : List KeptWay) → ids_of new ≡ ids_of old → AreIds old → AreIds new
ids-same old new same fit way below =
    let size : length new ≡ length old = sym (ids-length new) ∙ ap length same ∙ ids-length old in
    let within : way < length old = omega (arith, size) in
    let there : Some (way_at new way).id ≡ Some (way_at old way).id =
    sym (ids-at new way below) ∙ ap (λ (ids : List ℤ). slice_get ids way) same ∙ ids-at old way within in
    subst (λ (id : ℤ). FitsSigned w64 id) (sym (same_Some _ _ there)) (fit way within)

-- ---- Names

-- the parts of a weight
record AreParts (way segment : ℕ) (back : Bool) (way2 segment2 : ℕ) (back2 : Bool) : Type 0 where
  pub way_is : way ≡ way2
  pub segment_is : segment ≡ segment2
  pub back_is : back ≡ back2

-- a weight tells its parts
weight-parts : (way segment : ℕ) (back : Bool) (way2 segment2 : ℕ) (back2 : Bool) → segment < 2 ^ 32 → segment2 < 2 ^ 32 →
    weight_of way segment back ≡ weight_of way2 segment2 back2 → AreParts way segment back way2 segment2 back2
weight-parts way segment true way2 segment2 true small small2 same =
    record { way_is = omega (arith, same); segment_is = omega (arith, same); back_is = refl }
weight-parts way segment false way2 segment2 false small small2 same =
    record { way_is = omega (arith, same); segment_is = omega (arith, same); back_is = refl }
weight-parts way segment true way2 segment2 false small small2 same = absurd (omega (arith, same))
weight-parts way segment false way2 segment2 true small small2 same = absurd (omega (arith, same))

-- a link of an id is of the way that has it
way-of_id : (map : MapValue) (link : ℕ) (id : ℤ) → IsMap map → link < length map.links →
    (way_at map.ways (link_of map link).way).id ≡ id → place_of_id id map.ways ≡ Some (link_of map link).way
way-of_id map link id is below same =
    subst (λ (i : ℤ). place_of_id i map.ways ≡ Some (link_of map link).way) same
    (place_in-own (ids_of map.ways) (way_at map.ways (link_of map link).way).id (link_of map link).way is.names.way_ids
    (ids-at map.ways (link_of map link).way (is.way_in link below)))

-- where no way has an id, no link has a name with it
pub found-no_way : (map : MapValue) (name : LinkName) → IsMap map → place_of_id name.way map.ways ≡ None → FindsLink map name None
found-no_way map name is none link below same =
    let found = way-of_id map link name.way is below (ap (λ (n : LinkName). n.way) same) in
    absurd cc

-- where no link has the weight, none has the name
found-no_link : (map : MapValue) (name : LinkName) (way : ℕ) → IsMap map → place_of_id name.way map.ways ≡ Some way →
    FindsWeight map.links (weight_of way name.segment name.back) None → FindsLink map name None
found-no_link map name way is here none link below same =
    let found = way-of_id map link name.way is below (ap (λ (n : LinkName). n.way) same) in
    let way_is : (link_of map link).way ≡ way = same_Some _ _ (sym found ∙ here) in
    none link below
    (ap (λ w. weight_of w (link_of map link).segment (link_of map link).back) way_is
    ∙ ap (λ s. weight_of way s (link_of map link).back) (ap (λ (n : LinkName). n.segment) same)
    ∙ ap (λ b. weight_of way name.segment b) (ap (λ (n : LinkName). n.back) same))

-- the link of the weight has the name
found-link : (map : MapValue) (name : LinkName) (way link : ℕ) → IsMap map → place_of_id name.way map.ways ≡ Some way →
    name.segment < 2 ^ 32 → FindsWeight map.links (weight_of way name.segment name.back) (Some link) → FindsLink map name (Some link)
found-link map name way link is here small found =
    let parts = weight-parts (link_of map link).way (link_of map link).segment (link_of map link).back way name.segment name.back
    (is.names.segment_fits link found.0) small found.1 in
    let at : slice_get (ids_of map.ways) way ≡ Some name.way = place_in-at (ids_of map.ways) name.way way here in
    let below : way < length map.ways = omega (arith, slice_get_within (ids_of map.ways) way name.way at, ids-length map.ways) in
    let id_is : (way_at map.ways way).id ≡ name.way = same_Some _ _ (sym (ids-at map.ways way below) ∙ at) in
    (found.0, rw (parts.way_is, parts.segment_is, parts.back_is, id_is) refl)

-- so what is found by weight is found by name
pub found-by_weight : (map : MapValue) (name : LinkName) (way : ℕ) (found : Option ℕ) → IsMap map →
    place_of_id name.way map.ways ≡ Some way → name.segment < 2 ^ 32 →
    FindsWeight map.links (weight_of way name.segment name.back) found → FindsLink map name found
found-by_weight map name way None is here small found = found-no_link map name way is here found
found-by_weight map name way (Some link) is here small found = found-link map name way link is here small found

-- two links of one name are one
pub name-own : (map : MapValue) (a b : ℕ) → IsMap map → a < length map.links → b < length map.links → name_of map a ≡ name_of map b →
    a ≡ b
name-own map a b is a_in b_in same =
    let of_a = way-of_id map a (name_of map b).way is a_in (ap (λ (n : LinkName). n.way) same) in
    let of_b = way-of_id map b (name_of map b).way is b_in refl in
    let way_is : (link_of map a).way ≡ (link_of map b).way = same_Some _ _ (sym of_a ∙ of_b) in
    let weighs : link_weight (link_of map a) ≡ link_weight (link_of map b) =
    ap (λ w. weight_of w (link_of map a).segment (link_of map a).back) way_is
    ∙ ap (λ s. weight_of (link_of map b).way s (link_of map a).back) (ap (λ (n : LinkName). n.segment) same)
    ∙ ap (λ c. weight_of (link_of map b).way (link_of map b).segment c) (ap (λ (n : LinkName). n.back) same) in
    by_order (cases_order a b) weighs
  where
    cases_order : (m n : ℕ) → (m ≡ n) ⊎ ((m < n) ⊎ (n < m))
    cases_order zero zero = inl refl
    cases_order zero (suc n) = inr (inl (omega arith))
    cases_order (suc m) zero = inr (inr (omega arith))
    cases_order (suc m) (suc n) =
        elim (cases_order m n) [
          | inl e ↦ inl (ap suc e)
          | inr (inl h) ↦ inr (inl (omega arith))
          | inr (inr h) ↦ inr (inr (omega arith))
        ]

    by_order : (a ≡ b) ⊎ ((a < b) ⊎ (b < a)) → link_weight (link_of map a) ≡ link_weight (link_of map b) → a ≡ b
    by_order (inl e) weighs = e
    by_order (inr (inl h)) weighs = absurd (omega (arith, is.names.rising a b h b_in, weighs))
    by_order (inr (inr h)) weighs = absurd (omega (arith, is.names.rising b a h a_in, weighs))
