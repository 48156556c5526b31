-- Which links are cut, one after the other.
use Rattle.std.proofs.Common.{◌≡◌, ℕ, ◌+◌, ◌-◌, ◌%◌, ◌≤◌, ◌<◌, ◌||◌, Bool, false, List, [], ◌∷◌, ◌++◌, length, get_or, take, refl, sym, ap, ◌∙◌, arith}
use Rattle.std.proofs.lemmas.List.{take_more, take_all, get_or-map, length-map}
use Rattle.geo_int.specs.Place.{Place}
use Rattle.geo_int.specs.Spot.{place_of}
use Rattle.geo_int.proofs.CircleLemmas.{circle_touches-swap}
use Rattle.overpass_graph.specs.declared.link.Link.{Link}
use Rattle.overpass_graph.specs.Maps.{MapValue, IsMap, node_at, link_of, no_link}
use Rattle.overpass_graph.specs.Roads.{twin_of}
use Rattle.overpass_graph.proofs.CallerLemmas.{twin-odd}
use Rattle.nogo_areas.specs.Cuts.{touches_way, any_touches, cuts_link, is_cut, cut_of}
use Rattle.nogo_areas.specs.declared.circle.Circle.{Circle}

-- a link is cut where some circle touches the way between the places of its ends
pub link-cut : (roads : MapValue) (circles : List Circle) (link : ℕ) (found : Link) (a b : Place) (is : Bool) → found ≡ link_of roads link →
    a ≡ (node_at roads.nodes found.from).content → b ≡ (node_at roads.nodes found.to).content → is ≡ any_touches a b circles →
    is ≡ is_cut roads circles link
unfolding cuts_link
link-cut roads circles link found a b is e f g h =
    h ∙ ap (λ p. any_touches p b circles) f ∙ ap (λ p. any_touches (node_at roads.nodes found.from).content p circles) g
    ∙ ap (λ (l : Link). any_touches (node_at roads.nodes l.from).content (node_at roads.nodes l.to).content circles) e

-- there is one truth value for each link
pub cut-length : (roads : MapValue) (circles : List Circle) → length (cut_of roads circles) ≡ length roads.links
unfolding cut_of
cut-length roads circles = length-map roads.links (cuts_link roads circles)

-- it tells whether the link is cut
pub cut-at : (roads : MapValue) (circles : List Circle) (link : ℕ) → link < length roads.links →
    get_or (cut_of roads circles) link false ≡ is_cut roads circles link
unfolding cut_of
cut-at roads circles link below = get_or-map (cuts_link roads circles) roads.links link no_link false below

-- circles touch a way back as they touch the way
pub any-swap : (a b : Place) (circles : List Circle) → any_touches b a circles ≡ any_touches a b circles
any-swap a b [] = refl
any-swap a b (circle ∷ circles) =
    ap (λ t. t || any_touches b a circles) (circle_touches-swap a b (place_of circle.centre) circle.radius)
    ∙ ap (λ t. touches_way a b circle || t) (any-swap a b circles)

-- both links of a segment are cut, or neither is
pub twin-cut : (roads : MapValue) (circles : List Circle) (link : ℕ) → IsMap roads → link < length roads.links →
    is_cut roads circles (twin_of link) ≡ is_cut roads circles link
unfolding cuts_link
twin-cut roads circles link lawful below =
    ap (λ n. any_touches (node_at roads.nodes n).content (node_at roads.nodes (link_of roads (twin_of link)).to).content circles)
    (lawful.roads.twin_from link below)
    ∙ ap (λ n. any_touches (node_at roads.nodes (link_of roads link).to).content (node_at roads.nodes n).content circles)
    (lawful.roads.twin_to link below)
    ∙ any-swap (node_at roads.nodes (link_of roads link).from).content (node_at roads.nodes (link_of roads link).to).content circles

-- one more link
pub cut-step : (roads : MapValue) (circles : List Circle) (link : ℕ) (cut new : List Bool) (is : Bool) → link < length roads.links →
    cut ≡ take link (cut_of roads circles) → is ≡ is_cut roads circles link → new ≡ cut ++ is ∷ [] →
    new ≡ take (link + 1) (cut_of roads circles)
cut-step roads circles link cut new is below before e pushed =
    let more = take_more (cut_of roads circles) link false (omega (arith, cut-length roads circles)) in
    pushed ∙ ap (λ xs. xs ++ is ∷ []) before
    ∙ ap (λ t. take link (cut_of roads circles) ++ t ∷ []) (e ∙ sym (cut-at roads circles link below)) ∙ sym more

-- all links
pub cut-whole : (roads : MapValue) (circles : List Circle) (n : ℕ) (cut : List Bool) → length roads.links ≤ n →
    cut ≡ take n (cut_of roads circles) →
    cut ≡ cut_of roads circles
cut-whole roads circles n cut all is = is ∙ take_all n (cut_of roads circles) (omega (arith, cut-length roads circles))

-- the second link of a segment is cut where the first is
pub second-cut : (roads : MapValue) (circles : List Circle) (link : ℕ) → IsMap roads → link < length roads.links → (link % 2 ≡ 0 → ⊥) →
    is_cut roads circles (link - 1) ≡ is_cut roads circles link
second-cut roads circles link lawful below odd =
    ap (is_cut roads circles) (sym (twin-odd link odd)) ∙ twin-cut roads circles link lawful below
