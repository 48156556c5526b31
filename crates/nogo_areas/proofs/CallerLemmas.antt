-- What crates above may cite: what one truth value of a link says.
use Rattle.std.proofs.Common.{◌≡◌, ℕ, suc, ◌||◌, Bool, true, false, List, [], ◌∷◌, refl}
use Rattle.std.specs.Prelude.{Some}
use Rattle.std.specs.List.{slice_get}
use Rattle.geo_int.specs.Place.{Place}
use Rattle.overpass_graph.specs.Maps.{MapValue, node_at, link_of}
use Rattle.nogo_areas.specs.Cuts.{touches_way, any_touches, cuts_link, is_cut}
use Rattle.nogo_areas.specs.declared.circle.Circle.{Circle}
use Rattle.nogo_areas.proofs.FenceLemmas.{some-touches}
pub use Rattle.nogo_areas.proofs.CutLemmas.{cut-length, cut-at, twin-cut}

-- a circle of a list that touches a way
pub record IsTouching (a b : Place) (circles : List Circle) : Type 0 where
  pub place : ℕ
  pub circle : Circle
  pub there : slice_get circles place ≡ Some circle
  pub touches : touches_way a b circle ≡ true

-- where some circle touches a way, there is one that does
pub touching : (a b : Place) (circles : List Circle) → any_touches a b circles ≡ true → IsTouching a b circles
touching a b [] h = absurd (cc)
touching a b (circle ∷ circles) h = chosen (touches_way a b circle) refl (λ g. touching a b circles g) h
  where
    chosen : (t : Bool) → touches_way a b circle ≡ t → (any_touches a b circles ≡ true → IsTouching a b circles) →
        (t || any_touches a b circles) ≡ true → IsTouching a b (circle ∷ circles)
    chosen true e later g = record { place = 0; circle = circle; there = refl; touches = e }
    chosen false e later g =
        let rest = later g in
        record { place = suc rest.place; circle = rest.circle; there = rest.there; touches = rest.touches }

-- a link that is cut is touched by some circle
pub cut-touching : (roads : MapValue) (circles : List Circle) (link : ℕ) → is_cut roads circles link ≡ true →
    IsTouching (node_at roads.nodes (link_of roads link).from).content (node_at roads.nodes (link_of roads link).to).content circles
unfolding cuts_link
cut-touching roads circles link h =
    touching (node_at roads.nodes (link_of roads link).from).content (node_at roads.nodes (link_of roads link).to).content circles h

-- a link that some circle touches is cut
pub touching-cut : (roads : MapValue) (circles : List Circle) (link : ℕ) →
    IsTouching (node_at roads.nodes (link_of roads link).from).content (node_at roads.nodes (link_of roads link).to).content circles →
    is_cut roads circles link ≡ true
unfolding cuts_link
touching-cut roads circles link h =
    some-touches (node_at roads.nodes (link_of roads link).from).content (node_at roads.nodes (link_of roads link).to).content circles
    h.place h.circle h.there h.touches
