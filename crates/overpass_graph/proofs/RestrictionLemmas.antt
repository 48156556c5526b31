-- The restriction that a relation is, and lists of restrictions.
use Rattle.std.proofs.Common.{◌≡◌, ℕ, ℤ, zero, suc, ◌+◌, ◌<◌, ◌≤◌, List, [], ◌∷◌, ◌++◌, length, get_or, drop, Option, Some, None, refl, sym, ap, subst, ◌∙◌, append_assoc, arith}
use Rattle.std.proofs.lemmas.List.{append-nil, drop_more, drop_all}
use Rattle.std.specs.Prelude.{option_to_list}
use lib.Chars.{codes}
use Rattle.geo_int.specs.Place.{Place}
use Rattle.map_tables.specs.Kept.{Kept}
use Rattle.map_tables.specs.declared.member.Member.{Member}
use Rattle.overpass_graph.specs.declared.restriction.Restriction.{Restriction}
use Rattle.overpass_graph.specs.declared.restriction.RestrictionKind.{RestrictionKind}
use Rattle.overpass_graph.specs.Members.{no_relation, relation_at}
use Rattle.overpass_graph.specs.Restrictions.{in_role, kind_for_bicycles, put_before, restriction_by, restriction_of, restrictions_of, via_of, ways_of}
use Rattle.overpass_graph.specs.Turns.{AreViasBelow, vias_of}

module _ (nodes : List (Kept Place)) (ways : List (Kept (List ℤ))) (relation : Kept (List Member)) where
  -- a relation that is none for bicycles
  pub restriction-no_kind : kind_for_bicycles relation.tags ≡ None → restriction_of nodes ways relation ≡ None
  unfolding restriction_of
  restriction-no_kind none = rw none refl

  -- one without its node
  pub restriction-no_via : (kind : RestrictionKind) → kind_for_bicycles relation.tags ≡ Some kind → via_of nodes relation.content ≡ None
      → restriction_of nodes ways relation ≡ None
  unfolding restriction_of
  restriction-no_via kind is none = rw (is, none) refl

  -- one that has both
  pub restriction-by : (kind : RestrictionKind) (via : ℕ) → kind_for_bicycles relation.tags ≡ Some kind →
      via_of nodes relation.content ≡ Some via
      → restriction_of nodes ways relation
      ≡ restriction_by (Some kind) (Some via) (ways_of ways (in_role (codes "from") relation.content))
      (ways_of ways (in_role (codes "to") relation.content))
  unfolding restriction_of
  restriction-by kind via is at = rw (is, at) refl

-- numbers below a bound, and one more
below-more : (xs : List ℕ) (y n : ℕ) → ((k : ℕ) → k < length xs → get_or xs k 0 < n) → y < n → (k : ℕ) → k < length (xs ++ y ∷ []) →
    get_or (xs ++ y ∷ []) k 0 < n
below-more [] y n below last zero inside = last
below-more [] y n below last (suc k) inside = absurd (omega arith)
below-more (x ∷ xs) y n below last zero inside = below 0 (omega arith)
below-more (x ∷ xs) y n below last (suc k) inside = below-more xs y n (λ j h. below (suc j) (omega arith)) last k (omega arith)

-- the nodes of restrictions, and of one more
vias-more : (rs : List Restriction) (r : Restriction) → vias_of (rs ++ r ∷ []) ≡ vias_of rs ++ r.via ∷ []
vias-more [] r = refl
vias-more (x ∷ rs) r = ap (λ vs. x.via ∷ vs) (vias-more rs r)

-- a restriction at a node of the map behind others
pub vias-below : (nodes : ℕ) (rs : List Restriction) (r : Restriction) → AreViasBelow nodes rs → AreViasBelow nodes (r ∷ []) →
    AreViasBelow nodes (rs ++ r ∷ [])
vias-below nodes rs r below last =
    subst (λ vs. (k : ℕ) → k < length vs →
    get_or vs k 0 < nodes) (sym (vias-more rs r)) (below-more (vias_of rs) r.via nodes below (last 0 (omega arith)))

-- the restrictions of the relations from one on
pub restrictions-step : (nodes : List (Kept Place)) (ways : List (Kept (List ℤ))) (relations : List (Kept (List Member))) (n : ℕ) →
    n < length relations
    → restrictions_of nodes ways (drop n relations)
    ≡ option_to_list (restriction_of nodes ways (relation_at relations n)) ++ restrictions_of nodes ways (drop (n + 1) relations)
restrictions-step nodes ways relations n below =
    ap (restrictions_of nodes ways) (drop_more relations n no_relation below)
    ∙ by_one (restriction_of nodes ways (relation_at relations n)) (restrictions_of nodes ways (drop (n + 1) relations))
  where
    by_one : (o : Option Restriction) (later : List Restriction) → put_before o later ≡ option_to_list o ++ later
    by_one None later = refl
    by_one (Some r) later = refl

-- one more relation was read
pub restrictions-on : (nodes : List (Kept Place)) (ways : List (Kept (List ℤ))) (relations : List (Kept (List Member))) (n : ℕ)
    (old new all : List Restriction)
    → n < length relations → old ++ restrictions_of nodes ways (drop n relations) ≡ all
    → new ≡ old ++ option_to_list (restriction_of nodes ways (relation_at relations n))
    → new ++ restrictions_of nodes ways (drop (n + 1) relations) ≡ all
restrictions-on nodes ways relations n old new all below so_far is =
    ap (λ rs. rs ++ restrictions_of nodes ways (drop (n + 1) relations)) is
    ∙ append_assoc old (option_to_list (restriction_of nodes ways (relation_at relations n)))
    (restrictions_of nodes ways (drop (n + 1) relations))
    ∙ ap (λ rs. old ++ rs) (sym (restrictions-step nodes ways relations n below)) ∙ so_far

-- all were read
pub restrictions-end : (nodes : List (Kept Place)) (ways : List (Kept (List ℤ))) (relations : List (Kept (List Member))) (n : ℕ) (old all :
    List Restriction)
    → length relations ≤ n → old ++ restrictions_of nodes ways (drop n relations) ≡ all → old ≡ all
restrictions-end nodes ways relations n old all past so_far =
    sym (append-nil old) ∙ ap (λ rs. old ++ restrictions_of nodes ways rs) (sym (drop_all n relations past)) ∙ so_far
