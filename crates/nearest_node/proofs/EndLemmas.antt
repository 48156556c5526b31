-- The links that leave a node tell whether it is an end of an open link.
use Rattle.std.proofs.Common.{ℕ, ◌<◌, ◌⊎◌, inl, inr, Bool, IsTrue, length, get_or, ap, sym, subst, ◌∙◌}
use Rattle.overpass_graph.specs.Roads.{Roads, IsRoads, twin_of, out_links}
use Rattle.overpass_graph.proofs.CallerLemmas.{twin-twin, out-sound, out-whole}
use Rattle.nearest_node.specs.Nearest.{IsEnd}

-- a link is open, or its way back is
abbrev pub IsOpenEitherWay : (is_open : ℕ → Bool) (link : ℕ) → Type 0
IsOpenEitherWay is_open link = IsTrue (is_open link) ⊎ IsTrue (is_open (twin_of link))

-- a link that leaves a node and is open either way makes it an end
pub end-found : (roads : Roads) (is_open : ℕ → Bool) (node j : ℕ) → IsRoads roads → j < length (out_links roads node) →
    IsOpenEitherWay is_open (get_or (out_links roads node) j 0) → IsEnd roads is_open node
end-found roads is_open node j is below (inl ahead) =
    let out = out-sound roads node j below in
    record { link = get_or (out_links roads node) j 0; lets = record { in_range = out.0; «open» = ahead }; ends = inl out.1 }
end-found roads is_open node j is below (inr back) =
    let out = out-sound roads node j below in
    let link = get_or (out_links roads node) j 0 in
    record {
      link = twin_of link;
      lets = record { in_range = is.twin_in link out.0; «open» = back };
      ends = inr (is.twin_to link out.0 ∙ out.1);
    }

-- an end has a link that leaves it and is open either way
pub end-leaves : (roads : Roads) (is_open : ℕ → Bool) (node : ℕ) → IsRoads roads → IsEnd roads is_open node →
    (j : ℕ) × (j < length (out_links roads node)) × IsOpenEitherWay is_open (get_or (out_links roads node) j 0)
end-leaves roads is_open node is at = elim at.ends [
  | inl leaves ↦
      let out = out-whole roads node at.link at.lets.in_range leaves in
      (out.0, out.1, inl (subst (λ n. IsTrue (is_open n)) (sym out.2) at.lets.«open»))
  | inr reaches ↦
      let out = out-whole roads node (twin_of at.link) (is.twin_in at.link at.lets.in_range)
      (is.twin_from at.link at.lets.in_range ∙ reaches) in
      (out.0, out.1, inr (subst (λ n. IsTrue (is_open n)) (sym (twin-twin at.link) ∙ ap twin_of (sym out.2)) at.lets.«open»))
]

-- so where no link that leaves a node is open either way, it is no end
pub end-none : (roads : Roads) (is_open : ℕ → Bool) (node : ℕ) → IsRoads roads →
    ((j : ℕ) → j < length (out_links roads node) → IsOpenEitherWay is_open (get_or (out_links roads node) j 0) → ⊥) →
    IsEnd roads is_open node → ⊥
end-none roads is_open node is none at = let there = end-leaves roads is_open node is at in none there.0 there.1 there.2
