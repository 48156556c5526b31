-- Walks, the links that leave a node, and pairs of links.
use Rattle.std.proofs.Common.{◌≡◌, ℕ, suc, ◌<◌, inl, inr, Bool, List, [], ◌∷◌, ◌++◌, length, get_or, refl, sym, ap, ◌∙◌, subst, arith, length-append}
use Rattle.std.proofs.lemmas.Bool.{cases_eq}
use Rattle.std.proofs.lemmas.List.{get_or_append_left, get_or_push}
use Rattle.overpass_graph.specs.Roads.{Roads, out_links}
use Rattle.overpass_graph.specs.Walks.{link_at, IsOpenLink, IsWalkBy}
use Rattle.overpass_graph.proofs.TurnLemmas.{place-sound, place-whole}

-- without links a walk stays at its node
pub walk-empty : (roads : Roads) (is_open : ℕ → Bool) (follows : ℕ → ℕ → Type 0) (a : ℕ) → IsWalkBy roads is_open follows a a []
walk-empty roads is_open follows a = record {
  open_links = λ k below. absurd (omega arith);
  leaves = λ some. absurd (omega arith);
  arrives = λ k last. absurd (omega arith);
  goes_on = λ k below. absurd (omega arith);
  stays = λ none. refl;
}

-- a link of the walk before it goes on
before-at : (walk : List ℕ) (link k : ℕ) → k < length walk → link_at (walk ++ link ∷ []) k ≡ link_at walk k
before-at walk link k below = get_or_append_left walk (link ∷ []) 0 k below

-- the link by which a walk goes on
last-at : (walk : List ℕ) (link k : ℕ) → length walk ≡ k → link_at (walk ++ link ∷ []) k ≡ link
last-at walk link k size = get_or_push walk link 0 k size

-- a walk goes on by an open link that leaves where the walk arrives and follows its last link
pub walk-pushed : (roads : Roads) (is_open : ℕ → Bool) (follows : ℕ → ℕ → Type 0) (a b : ℕ) (walk : List ℕ) (link : ℕ) →
    IsWalkBy roads is_open follows a b walk → IsOpenLink roads is_open link → roads.from link ≡ b →
    ((k : ℕ) → suc k ≡ length walk → follows (link_at walk k) link) → IsWalkBy roads is_open follows a (roads.to link) (walk ++ link ∷ [])
walk-pushed roads is_open follows a b walk link is opens from_is last =
    let size = length-append walk (link ∷ []) in
    record {
      open_links = λ k below.
          elim (cases_eq k (length walk)) [
            | inl at_end ↦ subst (IsOpenLink roads is_open) (sym (last-at walk link k (sym at_end))) opens
            | inr other ↦
                let inner : k < length walk = omega (arith, size) in
                subst (IsOpenLink roads is_open) (sym (before-at walk link k inner)) (is.open_links k inner)
          ];
      leaves = λ some.
          elim (cases_eq (length walk) 0) [
            | inl none ↦ ap roads.from (last-at walk link 0 none) ∙ from_is ∙ sym (is.stays none)
            | inr more ↦
                let inner : 0 < length walk = omega arith in
                ap roads.from (before-at walk link 0 inner) ∙ is.leaves inner
          ];
      arrives = λ k at_end. let e : length walk ≡ k = omega (arith, size) in ap roads.to (last-at walk link k e);
      goes_on = λ k below.
          let inner : k < length walk = omega (arith, size) in
          let P : ℕ → ℕ → Type 0 = follows in
          elim (cases_eq (suc k) (length walk)) [
            | inl at_end ↦
                rw (before-at walk link k inner, last-at walk link (suc k) (sym at_end)) (last k at_end)
            | inr other ↦
                let next : suc k < length walk = omega (arith, size) in
                rw (before-at walk link k inner, before-at walk link (suc k) next) (is.goes_on k next)
          ];
      stays = λ none. absurd (omega (arith, size));
    }

-- each of the links that leave a node does, and is a link
pub out-sound : (roads : Roads) (node j : ℕ) → j < length (out_links roads node) →
    (get_or (out_links roads node) j 0 < roads.links) × (roads.from (get_or (out_links roads node) j 0) ≡ node)
out-sound roads node j below = place-sound roads.from node roads.links j below

-- each link that leaves a node is among them
pub out-whole : (roads : Roads) (node link : ℕ) → link < roads.links → roads.from link ≡ node →
    (j : ℕ) × (j < length (out_links roads node)) × (get_or (out_links roads node) j 0 ≡ link)
out-whole roads node link below leaves = place-whole roads.from node link roads.links below leaves
