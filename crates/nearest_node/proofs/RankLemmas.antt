-- What the rank of a node that is computed says of its rank.
use Rattle.std.proofs.Common.{◌≡◌, ℕ, ◌+◌, ◌*◌, ◌%◌, ◌^◌, ◌<◌, ◌≤◌, Some, inl, inr, arith, refl, sym, ap, ◌∙◌}
use Rattle.std.proofs.lemmas.Bool.{le-leb, lt-leb, cases_order}
use Rattle.std.proofs.lemmas.Nat.{mod-mul-add}
use Rattle.geo_int.specs.Place.{Place}
use Rattle.geo_int.specs.Arrow.{arrow_between, length_between}
use Rattle.geo_int.specs.declared.offsets.Arrow.{Arrow}
use Rattle.geo_int.proofs.CallerLemmas.{arrow_between-found}
use Rattle.nearest_node.specs.Best.{IsBest, held_length, no_rank, rank_of}

-- a length of at most 100 kilometres is held as it is
pub held-short : (length : ℕ) → length ≤ 100000000 → held_length length ≡ length
unfolding held_length
held-short length short = rw (le-leb length 100000000 short) refl

-- a longer one is held as one
pub held-long : (length : ℕ) → 100000000 < length → held_length length ≡ 100000001
unfolding held_length
held-long length long = rw (lt-leb length 100000000 long) refl

-- what a length is held as is no more than it
pub held-least : (length : ℕ) → held_length length ≤ length
held-least length = elim (cases_order length 100000000) [
  | inl same ↦ omega (arith, same, held-short length (omega (arith, same)))
  | inr differ ↦ elim differ [
    | inl short ↦ omega (arith, held-short length (omega (arith, short)))
    | inr long ↦ omega (arith, long, held-long length long)
  ]
]

-- the length of an arrow that is there is held as it is
pub held-arrow : (a b : Place) (found : Arrow) → arrow_between a b ≡ Some found → found.len ≡ held_length (length_between a b)
unfolding length_between
held-arrow a b found there =
    let is = arrow_between-found a b found there in
    ap (λ (arrow : Arrow). arrow.len) is.0 ∙ sym (held-short (length_between a b) is.1)

-- a node whose computed rank is before the best is the best after it
pub ranked-better : (count : ℕ) (places : ℕ → Place) (may : ℕ → Type 0) (at : Place) (node found best : ℕ) → count ≤ 2 ^ 32 →
    node < count → may node → IsBest count places may at best →
    found ≡ held_length (length_between at (places node)) * 2 ^ 32 + node → found < best → IsBest count places may at found
unfolding rank_of
ranked-better count places may at node found best few below lets good is less =
    let length = length_between at (places node) in
    let small : node < 2 ^ 32 = omega (arith, few, below) in
    let number : found % 2 ^ 32 ≡ node = ap (λ n. n % 2 ^ 32) is ∙ mod-mul-add (held_length length) (2 ^ 32) node small in
    let held : held_length length ≡ length = elim (cases_order 100000000 length) [
      | inl same ↦ held-short length (omega (arith, same))
      | inr differ ↦ elim differ [
        | inl long ↦ absurd (omega (arith, is, less, good.most, held-long length long))
        | inr short ↦ held-short length (omega (arith, short))
      ]
    ] in
    record {
      most = omega (arith, less, good.most);
      in_range = λ some. rw number below;
      let_through = λ some. rw number lets;
      is = λ some. rw number (is ∙ ap (λ n. n * 2 ^ 32 + node) held);
    }

-- a rank that is computed is no more than the rank
pub ranked-least : (places : ℕ → Place) (at : Place) (node found : ℕ) →
    found ≡ held_length (length_between at (places node)) * 2 ^ 32 + node → found ≤ rank_of places at node
unfolding rank_of
ranked-least places at node found is = omega (arith, is, held-least (length_between at (places node)))

-- no rank is good as the best so far
pub none-best : (count : ℕ) (places : ℕ → Place) (may : ℕ → Type 0) (at : Place) → IsBest count places may at no_rank
none-best count places may at = record {
  most = omega arith;
  in_range = λ some. absurd (omega (arith, some));
  let_through = λ some. absurd (omega (arith, some));
  is = λ some. absurd (omega (arith, some));
}
