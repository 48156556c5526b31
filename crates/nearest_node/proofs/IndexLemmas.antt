-- What the keys of an index say of nodes.
use Rattle.std.proofs.Common.{◌≡◌, ℕ, zero, suc, ◌+◌, ◌*◌, ◌/◌, ◌%◌, ◌^◌, ◌<◌, ◌≤◌, List, [], ◌∷◌, ◌++◌, length, get_or, refl, ap, subst, ◌∙◌, arith, inl, inr}
use Rattle.std.proofs.lemmas.Nat.{mod-mul-add, div-mul-add}
use Rattle.std.proofs.lemmas.List.{length-append, get_or_append_left, get_or_at, get_or_default}
use Rattle.std.proofs.lemmas.List.Sorted.{All-permutation, Contains-permutation}
use Rattle.std.proofs.lemmas.Bool.{cases_eq}
use Rattle.geo_int.specs.Place.{Place}
use Rattle.nearest_node.specs.Index.{IsIndex, height_of, key_of, keys_below}

-- the number of a key's node
pub key-number : (places : ℕ → Place) (node : ℕ) → node < 2 ^ 32 → key_of places node % 2 ^ 32 ≡ node
unfolding key_of
key-number places node below = mod-mul-add (height_of (places node)) (2 ^ 32) node below

-- the latitude of a key's node
pub key-latitude : (places : ℕ → Place) (node : ℕ) → node < 2 ^ 32 → key_of places node / 2 ^ 32 ≡ height_of (places node)
unfolding key_of
key-latitude places node below = div-mul-add (height_of (places node)) (2 ^ 32) node below

-- there is a key for each node
pub length-keys : (places : ℕ → Place) (n : ℕ) → length (keys_below places n) ≡ n
length-keys places zero = refl
length-keys places (suc n) = omega (arith, length-append (keys_below places n) (key_of places n ∷ []), length-keys places n)

-- the key at the place of its node
pub key-at : (places : ℕ → Place) (k n : ℕ) → k < n → get_or (keys_below places n) k 0 ≡ key_of places k
key-at places k zero below = absurd (omega arith)
key-at places k (suc n) below =
    elim (cases_eq k n) [
      | inl last ↦
          rw last (get_or_at (keys_below places n) (key_of places n) [] 0 n (length-keys places n))
      | inr other ↦
          let before : k < n = omega arith in
          get_or_append_left (keys_below places n) (key_of places n ∷ []) 0 k (omega (arith, length-keys places n))
          ∙ key-at places k n before
    ]

-- each key of an index is that of a node
pub index-key : (count : ℕ) (places : ℕ → Place) (keys : List ℕ) → IsIndex count places keys →
    (k : ℕ) → k < length keys → (node : ℕ) × (node < count) × (get_or keys k 0 ≡ key_of places node)
index-key count places keys is k below =
    let many = length-keys places count in
    All-permutation (λ key. (node : ℕ) × (node < count) × (key ≡ key_of places node)) (keys_below places count) keys is.all
    (λ j d lt. let short : j < count = omega (arith, many) in
    (j, short, get_or_default (keys_below places count) j d 0 lt ∙ key-at places j count short))
    k 0 below

-- each node has its key in an index
pub index-node : (count : ℕ) (places : ℕ → Place) (keys : List ℕ) → IsIndex count places keys →
    (node : ℕ) → node < count → (k : ℕ) × (k < length keys) × (get_or keys k 0 ≡ key_of places node)
index-node count places keys is node below =
    let many = length-keys places count in
    let within : node < length (keys_below places count) = omega (arith, many) in
    let there = Contains-permutation (keys_below places count) keys (key_of places node) is.all
    (node, within, get_or_default (keys_below places count) node (key_of places node) 0 within ∙ key-at places node count below) in
    (there.0, there.1, get_or_default keys there.0 0 (key_of places node) there.1 ∙ there.2)

-- the keys after one are no less
pub index-rising : (count : ℕ) (places : ℕ → Place) (keys : List ℕ) → IsIndex count places keys →
    (i j : ℕ) → i ≤ j → j < length keys → get_or keys i 0 ≤ get_or keys j 0
index-rising count places keys is i j order below = is.rising i j 0 order below

-- one more key behind those of the nodes before it
pub keys-pushed : (places : ℕ → Place) (node : ℕ) (keys pushed : List ℕ) (key : ℕ) (at : Place) → keys ≡ keys_below places node →
    at ≡ places node → key ≡ height_of at * 2 ^ 32 + node → pushed ≡ keys ++ key ∷ [] → pushed ≡ keys_below places (node + 1)
unfolding key_of
keys-pushed places node keys pushed key at taken there is more =
    let next : suc node ≡ node + 1 = omega arith in
    subst (λ n. pushed ≡ keys_below places n) next
    (more ∙ ap (λ front. front ++ key ∷ []) taken
    ∙ ap (λ last. keys_below places node ++ last ∷ []) (is ∙ ap (λ (p : Place). height_of p * 2 ^ 32 + node) there))
