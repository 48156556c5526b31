-- Pairs that are taken one after the other.
use Rattle.std.proofs.Common.{◌≡◌, ℕ, suc, ◌+◌, ◌<◌, ◌^◌, List, [], ◌∷◌, map, length, Ok, Err, sym, ap, ◌∙◌, arith, add-one, ◌⊎◌, inl, inr}
use Rattle.form_urlencoded.specs.Form.{raw_pairs}
use Rattle.item_list.specs.Answer.{and_then}
use Rattle.route_http.specs.declared.error.RequestError.{RequestError}
use Rattle.route_http.specs.declared.error.RequestError.TheVariants.{NoMemory}
use Rattle.route_http.specs.Parts.{Parts, take_pair, take_pairs}
use Rattle.route_http.specs.Request.{decoded, decoded_pair, pairs_of}

-- what the pairs from here on add is what all pairs of the query add, and the pairs are few enough to be numbered
pub record TakesOn (query : List ℕ) (first : Parts) (place : ℕ) (left : List (List ℕ × List ℕ)) (now : Parts) : Type 0 where
  pub same : take_pairs place (map decoded_pair left) now ≡ take_pairs 0 (pairs_of query) first
  pub few : place + length left < 2 ^ 64

-- at the beginning all pairs are left
pub TakesOn-init : (query : List ℕ) (first : Parts) (left : List (List ℕ × List ℕ)) → left ≡ raw_pairs query → length left < 2 ^ 64
    → TakesOn query first 0 left first
TakesOn-init query first left left_is few = record {
  same = ap (λ (l : List (List ℕ × List ℕ)). take_pairs 0 (map decoded_pair l) first) left_is;
  few = omega arith;
}

-- at the end nothing is left to be added
pub TakesOn-done : (query : List ℕ) (first : Parts) (place : ℕ) (left : List (List ℕ × List ℕ)) (now : Parts) →
    TakesOn query first place left now
    → left ≡ [] → take_pairs 0 (pairs_of query) first ≡ Ok now
TakesOn-done query first place left now takes none =
    sym takes.same ∙ ap (λ (l : List (List ℕ × List ℕ)). take_pairs place (map decoded_pair l) now) none

-- where a pair is the next
module _ (query : List ℕ) (first : Parts) (place : ℕ) (left : List (List ℕ × List ℕ)) (now : Parts) (name value : List ℕ) (rest :
    List (List ℕ × List ℕ))
    (n v : List ℕ) (takes : TakesOn query first place left now) (next_is : left ≡ (name, value) ∷ rest) (n_is : n ≡ decoded name) (v_is :
    v ≡ decoded value) where
  -- what all pairs add is what this pair leaves to the others
  pair_first : and_then (take_pair place (n, v) now) (take_pairs (suc place) (map decoded_pair rest)) ≡ take_pairs 0 (pairs_of query) first
  pair_first =
      ap (λ (t : List ℕ). and_then (take_pair place (t, v) now) (take_pairs (suc place) (map decoded_pair rest))) n_is
      ∙ ap (λ (t : List ℕ). and_then (take_pair place (decoded name, t) now) (take_pairs (suc place) (map decoded_pair rest))) v_is
      ∙ sym (ap (λ (l : List (List ℕ × List ℕ)). take_pairs place (map decoded_pair l) now) next_is)
      ∙ takes.same

  -- what a refused pair answers is answered of the query
  pub TakesOn-refused : (e : RequestError) → (e ≡ NoMemory) ⊎ (take_pair place (n, v) now ≡ Err e)
      → (e ≡ NoMemory) ⊎ (take_pairs 0 (pairs_of query) first ≡ Err e)
  TakesOn-refused e (inl memory) = inl memory
  TakesOn-refused e (inr refused) =
      inr (sym pair_first ∙ ap (λ r. and_then r (take_pairs (suc place) (map decoded_pair rest))) refused)

  -- a pair that is taken leaves the others
  pub TakesOn-more : (next : Parts) → take_pair place (n, v) now ≡ Ok next → TakesOn query first (place + 1) rest next
  TakesOn-more next ok = record {
    same = ap (λ k. take_pairs k (map decoded_pair rest) next) (add-one place)
        ∙ sym (ap (λ r. and_then r (take_pairs (suc place) (map decoded_pair rest))) ok)
        ∙ pair_first;
    few = omega (arith, takes.few, ap (λ (l : List (List ℕ × List ℕ)). length l) next_is);
  }
