-- What a walk costs when it goes on by one link.
use Rattle.std.proofs.Common.{◌≡◌, ℕ, zero, suc, ◌+◌, ◌<◌, ◌≤◌, List, [], ◌∷◌, ◌++◌, length, Some, refl, ap, ◌∙◌, arith, length-append}
use Rattle.std.proofs.lemmas.List.{get_or_append_left, take-append-le}
use Rattle.elev_buffer.specs.Covers.{after}
use Rattle.elev_buffer.specs.declared.labels.Pair.{Pair}
use Rattle.cost_model.specs.Prices.{Prices}
use Rattle.cost_model.specs.Parts.{climb_of, parts_after, cost_of}
use Rattle.cost_model.specs.Walks.{empty_pair, buffers_along, buffers_after, link_before, facts_of, parts_at, sum_before, cost_at, rank_at, last_link, carry_after, GoesOn}
use Rattle.cost_model.specs.declared.facts.LinkFacts.{LinkFacts}
use Rattle.cost_model.specs.declared.parts.Parts.{Parts}
use Rattle.cost_model.specs.declared.parts.Carry.{Carry}
use Rattle.overpass_graph.specs.Walks.{link_at}
use Rattle.std.proofs.Math.Seq.{take-append_seam}

-- the buffers after one link more
buffers-push : (p : Prices) (f : ℕ → LinkFacts) (pair : Pair) (w : List ℕ) (link : ℕ) →
    buffers_along p f pair (w ++ (link ∷ [])) ≡ after (climb_of p (f link)) (buffers_along p f pair w)
buffers-push p f pair [] link = refl
buffers-push p f pair (x ∷ w) link = buffers-push p f (after (climb_of p (f x)) pair) w link

-- one link more
length-push : (w : List ℕ) (link : ℕ) → length (w ++ (link ∷ [])) ≡ suc (length w)
length-push w link = omega (arith, length-append w (link ∷ []))

-- stands at the end
at-end : (w : List ℕ) (link : ℕ) → link_at (w ++ (link ∷ [])) (length w) ≡ link
at-end [] link = refl
at-end (x ∷ w) link = at-end w link

-- the link before a position that is not the first
before-suc : (w : List ℕ) (n m : ℕ) → n ≡ suc m → link_before w n ≡ Some (link_at w m)
before-suc w n m e = rw e refl

-- the link before a position does not change
before-push : (w ys : List ℕ) (n : ℕ) → n ≤ length w → link_before (w ++ ys) n ≡ link_before w n
before-push w ys zero h = refl
before-push w ys (suc n) h = ap Some (get_or_append_left w ys 0 n (omega arith))

-- the parts at an earlier position do not change
parts-push : (p : Prices) (f : ℕ → LinkFacts) (w ys : List ℕ) (n : ℕ) → n < length w → parts_at p f (w ++ ys) n ≡ parts_at p f w n
unfolding parts_at
parts-push p f w ys n h =
    rw (before-push w ys n (omega arith), get_or_append_left w ys 0 n h, take-append-le n w ys (omega arith)) refl

-- sums of the same counts
pub sum-same : (f g : ℕ → ℕ) (n : ℕ) → ((k : ℕ) → k < n → f k ≡ g k) → sum_before f n ≡ sum_before g n
sum-same f g zero h = refl
sum-same f g (suc n) h = rw (sum-same f g n (λ k below. h k (omega arith)), h n (omega arith)) refl

-- the sum over the positions of a walk that is one longer
sum-push : (f g : ℕ → ℕ) (n m last : ℕ) → n ≡ suc m → ((k : ℕ) → k < m → f k ≡ g k) → f m ≡ last → sum_before f n ≡ sum_before g m + last
sum-push f g n m last e h is = rw (e, sum-same f g m h, is) refl

-- the parts at the last position
parts-last : (p : Prices) (f : ℕ → LinkFacts) (w : List ℕ) (link : ℕ) →
    parts_at p f (w ++ (link ∷ [])) (length w) ≡ parts_after p (facts_of f (last_link w)) (f link) (buffers_after p f w)
unfolding parts_at
parts-last p f w link = rw (before-push w (link ∷ []) (length w) (omega arith), at-end w link, take-append_seam w (link ∷ [])) refl

-- a walk goes on by any link
goes : (p : Prices) (f : ℕ → LinkFacts) (w : List ℕ) (link : ℕ) →
    GoesOn p f w (carry_after p link (f link) (buffers_after p f w))
    (parts_after p (facts_of f (last_link w)) (f link) (buffers_after p f w))
goes p f w link =
    record {
      carried = record {
        last = before-suc _ _ (length w) (length-push w link) ∙ ap Some (at-end w link);
        buffers = buffers-push p f empty_pair w link;
      };
      parts = parts-last p f w link;
      cost = sum-push (cost_at p f (w ++ (link ∷ []))) (cost_at p f w) _ (length w) _ (length-push w link)
          (λ k below. ap cost_of (parts-push p f w (link ∷ []) k below)) (ap cost_of (parts-last p f w link));
      rank = λ used. sum-push (rank_at p f used (w ++ (link ∷ []))) (rank_at p f used w) _ (length w) _ (length-push w link)
          (λ k below. rw (get_or_append_left w (link ∷ []) 0 k below, parts-push p f w (link ∷ []) k below) refl)
          (rw (at-end w link, parts-last p f w link) refl);
    }

-- a walk goes on by a link with what its calls answer
pub goes-on : (p : Prices) (f : ℕ → LinkFacts) (w : List ℕ) (link : ℕ) (facts : LinkFacts) (pair : Pair) (carry : Carry) (added : Parts) →
    f link ≡ facts → buffers_after p f w ≡ pair → carry ≡ carry_after p link facts pair →
    added ≡ parts_after p (facts_of f (last_link w)) facts pair → GoesOn p f w carry added
goes-on p f w link facts pair carry added ef eb ec ea = rw (ec, ea, ← ef, ← eb) (goes p f w link)
