-- What a walk costs so far, and what its front has of the whole.
use Rattle.std.proofs.Common.{◌≡◌, ℕ, zero, suc, ◌+◌, ◌<◌, ◌≤◌, inl, inr, List, [], ◌∷◌, ◌++◌, length, take, drop, Option, Some, None, IfSome, refl, sym, ap, ◌∙◌, subst, arith}
use Rattle.std.proofs.Math.Seq.{take-suc}
use Rattle.std.proofs.lemmas.Bool.{cases_eq}
use Rattle.std.proofs.lemmas.List.{get_or-take, length-take-le, take-append-drop, take-append-le}
use Rattle.cost_model.specs.Prices.{Prices}
use Rattle.cost_model.specs.Parts.{cost_of}
use Rattle.cost_model.specs.Walks.{link_before, parts_at, sum_before, cost_at, walk_cost, GoesOn}
use Rattle.cost_model.specs.declared.facts.LinkFacts.{LinkFacts}
use Rattle.cost_model.specs.declared.parts.Carry.{Carry}
use Rattle.cost_model.specs.declared.parts.Parts.{Parts}
use Rattle.overpass_graph.specs.Walks.{link_at}
use Rattle.track_legs.specs.Costs.{IsCarriedSoFar, IsKept}
use Rattle.cost_model.proofs.CallerLemmas.{sum-same}

-- this is what a walk carries so far, and it is kept
pub record IsPaidSoFar (prices : Prices) (count : ℕ) (facts : ℕ → LinkFacts) (walk : List ℕ) (carry : Option Carry)
    : Type 0 where
  pub carried : IsCarriedSoFar prices facts walk carry
  pub kept : IfSome carry (λ c. IsKept prices count c)

module _ (p : Prices) (f : ℕ → LinkFacts)
  where
    -- before its first link a walk carries nothing
    pub paid-start : (count : ℕ) → IsPaidSoFar p count f [] None
    paid-start count = record { carried = refl; kept = tt }

    -- it goes on by a link
    pub paid-next : (count : ℕ) (walk : List ℕ) (link : ℕ) (carry : Carry) (added : Parts) → carry.link ≡ link →
        IsKept p count carry → GoesOn p f walk carry added → IsPaidSoFar p count f (walk ++ link ∷ []) (Some carry)
    paid-next count walk link carry added same kept goes =
        subst (λ l. IsPaidSoFar p count f (walk ++ l ∷ []) (Some carry)) same
        (record { carried = goes.carried; kept = kept })

    -- and costs so much more
    pub cost-next : (walk : List ℕ) (link : ℕ) (carry : Carry) (added : Parts) → carry.link ≡ link →
        GoesOn p f walk carry added →
        walk_cost p f (walk ++ link ∷ []) ≡ walk_cost p f walk + cost_of added
    cost-next walk link carry added same goes =
        subst (λ l. walk_cost p f (walk ++ l ∷ []) ≡ walk_cost p f walk + cost_of added) same goes.cost

    -- the link before a position of a front
    before-front : (walk : List ℕ) (n k : ℕ) → k ≤ n → link_before (take n walk) k ≡ link_before walk k
    before-front walk n zero h = refl
    before-front walk n (suc k) h = ap Some (get_or-take n walk k 0 (omega arith))

    -- a front of a front
    front-front : (walk : List ℕ) (n k : ℕ) → k ≤ n → n ≤ length walk → take k (take n walk) ≡ take k walk
    front-front walk n k h inside =
        sym (take-append-le k (take n walk) (drop n walk) (omega (arith, length-take-le n walk inside)))
        ∙ ap (λ w. take k w) (take-append-drop n walk)

    -- the parts at a position of a front are those of the whole
    pub parts-front : (walk : List ℕ) (n k : ℕ) → k < n → n ≤ length walk → parts_at p f (take n walk) k ≡ parts_at p f walk k
    unfolding parts_at
    parts-front walk n k h inside =
        rw (before-front walk n k (omega arith), get_or-take n walk k 0 h, front-front walk n k (omega arith) inside)
        refl

    -- a sum grows
    sum-grows : (a : ℕ → ℕ) (n m : ℕ) → n ≤ m → sum_before a n ≤ sum_before a m
    sum-grows a n zero h = let none : n ≡ zero = omega arith in rw none (omega arith)
    sum-grows a n (suc m) h =
        elim (cases_eq n (suc m)) [
          | inl same ↦ rw same (omega arith)
          | inr other ↦ let less = sum-grows a n m (omega arith) in omega (arith, less)
        ]

    -- a front costs no more than the whole
    pub cost-front : (walk : List ℕ) (n : ℕ) → n ≤ length walk → walk_cost p f (take n walk) ≤ walk_cost p f walk
    cost-front walk n inside =
        let size = length-take-le n walk inside in
        let same = ap (λ m. sum_before (cost_at p f (take n walk)) m) size
        ∙ sum-same (cost_at p f (take n walk)) (cost_at p f walk) n
        (λ k below. ap cost_of (parts-front walk n k below inside)) in
        let grows = sum-grows (cost_at p f walk) n (length walk) inside in
        subst (λ sum. sum ≤ walk_cost p f walk) (sym same) grows

-- one link more
more : (walk : List ℕ) (place : ℕ) → place < length walk →
    take (place + 1) walk ≡ take place walk ++ link_at walk place ∷ []
more walk place below =
    let one : place + 1 ≡ suc place = omega arith in ap (λ n. take n walk) one ∙ take-suc walk place 0 below

module _ (p : Prices) (f : ℕ → LinkFacts) (walk : List ℕ) (place : ℕ) (below : place < length walk) (carry : Carry)
    (added : Parts) (same : carry.link ≡ link_at walk place) (goes : GoesOn p f (take place walk) carry added)
  where
    -- what the links of a list carry before a place
    pub paid-more : (count : ℕ) → IsKept p count carry → IsPaidSoFar p count f (take (place + 1) walk) (Some carry)
    paid-more count kept = subst (λ w. IsPaidSoFar p count f w (Some carry)) (sym (more walk place below))
        (paid-next p f count (take place walk) (link_at walk place) carry added same kept goes)

    -- what they cost
    pub cost-more : walk_cost p f (take (place + 1) walk) ≡ walk_cost p f (take place walk) + cost_of added
    cost-more =
        ap (λ w. walk_cost p f w) (more walk place below)
        ∙ cost-next p f (take place walk) (link_at walk place) carry added same goes

    -- what is too much for a front is too much for the whole
    pub cost-beyond : (bound cost price : ℕ) → walk_cost p f (take place walk) ≡ cost → price ≡ cost_of added →
        (cost + price < bound → ⊥) → walk_cost p f walk < bound → ⊥
    cost-beyond bound cost price so_far is beyond within =
        let front = cost-front p f walk (place + 1) (omega (arith, below)) in
        beyond (omega (arith, front, cost-more, so_far, is, within))

    -- the parts of the link at a place
    pub parts-there : added ≡ parts_at p f walk place
    parts-there =
        let size = length-take-le place walk (omega (arith, below)) in
        let pushed : take place walk ++ carry.link ∷ [] ≡ take (place + 1) walk =
        ap (λ l. take place walk ++ l ∷ []) same ∙ sym (more walk place below) in
        sym goes.parts ∙ ap (λ n. parts_at p f (take place walk ++ carry.link ∷ []) n) size
        ∙ ap (λ w. parts_at p f w place) pushed
        ∙ parts-front p f walk (place + 1) place (omega arith) (omega (arith, below))
