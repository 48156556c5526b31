-- What links cost is below the bound of a search, and the prices of the first segments grow by one.
use Rattle.std.proofs.Common.{◌≡◌, ℕ, zero, suc, pos, ◌+◌, ◌*◌, ◌^◌, ◌<◌, ◌≤◌, unsigned_abs, Bool, true, false, cond, List, [], ◌∷◌, ◌++◌, map, length, Option, Some, None, sym, ap, ◌∙◌, arith}
use Rattle.std.specs.List.{range_with_len}
use Rattle.std.proofs.lemmas.Int.{ints}
use Rattle.std.proofs.lemmas.List.FromFn.{length-map-range_with_len, map-range_with_len_more}
use Rattle.cost_model.proofs.CallerLemmas.{factor-within, per_metre-high, per_metre-low}
use Rattle.cost_model.specs.Facts.{AreFacts, AreLinks, Links}
use Rattle.cost_model.specs.Parts.{IsWeight, distance_of, factor_of}
use Rattle.cost_model.specs.declared.facts.LinkFacts.{LinkFacts}
use Rattle.grid_map.specs.Costs.{AreCheap}
use Rattle.made_routes.specs.Costs.{is_permitted, price_of, segment_prices}
use Rattle.space_search.specs.Rules.{COST_BOUND}

-- ---- Prices are cheap

-- an empty buffer weighs nothing
nothing : IsWeight (pos 0)
nothing = record { low = omega (arith, ints); high = omega (arith, ints) }

-- a distance part is below the bound of a search
distance-cheap : (facts : LinkFacts) → AreFacts facts → unsigned_abs (distance_of facts (pos 0) (pos 0)) < 2 ^ 90
distance-cheap facts is =
    let factor = factor-within facts (pos 0) (pos 0) is nothing nothing in
    let low = per_metre-low facts.arrow.len (factor_of facts (pos 0) (pos 0)) factor.0 in
    let high = per_metre-high facts.arrow.len (factor_of facts (pos 0) (pos 0)) (pos 3000000000000000) is.arrow.short factor.0 factor.1 in
    omega (arith, ints, low, high)

-- a number behind a test
chosen : (b : Bool) (n cost : ℕ) → cond b (Some n) None ≡ Some cost → n ≡ cost
chosen true n cost is = cc
chosen false n cost is = absurd (cc)

-- what a link costs is below the bound of a search
link-cheap : (links : Links) → AreLinks links → (link cost : ℕ) → link < links.count → price_of (links.facts link) ≡ Some cost →
    cost < COST_BOUND
unfolding price_of
link-cheap links sound link cost there is =
    let found = chosen (is_permitted (links.facts link)) (unsigned_abs (distance_of (links.facts link) (pos 0) (pos 0))) cost is in
    let cheap = distance-cheap (links.facts link) (sound link there) in
    omega (arith, cheap, found)

-- what a function gives of a range is cheap in a list
range-cheap : (f : ℕ → Option ℕ) (a n most : ℕ) → a + n ≤ most → ((x cost : ℕ) → x < most → f x ≡ Some cost → cost < COST_BOUND) →
    AreCheap (map f (range_with_len a n))
range-cheap f a zero most within cheap place cost is = absurd (cc)
range-cheap f a (suc n) most within cheap zero cost is = cheap a cost (omega (arith, within)) (cc)
range-cheap f a (suc n) most within cheap (suc place) cost is = range-cheap f (a + 1) n most (omega (arith, within)) cheap place cost is

-- the prices of segments are cheap
pub prices-cheap : (links : Links) → AreLinks links → (which count : ℕ) → which ≤ 1 → 2 * count ≤ links.count →
    AreCheap (segment_prices links which count)
prices-cheap links sound which count side there =
    range-cheap (λ (place : ℕ). price_of (links.facts (2 * place + which))) 0 count count (omega arith)
    (λ n cost below is. link-cheap links sound (2 * n + which) cost (omega (arith, below, side, there)) is)

-- ---- One more

-- the prices of the first segments with the next one's
pub prices-more : (links : Links) (which place : ℕ) (costs pushed : List (Option ℕ)) (price : Option ℕ) →
    costs ≡ segment_prices links which place →
    pushed ≡ costs ++ price ∷ [] → price ≡ price_of (links.facts (2 * place + which)) → pushed ≡ segment_prices links which (place + 1)
prices-more links which place costs pushed price before is next =
    is ∙ ap (λ (l : List (Option ℕ)). l ++ price ∷ []) before
    ∙ ap (λ (p : Option ℕ). segment_prices links which place ++ p ∷ []) next
    ∙ sym (map-range_with_len_more (λ (k : ℕ). price_of (links.facts (2 * k + which))) 0 place place (omega arith))

-- the prices of all
pub prices-whole : (links : Links) (which place count : ℕ) (costs : List (Option ℕ)) → count ≤ place → place ≤ count →
    costs ≡ segment_prices links which place → costs ≡ segment_prices links which count
prices-whole links which place count costs low high is =
    let same : place ≡ count = omega (arith, low, high) in
    is ∙ ap (segment_prices links which) same

-- how many there are
pub prices-count : (links : Links) (which count : ℕ) → length (segment_prices links which count) ≡ count
prices-count links which count = length-map-range_with_len (λ (k : ℕ). price_of (links.facts (2 * k + which))) 0 count
