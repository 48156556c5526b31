-- What a walk costs by a profile that is ready is what it costs by the profile's binding.
use Rattle.std.proofs.Common.{◌≡◌, ◌⊎◌, ℕ, zero, suc, ℤ, ◌+◌, ◌*◌, ◌<◌, ◌≤◌, arith, List, [], ◌∷◌, map, length, Option, Some, None, Result, Err, refl, ap, ◌∙◌, subst}
use Rattle.std.specs.List.{range_with_len}
use Rattle.std.specs.Prelude.{IsNone}
use Rattle.cost_model.specs.Facts.{Links}
use Rattle.grid_map.specs.Costs.{Costs, listed_costs}
use Rattle.grid_map.specs.Segments.{segments_of}
use Rattle.grid_map.specs.declared.plan.Plan.{Plan}
use Rattle.hgt_tiles.specs.Relief.{Relief}
use Rattle.hgt_tiles.specs.Tiles.{relief_at}
use Rattle.hgt_tiles.specs.declared.names.Corner.{Corner}
use Rattle.hgt_tiles.specs.declared.tile_set.Tiles.{Tiles}
use Rattle.made_routes.proofs.TellLemmas.{route-told, tells-by}
use Rattle.made_routes.specs.Costs.{bound_links, costs_by, price_of, segment_prices}
use Rattle.made_routes.specs.Errors.{route_error}
use Rattle.made_routes.specs.Made.{HaveNoTile, IsMadeWorld, Makes, RefusesNothing}
use Rattle.made_routes.specs.Maps.{IsGridMap}
use Rattle.made_routes.specs.Walks.{ArePrices, IsBoundFor, IsProfileRefused, IsWalkAnswer, IsWalkBy, IsWalkOver, WalkQuestion}
use Rattle.made_routes.specs.declared.error.MadeError.{MadeError}
use Rattle.made_routes.specs.declared.priced.PricedWalk.{PricedWalk}
use Rattle.profile_text.specs.Tree.{Sections}
use Rattle.route_ready.specs.Readiness.{IsReadyBy, ready_of, terms_in}
use Rattle.route_ready.specs.Worlds.{WorldValue, binding_in}
use Rattle.route_ready.specs.declared.error.RouteError.{RouteError}
use Rattle.route_ready.specs.declared.error.RouteError.TheVariants as refusal
use Rattle.route_ready.specs.declared.ready.Ready.{Ready}
use Rattle.way_class.specs.Facts.{Binding}
use Rattle.way_class.specs.Links.{links_of}

-- ---- Links of the same facts

-- what functions give of a range, where they give the same
range-same : (f g : ℕ → Option ℕ) (a n most : ℕ) → a + n ≤ most → ((x : ℕ) → x < most → f x ≡ g x) →
    map f (range_with_len a n) ≡ map g (range_with_len a n)
range-same f g a zero most within same = refl
range-same f g a (suc n) most within same =
    ap (λ (y : Option ℕ). y ∷ map f (range_with_len (a + 1) n)) (same a (omega (arith, within)))
    ∙ ap (λ (l : List (Option ℕ)). g a ∷ l) (range-same f g (a + 1) n most (omega (arith, within)) same)

-- segments cost the same by links of the same facts
prices-same : (a b : Links) → ((link : ℕ) → link < b.count → a.facts link ≡ b.facts link) → (which count : ℕ) → which ≤ 1 →
    2 * count ≤ b.count → segment_prices a which count ≡ segment_prices b which count
prices-same a b facts which count side there =
    range-same (λ (place : ℕ). price_of (a.facts (2 * place + which))) (λ (place : ℕ). price_of (b.facts (2 * place + which))) 0 count count
    (omega arith) (λ place below. ap price_of (facts (2 * place + which) (omega (arith, below, side, there))))

-- the segments of a grid cost the same by links of the same facts
costs-same : (plan : Plan) (a b : Links) → ((link : ℕ) → link < b.count → a.facts link ≡ b.facts link) →
    2 * length (segments_of plan) ≤ b.count → costs_by plan a ≡ costs_by plan b
costs-same plan a b facts there =
    ap (λ (l : List (Option ℕ)). listed_costs plan l (segment_prices a 1 (length (segments_of plan))))
    (prices-same a b facts 0 (length (segments_of plan)) (omega arith) there)
    ∙ ap (λ (l : List (Option ℕ)). listed_costs plan (segment_prices b 0 (length (segments_of plan))) l)
    (prices-same a b facts 1 (length (segments_of plan)) (omega arith) there)

-- ---- Answers

-- a walk by a profile that is ready is a walk by the profile
walk-ready : (plan : Plan) (from to : ℕ) (binding : Binding) (ready : Ready) → IsReadyBy binding (ready_of binding) ready →
    IsGridMap plan binding.map → (answer : Option PricedWalk) →
    IsWalkOver plan (costs_by plan (links_of ready.bound.value)) from to answer → IsWalkBy plan from to binding answer
walk-ready plan from to binding ready is grid answer over = record {
  terms = terms_in ready;
  accepted = is.terms_are;
  over = subst (λ (costs : Costs). IsWalkOver plan costs from to answer)
      (costs-same plan (links_of ready.bound.value) (bound_links binding) is.facts (omega (arith, grid.count))) over;
}

-- there are two links for each segment
pub links-there : (plan : Plan) (world : WorldValue) (sections : Sections) (overrides : List (List ℕ × ℤ)) (ready : Ready) →
    IsGridMap plan world.map →
    IsReadyBy (binding_in world sections overrides) (ready_of (binding_in world sections overrides)) ready →
    2 * length (segments_of plan) ≤ (links_of ready.bound.value).count
links-there plan world sections overrides ready grid is = omega (arith, grid.count, is.fits.counted)

module _ (plan : Plan) (from to : ℕ) (world : WorldValue) (sections : Sections) (overrides : List (List ℕ × ℤ)) (none : overrides ≡ [])
    (grid : IsGridMap plan world.map) where
  -- what is told of a walk by a profile that is ready is told by the profile
  pub ready-told : (ready : Ready) (result : Result (Option PricedWalk) MadeError) →
      IsReadyBy (binding_in world sections overrides) (ready_of (binding_in world sections overrides)) ready →
      Makes (IsWalkOver plan (costs_by plan (links_of ready.bound.value)) from to) RefusesNothing result →
      Makes (IsWalkBy plan from to (binding_in world sections [])) (λ error. ready_of (binding_in world sections []) ≡ Err error) result
  ready-told ready result is told =
      tells-by (IsWalkOver plan (costs_by plan (links_of ready.bound.value)) from to) (IsWalkBy plan from to (binding_in world sections []))
      RefusesNothing
      (λ (error : RouteError). ready_of (binding_in world sections []) ≡ Err error) result
      (walk-ready plan from to (binding_in world sections []) ready
      (subst (λ (o : List (List ℕ × ℤ)). IsReadyBy (binding_in world sections o) (ready_of (binding_in world sections o)) ready) none is)
      grid)
      (λ error nothing. absurd nothing) told

  -- a refusal of the profile is told as such
  pub refusal-told : (error : RouteError) (told : MadeError) → told ≡ route_error error →
      (error ≡ refusal.NoMemory) ⊎ (ready_of (binding_in world sections overrides) ≡ Err error) →
      Makes (IsWalkBy plan from to (binding_in world sections [])) (λ error. ready_of (binding_in world sections []) ≡ Err error)
      (Err told)
  refusal-told error told is cause =
      route-told (IsWalkBy plan from to (binding_in world sections []))
      (λ (e : RouteError). ready_of (binding_in world sections []) ≡ Err e) error told
      is (subst (λ (o : List (List ℕ × ℤ)). (error ≡ refusal.NoMemory) ⊎ (ready_of (binding_in world sections o) ≡ Err error)) none cause)

-- a walk by the profile of a question answers it
walk-answers : (question : WalkQuestion) (binding : Binding) → IsBoundFor question binding → (answer : Option PricedWalk) →
    IsWalkBy question.plan question.from question.to binding answer → IsWalkAnswer question answer
walk-answers question binding bound answer by = go answer by.over
  where
    costs : Costs
    costs = costs_by question.plan (bound_links binding)

    prices : ArePrices question costs
    prices = record { binding = binding; bound = bound; terms = by.terms; accepted = by.accepted; are = refl }

    go : (answer : Option PricedWalk) → IsWalkOver question.plan costs question.from question.to answer → IsWalkAnswer question answer
    go (Some walk) over = record { costs = costs; prices = prices; least = over.0; long = over.1 }
    go None over = record { costs = costs; prices = prices; none = over }

-- tiles that have none have no tile
pub none-there : (tiles : Tiles) → ((corner : Corner) → IsNone (relief_at tiles corner)) → HaveNoTile tiles
none-there tiles none corner = go (relief_at tiles corner) (none corner)
  where
    go : (there : Option Relief) → IsNone there → there ≡ None
    go None is = refl
    go (Some relief) is = absurd (cc)

-- what is told by the profile of a question over the world that is made for it answers the question
pub walk-made : (question : WalkQuestion) (tiles : Tiles) (world : WorldValue) (result : Result (Option PricedWalk) MadeError) →
    HaveNoTile tiles →
    IsMadeWorld question.plan question.table tiles world →
    Makes (IsWalkBy question.plan question.from question.to (binding_in world question.sections []))
    (λ error. ready_of (binding_in world question.sections []) ≡ Err error) result →
    Makes (IsWalkAnswer question) (IsProfileRefused question) result
walk-made question tiles world result level made told =
    tells-by (IsWalkBy question.plan question.from question.to binding) (IsWalkAnswer question)
    (λ (error : RouteError). ready_of binding ≡ Err error) (IsProfileRefused question) result (walk-answers question binding bound)
    (λ error refused. record { binding = binding; bound = bound; refused = refused }) told
  where
    binding : Binding
    binding = binding_in world question.sections []

    bound : IsBoundFor question binding
    bound = record { tiles = tiles; level = level; world = world; made = made; is = refl }
