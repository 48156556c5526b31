-- The turns of a job, by the turns of its searches.
use Rattle.std.proofs.Common.{◌≡◌, inl, inr, ℕ, suc, ◌+◌, ◌-◌, ◌<◌, ◌≤◌, Option, ap, arith}
use Rattle.leg_search.specs.declared.search.LegSearch.{LegSearch}
use Rattle.route_engine.specs.Plans.{Plan}
use Rattle.route_engine.specs.Progress.{Advances, GoesOnAt, IsStage, allowed, beginning_at, counted_in, found_count, searches_left, spent_in, walk_count}
use Rattle.route_engine.specs.declared.advance.Advanced.{Advanced}
use Rattle.route_engine.specs.declared.stage.Stage.{Stage}
use Rattle.route_engine.specs.declared.stage.Stage.TheVariants.{Searching, Found, Refused}
use Rattle.route_engine.specs.declared.walked.Walked.{Walked}
use Rattle.route_engine.proofs.StageLemmas.{allowed-more, allowed-next, fewer-left}

-- no more is counted for a beginning than what is left of the turn
beginning-within : (left : ℕ) (stage : Stage) → beginning_at left stage ≤ left
beginning-within left (Searching after search) = omega arith
beginning-within left (Found track) = omega arith
beginning-within left (Refused e) = omega arith

-- where a search goes on as many are left
same-left :
    (plan : Plan) (walked : Walked) (search : Option LegSearch) (stage : Stage) (n : ℕ) → GoesOnAt walked n stage →
    searches_left plan stage ≡ searches_left plan (Searching walked search)
same-left plan walked search (Searching after next) n goes = ap (λ (w : Walked). suc (walk_count plan - found_count plan w)) goes.0
same-left plan walked search (Found track) n goes = absurd goes
same-left plan walked search (Refused e) n goes = absurd goes

module _ (plan : Plan) (walked : Walked) (search : Option LegSearch) (quota total : ℕ) (advanced : Advanced)
    (is : IsStage plan (Searching walked search)) (within : total ≤ allowed plan (Searching walked search))
    (on : Advances plan walked (spent_in search) quota advanced) where
  -- no more is counted than is allowed
  pub counted-allowed : total + counted_in advanced ≤ allowed plan advanced.stage
  counted-allowed = elim on.steps as (λ _. total + counted_in advanced ≤ allowed plan advanced.stage) [
    | inl goes ↦ omega (arith, goes.whole, goes.none, allowed-more plan walked search advanced.stage total quota within goes.stage)
    | inr ends ↦ omega (
      arith,
      ends.counts,
      allowed-next plan walked search advanced.stage total advanced.searched (quota - advanced.searched) is.0 within on.within ends.stage,
    )
  ]

  -- nor is more than the quota
  pub counted-within : counted_in advanced ≤ quota
  counted-within = elim on.steps as (λ _. counted_in advanced ≤ quota) [
    | inl goes ↦ omega (arith, goes.whole, goes.none)
    | inr ends ↦ omega (arith, ends.fewer, ends.counts, beginning-within (quota - advanced.searched) advanced.stage)
  ]

  -- each step leaves fewer searches or less of the quota
  pub next-nearer : 1 ≤ quota →
      searches_left plan advanced.stage + (quota - counted_in advanced) < searches_left plan (Searching walked search) + quota
  next-nearer some =
      elim on.steps as (λ _. searches_left plan advanced.stage + (quota - counted_in advanced) <
      searches_left plan (Searching walked search) + quota) [
        | inl goes ↦ omega (arith, goes.whole, goes.none, some, same-left plan walked search advanced.stage _ goes.stage)
        | inr ends ↦ omega (arith, fewer-left plan walked search advanced.stage is.0 on.stage ends.stage)
      ]
