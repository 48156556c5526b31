-- The least sums of low prices from the nodes of a map to the target of a leg, up to a radius, are a lower bound of
-- what still has to be paid.
use Rattle.std.proofs.Common.{◌≡◌, ℕ, ◌+◌, ◌<◌, ◌≤◌, ◌^◌, IsTrue, Option, Some, None, refl, sym, ap, ◌∙◌, subst, arith}
use Rattle.std.proofs.Math.Logic.{∥∥₁_elim}
use Rattle.std.proofs.Props.{props}
use Rattle.cost_model.specs.Facts.{AreFacts}
use Rattle.cost_model.specs.Parts.{IsHeld, least_price}
use Rattle.cost_model.specs.Prices.{IsPrices}
use Rattle.cost_model.proofs.CallerLemmas.{least_price-least}
use Rattle.elev_buffer.specs.declared.labels.Pair.{Pair}
use Rattle.least_sums.proofs.CallerLemmas.{up-to-none, up-to-only, up-to-step, up-to-target}
use Rattle.overpass_graph.specs.Roads.{IsRoads}
use Rattle.bike_space.specs.Lawful.{IsBound, MayGoOn}
use Rattle.bike_space.specs.Remaining.{IsRemainingUpTo, rest_price}
use Rattle.bike_space.specs.Tasks.{Task, price_of}
use Rattle.bike_space.proofs.WalkLemmas.{take-follows}

-- a search on a leg whose bound is told by sums of nodes
pub record IsBySums (task : Task) (sum : ℕ → Option ℕ) : Type 0 where
  pub roads : IsRoads task.leg.ride.roads
  pub facts : (link : ℕ) → link < task.leg.ride.roads.links → AreFacts (task.leg.ride.facts link)
  pub prices : IsPrices task.leg.ride.prices
  pub target_in : task.leg.target < task.leg.ride.roads.nodes
  pub sums : (node : ℕ) → node < task.leg.ride.roads.nodes →
      IsRemainingUpTo task.leg task.used task.radius node (sum node)
  pub small : (node low : ℕ) → node < task.leg.ride.roads.nodes → sum node ≡ Some low → low < 2 ^ 126
  pub low : (link : ℕ) → task.low link ≡ sum (task.leg.ride.roads.to link)

module _ (task : Task) (sum : ℕ → Option ℕ) (by : IsBySums task sum) where
  -- what still has to be paid behind a link
  pub sums-known : (link : ℕ) → link < task.leg.ride.roads.links →
      IsRemainingUpTo task.leg task.used task.radius (task.leg.ride.roads.to link) (task.low link)
  sums-known link within =
      subst (IsRemainingUpTo task.leg task.used task.radius (task.leg.ride.roads.to link)) (sym (by.low link))
      (by.sums _ (by.roads.to_in link within))

  -- an open link has its low price
  priced : (link : ℕ) → IsTrue (task.leg.ride.is_open link) →
      rest_price task.leg task.used link ≡ Some (least_price (task.used link) (task.leg.ride.facts link))
  priced link opens = rw opens refl

  -- at the target nothing has still to be paid
  rest-target : (low : Option ℕ) → IsRemainingUpTo task.leg task.used task.radius task.leg.target low → low ≡ Some 0
  rest-target low is = ∥∥₁_elim is (hlevel props)
      (λ h. up-to-target task.leg.ride.roads (rest_price task.leg task.used) task.leg.target task.radius low h)

  -- where there is none from a node, nothing else is
  rest-only : (node : ℕ) (low : Option ℕ) → IsRemainingUpTo task.leg task.used task.radius node low →
      IsRemainingUpTo task.leg task.used task.radius node None → low ≡ None
  rest-only node low is none =
      ∥∥₁_elim is (hlevel props) (λ h. ∥∥₁_elim none (hlevel props)
      (λ k. up-to-only task.leg.ride.roads (rest_price task.leg task.used) task.leg.target task.radius node low h k))

  -- what still has to be paid falls along an open link by no more than its low price
  rest-step : (link before after : ℕ) → link < task.leg.ride.roads.links → IsTrue (task.leg.ride.is_open link) →
      IsRemainingUpTo task.leg task.used task.radius (task.leg.ride.roads.from link) (Some before) →
      IsRemainingUpTo task.leg task.used task.radius (task.leg.ride.roads.to link) (Some after) →
      before ≤ least_price (task.used link) (task.leg.ride.facts link) + after
  rest-step link before after within opens is other =
      ∥∥₁_elim is (hlevel props) (λ h. ∥∥₁_elim other (hlevel props)
      (λ k. up-to-step task.leg.ride.roads (rest_price task.leg task.used) task.leg.target task.radius link _ before after within
      (priced link opens) h k))

  -- where the target isn't reached from before an open link, it isn't from behind it
  rest-none : (link : ℕ) → link < task.leg.ride.roads.links → IsTrue (task.leg.ride.is_open link) →
      IsRemainingUpTo task.leg task.used task.radius (task.leg.ride.roads.from link) None →
      IsRemainingUpTo task.leg task.used task.radius (task.leg.ride.roads.to link) None
  rest-none link within opens is =
      ∥∥₁_elim is (hlevel props)
      (λ h. ∣ up-to-none task.leg.ride.roads (rest_price task.leg task.used) task.leg.target task.radius link _ within
      (priced link opens) h ∣₁)

  -- what still has to be paid behind the last link, as from where the next one leaves
  rest-before : (last link : ℕ) (low : Option ℕ) → MayGoOn task.leg last link → task.low last ≡ low →
      IsRemainingUpTo task.leg task.used task.radius (task.leg.ride.roads.from link) low
  rest-before last link low on is =
      subst (λ n. IsRemainingUpTo task.leg task.used task.radius n low) (sym on.leaves)
      (subst (IsRemainingUpTo task.leg task.used task.radius (task.leg.ride.roads.to last)) is (sums-known last on.last_in))

  -- a link that follows is open
  open-next : (last link : ℕ) → MayGoOn task.leg last link → IsTrue (task.leg.ride.is_open link)
  open-next last link on = (take-follows task.leg last link on.taken on.leaves).0

  -- the sums are a bound
  pub sums-bound : IsBound task
  sums-bound = record {
    small = λ link low within is. by.small _ low (by.roads.to_in link within) (sym (by.low link) ∙ is);
    target = λ link within at.
        rest-target _ (subst (λ n. IsRemainingUpTo task.leg task.used task.radius n (task.low link)) at (sums-known link within));
    falls = λ last link before after pair on held first second.
        let here = rest-before last link (Some before) on first in
        let there : IsRemainingUpTo task.leg task.used task.radius (task.leg.ride.roads.to link) (Some after) =
        subst (IsRemainingUpTo task.leg task.used task.radius (task.leg.ride.roads.to link)) second (sums-known link on.link_in) in
        let falls = rest-step link before after on.link_in (open-next last link on) here there in
        let dear =
        least_price-least task.leg.ride.prices (task.used link) (Some (task.leg.ride.facts last)) (task.leg.ride.facts link) pair
        by.prices (by.facts link on.link_in) held in
        omega (arith, falls, dear);
    stays = λ last link on none.
        rest-only (task.leg.ride.roads.to link) _ (sums-known link on.link_in)
        (rest-none link on.link_in (open-next last link on) (rest-before last link None on none));
  }

  -- without a radius it is all that still has to be paid
  pub sums-whole : task.radius ≡ None → (link : ℕ) → link < task.leg.ride.roads.links →
      IsRemainingUpTo task.leg task.used None (task.leg.ride.roads.to link) (task.low link)
  sums-whole all link within =
      subst (λ r. IsRemainingUpTo task.leg task.used r (task.leg.ride.roads.to link) (task.low link)) all (sums-known link within)
