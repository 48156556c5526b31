-- What is told of a link is a lower bound.
use Rattle.std.proofs.Common.{◌≡◌, ℕ, ◌*◌, ◌<◌, ◌≤◌, true, List, Option, Some, None, refl, sym, ap, ◌∙◌, subst, arith}
use Rattle.overpass_graph.specs.Roads.{Roads}
use Rattle.cost_model.specs.OpenLinks.{is_passable}
use Rattle.cost_model.specs.declared.facts.LinkFacts.{LinkFacts}
use Rattle.link_hierarchy.specs.LeastSums.{least_sum_of}
use Rattle.link_hierarchy.specs.Rows.{IsSorted}
use Rattle.link_hierarchy.specs.Topologies.{IsTopology, Weights, edges_of}
use Rattle.link_hierarchy.specs.Walks.{Edges, IsLeastSumUpTo}
use Rattle.link_hierarchy.specs.declared.limits.TheConstants.{FAR}
use Rattle.link_hierarchy.proofs.CallerLemmas.{carried-sum, least_sum-is, sum-none, sum-one, sum-step, sum-target}
use Rattle.ride_bounds.specs.Arcs.{IsRideArc, turn_weight}
use Rattle.ride_bounds.specs.Bounds.{IsLinkBound, bound_of, millionths_of, targets_of}
use Rattle.ride_bounds.specs.Customizing.{AreRideWeights}
use Rattle.ride_bounds.specs.Entries.{least_entry, weight_of}
use Rattle.ride_bounds.specs.Hierarchies.{IsMapHierarchy}
use Rattle.link_order.specs.Orders.{IsOrder, link_at, place_of}
use Rattle.ride_bounds.specs.Turns.{LeadsOn}
use Rattle.ride_bounds.specs.declared.hierarchy.MapHierarchy.{MapHierarchy}
use Rattle.ride_bounds.proofs.EntryLemmas.{weight-below}
use Rattle.ride_bounds.proofs.TargetLemmas.{places-sorted, places-whole}

-- ---- Sums in millionths

-- where a bound is a number, the sum is a thousandth of it
pub record IsThousandth (sum : Option ℕ) (low : ℕ) : Type 0 where
  pub part : ℕ
  pub is : sum ≡ Some part
  pub times : low ≡ part * 1000

-- a bound that is there
some-part : (sum : Option ℕ) (low : ℕ) → millionths_of sum ≡ Some low → IsThousandth sum low
some-part None low is = absurd (cc)
some-part (Some part) low is =
    let times : part * 1000 ≡ low = cc in
    record { part = part; is = refl; times = sym times }

-- and one that isn't
none-part : (sum : Option ℕ) → millionths_of sum ≡ None → sum ≡ None
none-part None is = refl
none-part (Some part) is = absurd (cc)

-- a sum is no more than the limit
sum-far : (far : ℕ) (arc : Edges) (a : ℕ) (targets : List ℕ) (sum : ℕ) → IsLeastSumUpTo far arc a targets (Some sum) → sum ≤ far
sum-far far arc a targets sum is = omega (arith, is.found.walk.cut)

module _ (roads : Roads) (facts : ℕ → LinkFacts) (hierarchy : MapHierarchy) (weights : Weights) (target : ℕ)
    (is : IsMapHierarchy roads hierarchy) (are : AreRideWeights roads facts hierarchy weights) (is_topology : IsTopology hierarchy.topology)
    (is_order : IsOrder hierarchy.order) where
  -- the targets ascend
  pub targets-sorted : IsSorted hierarchy.topology.nodes (targets_of hierarchy.order roads target)
  targets-sorted =
      places-sorted (λ place. roads.to (link_at hierarchy.order place)) target roads.links hierarchy.topology.nodes (omega (arith, is.nodes))

  -- a link has a place
  pub place-in : (link : ℕ) → link < roads.links → place_of hierarchy.order link < hierarchy.topology.nodes
  place-in link inside = omega (arith, is.nodes, is.counted, is_order.place_in link (omega (arith, inside, is.counted)))

  -- and stands there
  link-there : (link : ℕ) → link < roads.links → link_at hierarchy.order (place_of hierarchy.order link) ≡ link
  link-there link inside = is_order.link_is link (omega (arith, inside, is.counted))

  -- the sum of a link is the least one of the ride's turns from it to a link that arrives at the target
  pub least-turns : (link : ℕ) → link < roads.links →
      IsLeastSumUpTo FAR (IsRideArc roads facts hierarchy.order) (place_of hierarchy.order link) (targets_of hierarchy.order roads target)
      (least_sum_of hierarchy.topology weights (targets_of hierarchy.order roads target) (place_of hierarchy.order link))
  least-turns link inside =
      carried-sum FAR (IsRideArc roads facts hierarchy.order) (edges_of FAR hierarchy.topology weights) (place_of hierarchy.order link)
      (targets_of hierarchy.order roads target)
      (least_sum_of hierarchy.topology weights (targets_of hierarchy.order roads target) (place_of hierarchy.order link)) are.carries
      (least_sum-is hierarchy.topology weights (targets_of hierarchy.order roads target) (place_of hierarchy.order link) is_topology are.closed
      targets-sorted (place-in link inside))

  -- a turn between links is one between their places
  turn-arc : (a b : ℕ) → a < roads.links → b < roads.links → LeadsOn roads a b → is_passable (facts b) ≡ true →
      IsRideArc roads facts hierarchy.order (place_of hierarchy.order a) (place_of hierarchy.order b)
      (turn_weight facts hierarchy.order (place_of hierarchy.order a) (place_of hierarchy.order b))
  turn-arc a b a_in b_in leads passable =
      let a_is = link-there a a_in in
      let b_is = link-there b b_in in
      record {
        turn = record {
          first_in = omega (arith, is.nodes, place-in a a_in);
          second_in = omega (arith, is.nodes, place-in b b_in);
          leads = subst (λ n. LeadsOn roads n (link_at hierarchy.order (place_of hierarchy.order b))) (sym a_is)
              (subst (λ n. LeadsOn roads a n) (sym b_is) leads);
        };
        passable = ap (λ n. is_passable (facts n)) b_is ∙ passable;
        is = refl;
      }

  -- its weight in millionths is no more than the turn costs at least
  turn-price : (a b : ℕ) → a < roads.links → b < roads.links →
      turn_weight facts hierarchy.order (place_of hierarchy.order a) (place_of hierarchy.order b) * 1000 ≤ least_entry (facts a) (facts b)
  turn-price a b a_in b_in =
      let a_is = link-there a a_in in
      let b_is = link-there b b_in in
      let same : turn_weight facts hierarchy.order (place_of hierarchy.order a) (place_of hierarchy.order b) ≡ weight_of (least_entry (facts a) (facts b)) =
      ap (λ n. weight_of (least_entry (facts n) (facts (link_at hierarchy.order (place_of hierarchy.order b))))) a_is
      ∙ ap (λ n. weight_of (least_entry (facts a) (facts n))) b_is in
      omega (arith, same, weight-below (least_entry (facts a) (facts b)))

  -- what is told is a lower bound
  pub link-bound : IsLinkBound roads facts target (bound_of hierarchy weights roads target)
  unfolding bound_of
  link-bound = record {
    arrived = λ link inside arrives.
        let one = places-whole (λ place. roads.to (link_at hierarchy.order place)) target roads.links (place_of hierarchy.order link)
        (omega (arith, is.nodes, place-in link inside)) (ap roads.to (link-there link inside) ∙ arrives) in
        ap millionths_of
        (sum-target FAR (IsRideArc roads facts hierarchy.order) (place_of hierarchy.order link) (targets_of hierarchy.order roads target)
        (least_sum_of hierarchy.topology weights (targets_of hierarchy.order roads target) (place_of hierarchy.order link)) one
        (least-turns link inside));
    step = λ a b before behind a_in b_in leads passable before_is behind_is.
        let p = some-part (least_sum_of hierarchy.topology weights (targets_of hierarchy.order roads target) (place_of hierarchy.order a)) before before_is in
        let q = some-part (least_sum_of hierarchy.topology weights (targets_of hierarchy.order roads target) (place_of hierarchy.order b)) behind behind_is in
        let low = sum-step FAR (IsRideArc roads facts hierarchy.order) (place_of hierarchy.order a) (place_of hierarchy.order b)
        (turn_weight facts hierarchy.order (place_of hierarchy.order a) (place_of hierarchy.order b)) (targets_of hierarchy.order roads target) p.part q.part
        (turn-arc a b a_in b_in leads passable)
        (subst (IsLeastSumUpTo FAR (IsRideArc roads facts hierarchy.order) (place_of hierarchy.order a) (targets_of hierarchy.order roads target)) p.is
        (least-turns a a_in))
        (subst (IsLeastSumUpTo FAR (IsRideArc roads facts hierarchy.order) (place_of hierarchy.order b) (targets_of hierarchy.order roads target)) q.is
        (least-turns b b_in)) in
        let price = turn-price a b a_in b_in in
        omega (arith, low, price, p.times, q.times);
    none = λ a b a_in b_in leads passable none_is.
        let none = none-part (least_sum_of hierarchy.topology weights (targets_of hierarchy.order roads target) (place_of hierarchy.order a)) none_is in
        let behind = sum-none FAR (IsRideArc roads facts hierarchy.order) (place_of hierarchy.order a) (place_of hierarchy.order b)
        (turn_weight facts hierarchy.order (place_of hierarchy.order a) (place_of hierarchy.order b)) (targets_of hierarchy.order roads target)
        (turn-arc a b a_in b_in leads passable)
        (subst (IsLeastSumUpTo FAR (IsRideArc roads facts hierarchy.order) (place_of hierarchy.order a) (targets_of hierarchy.order roads target)) none
        (least-turns a a_in)) in
        ap millionths_of
        (sum-one FAR (IsRideArc roads facts hierarchy.order) (place_of hierarchy.order b) (targets_of hierarchy.order roads target)
        (least_sum_of hierarchy.topology weights (targets_of hierarchy.order roads target) (place_of hierarchy.order b)) None (least-turns b b_in) behind);
    small = λ link low inside low_is.
        let p = some-part (least_sum_of hierarchy.topology weights (targets_of hierarchy.order roads target) (place_of hierarchy.order link)) low low_is in
        let far = sum-far FAR (IsRideArc roads facts hierarchy.order) (place_of hierarchy.order link) (targets_of hierarchy.order roads target) p.part
        (subst (IsLeastSumUpTo FAR (IsRideArc roads facts hierarchy.order) (place_of hierarchy.order link) (targets_of hierarchy.order roads target)) p.is
        (least-turns link inside)) in
        omega (arith, p.times, far);
  }
