-- The least sum as a function is the least sum.
use Rattle.std.proofs.Common.{◌≡◌, ℕ, zero, suc, ◌+◌, ◌-◌, ◌<◌, ◌≤◌, min, inl, inr, List, length, get_or, replicate, refl, sym, subst, Some, None, arith}
use Rattle.std.proofs.lemmas.Bool.{cases_lt}
use Rattle.std.proofs.lemmas.Bool.Decides.{nat_tests}
use Rattle.std.proofs.lemmas.List.{get_or-set_same, get_or-set_other, length-set, length-replicate, get_or-replicate}
use Rattle.link_hierarchy.specs.Walks.{IsLeastSumUpTo, StandsForLeast}
use Rattle.link_hierarchy.specs.Hierarchies.{IsClosed}
use Rattle.link_hierarchy.specs.Limits.{Adds}
use Rattle.link_hierarchy.specs.Topologies.{Topology, Weights, IsTopology, IsPlace, edges_of, start_of, head_of, back_of, out_of, into_of, up_of}
use Rattle.link_hierarchy.specs.Potentials.{AreAllKnown, AreBegun, AreDown, AreDownBefore, AreFound, IsOverTo, Lowers, SpreadsTo, at}
use Rattle.link_hierarchy.specs.Rows.{IsSorted}
use Rattle.link_hierarchy.specs.LeastSums.{begun_of, down_of, least_sum_of, lowered, over_of, places_of, plus_of, spread_of, sums_of, told_of}
use Rattle.link_hierarchy.specs.declared.limits.TheConstants.{FAR, NONE, UNKNOWN}
use Rattle.link_hierarchy.proofs.TopologyLemmas.{edge-down}
use Rattle.link_hierarchy.proofs.DownLemmas.{begun-more, begun-none, spread-begin, spread-more, spread-next}
use Rattle.link_hierarchy.proofs.WaitingLemmas.{waiting-begin}
use Rattle.link_hierarchy.proofs.OverLemmas.{over-begin, over-end, over-more, tells-none, tells-some}
use Rattle.link_hierarchy.proofs.ChainLemmas.{all-above, all-found, all-known}

-- one more is the next number
next : (n : ℕ) → n + 1 ≡ suc n
next n = omega arith

-- two sums, one after the other
plus-near : (a b : ℕ) → a ≤ FAR → b ≤ FAR → plus_of a b ≡ min FAR (a + b)
plus-near a b near far = grind (arith, nat_tests)

-- where one of them is none
plus-none : (a b : ℕ) → FAR < a → plus_of a b ≡ NONE
plus-none a b past = grind (arith, nat_tests)

-- where the other one is
none-plus : (a b : ℕ) → FAR < b → plus_of a b ≡ NONE
none-plus a b past = grind (arith, nat_tests)

-- two numbers that stand for sums
plus-adds : (a b : ℕ) → Adds a b (plus_of a b)
plus-adds a b =
    elim (cases_lt FAR a) [
      | inl past ↦
          let none = plus-none a b past in
          record {
            cut = λ near far. absurd (omega (arith, near, past));
            first = λ near. absurd (omega (arith, near, none));
            second = λ near. absurd (omega (arith, near, none));
            within = omega (arith, none);
          }
      | inr near ↦
          elim (cases_lt FAR b) [
            | inl past ↦
                let none = none-plus a b past in
                record {
                  cut = λ one other. absurd (omega (arith, other, past));
                  first = λ small. absurd (omega (arith, small, none));
                  second = λ small. absurd (omega (arith, small, none));
                  within = omega (arith, none);
                }
            | inr far ↦
                let sum = plus-near a b near far in
                record {
                  cut = λ one other. sum;
                  first = λ small. near;
                  second = λ small. far;
                  within = omega (arith, sum);
                }
          ]
    ]

-- a node takes a number
lowered-lowers : (numbers : List ℕ) (node number : ℕ) → node < length numbers → Lowers numbers (lowered numbers node number) node number
lowered-lowers numbers node number inside = record {
  counted = length-set numbers node (min (at numbers node) number);
  here = get_or-set_same numbers node (min (at numbers node) number) NONE inside;
  others = λ other apart. get_or-set_other numbers node other (min (at numbers node) number) NONE apart;
}

-- the first targets have their number
begun-is : (nodes : ℕ) (targets : List ℕ) (count : ℕ) → IsSorted nodes targets → count ≤ length targets →
    AreBegun nodes targets count (begun_of nodes targets count)
begun-is nodes targets zero sorted most = begun-none nodes targets
begun-is nodes targets (suc count) sorted most =
    let there : count < length targets = omega (arith, most) in
    subst (λ n. AreBegun nodes targets n (begun_of nodes targets (suc count))) (next count)
    (begun-more nodes targets count (get_or targets count 0) (begun_of nodes targets count) there refl
    (sorted.within count there) (begun-is nodes targets count sorted (omega (arith, most))))

module _ (topology : Topology) (weights : Weights) (targets : List ℕ) (is_topology : IsTopology topology) where
  -- the edges down to a node are looked at
  spread-is : (node : ℕ) (old : List ℕ) (count : ℕ) → node < topology.nodes → AreDownBefore topology weights targets node old →
      count ≤ places_of (into_of topology) node →
      SpreadsTo topology weights targets node (start_of (into_of topology) node + count) old (spread_of topology weights node old count)
  spread-is node old zero node_in before most =
      let start : start_of (into_of topology) node ≡ start_of (into_of topology) node + 0 = omega arith in
      subst (λ n. SpreadsTo topology weights targets node n old old) start
      (spread-begin topology weights targets node old is_topology before)
  spread-is node old (suc count) node_in before most =
      let at_place : IsPlace (into_of topology) node (start_of (into_of topology) node + count) = record {
        node_in = node_in;
        from_start = omega arith;
        to_end = omega (arith, most);
      } in
      let made = spread-is node old count node_in before (omega (arith, most)) in
      let head_in = is_topology.into.within node (head_of (into_of topology) (start_of (into_of topology) node + count))
      (start_of (into_of topology) node + count) (record { at = at_place; is = refl }) in
      let more : start_of (into_of topology) node + count + 1 ≡ start_of (into_of topology) node + suc count = omega arith in
      subst (λ n. SpreadsTo topology weights targets node n old (spread_of topology weights node old (suc count))) more
      (spread-more topology weights targets node old is_topology before (start_of (into_of topology) node + count)
      (plus_of (back_of weights (start_of (into_of topology) node + count)) (at old node)) (spread_of topology weights node old count)
      (spread_of topology weights node old (suc count)) at_place made
      (plus-adds (back_of weights (start_of (into_of topology) node + count)) (at old node))
      (lowered-lowers (spread_of topology weights node old count) (head_of (into_of topology) (start_of (into_of topology) node + count))
      (plus_of (back_of weights (start_of (into_of topology) node + count)) (at old node)) (omega (arith, made.counted, head_in))))

  -- the edges down to the first nodes are looked at
  down-is : (count : ℕ) → IsSorted topology.nodes targets → count ≤ topology.nodes →
      AreDownBefore topology weights targets count (down_of topology weights targets count)
  down-is zero sorted most =
      (waiting-begin topology weights targets (begun_of topology.nodes targets (length targets)) sorted
      (begun-is topology.nodes targets (length targets) sorted (omega arith))).before
  down-is (suc node) sorted most =
      let node_in : node < topology.nodes = omega (arith, most) in
      let before = down-is node sorted (omega (arith, most)) in
      let grows = is_topology.into.grows node node_in in
      let end : start_of (into_of topology) node + places_of (into_of topology) node ≡ start_of (into_of topology) (node + 1) =
      omega (arith, grows) in
      let all = subst (λ n. SpreadsTo topology weights targets node n (down_of topology weights targets node)
      (down_of topology weights targets (suc node))) end
      (spread-is node (down_of topology weights targets node) (places_of (into_of topology) node) node_in before (omega arith)) in
      subst (λ n. AreDownBefore topology weights targets n (down_of topology weights targets (suc node))) (next node)
      (spread-next topology weights targets node (down_of topology weights targets node) is_topology before
      (down_of topology weights targets (suc node)) all)

  -- all are
  down-all : IsSorted topology.nodes targets → AreDown topology weights targets (down_of topology weights targets topology.nodes)
  down-all sorted =
      let before = down-is topology.nodes sorted (omega arith) in
      record {
        counted = before.counted;
        within = before.within;
        is_down = record {
          zero_there = before.zero_there;
          step = λ a b weight e falls near.
              let s = edge-down topology is_topology FAR weights a b weight e falls in
              before.step a b weight e falls s.1.at.node_in near;
          found = before.found;
        };
      }

  module _ (down : List ℕ) (is_down : AreDown topology weights targets down) (closed : IsClosed (edges_of FAR topology weights)) where
    -- the edges up from a node are looked at
    over-is : (over : List ℕ) (node count : ℕ) → AreFound topology weights targets over → AreAllKnown topology over (node + 1) →
        node < topology.nodes → count ≤ places_of (up_of topology) node →
        IsOverTo topology weights targets down over node (start_of (up_of topology) node + count)
        (over_of topology weights down over node count)
    over-is over node zero found known node_in most =
        let start : start_of (up_of topology) node ≡ start_of (up_of topology) node + 0 = omega arith in
        subst (λ n. IsOverTo topology weights targets down over node n (at down node)) start
        (over-begin topology weights targets down over node is_topology is_down found
        (all-above topology weights targets over node 0 is_topology found node_in known))
    over-is over node (suc count) found known node_in most =
        let at_place : IsPlace (up_of topology) node (start_of (up_of topology) node + count) = record {
          node_in = node_in;
          from_start = omega arith;
          to_end = omega (arith, most);
        } in
        let more : start_of (up_of topology) node + count + 1 ≡ start_of (up_of topology) node + suc count = omega arith in
        subst (λ n. IsOverTo topology weights targets down over node n (over_of topology weights down over node (suc count))) more
        (over-more topology weights targets down over node is_topology is_down found
        (all-above topology weights targets over node 0 is_topology found node_in known) (start_of (up_of topology) node + count)
        (over_of topology weights down over node count)
        (plus_of (out_of weights (start_of (up_of topology) node + count))
        (at over (head_of (up_of topology) (start_of (up_of topology) node + count)))) at_place
        (over-is over node count found known node_in (omega (arith, most)))
        (plus-adds (out_of weights (start_of (up_of topology) node + count))
        (at over (head_of (up_of topology) (start_of (up_of topology) node + count)))))

    -- a node's number stands for its least sum
    over-stands : (over : List ℕ) (node : ℕ) → AreFound topology weights targets over → AreAllKnown topology over (node + 1) →
        node < topology.nodes →
        StandsForLeast FAR (edges_of FAR topology weights) node targets (over_of topology weights down over node (places_of (up_of topology) node))
    over-stands over node found known node_in =
        let grows = is_topology.out.grows node node_in in
        over-end topology weights targets down over node is_topology is_down found
        (all-above topology weights targets over node 0 is_topology found node_in known)
        (start_of (up_of topology) node + places_of (up_of topology) node)
        (over_of topology weights down over node (places_of (up_of topology) node)) closed (omega (arith, grows))
        (over-is over node (places_of (up_of topology) node) found known node_in (omega arith))

    -- it is at most what stands for none
    over-small : (over : List ℕ) (node count : ℕ) → over_of topology weights down over node count ≤ NONE
    over-small over node zero = is_down.within node
    over-small over node (suc count) = omega (arith, over-small over node count)

    -- the numbers of so many nodes from the most important one were found
    sums-are : (count : ℕ) → count ≤ topology.nodes →
        AreFound topology weights targets (sums_of topology weights down count)
        × AreAllKnown topology (sums_of topology weights down count) (topology.nodes - count)
    sums-are zero most =
        let none : (x : ℕ) → x < topology.nodes → at (replicate topology.nodes UNKNOWN) x ≡ UNKNOWN =
        λ x inside. get_or-replicate topology.nodes x UNKNOWN NONE inside in (
          record {
            counted = length-replicate topology.nodes UNKNOWN;
            least = λ node node_in known. absurd (known (none node node_in));
            above = λ node high place known pair. absurd (known (none node pair.at.node_in));
          },
          λ node from node_in. absurd (omega (arith, from, node_in)),
        )
    sums-are (suc count) most =
        let node_in : topology.nodes - suc count < topology.nodes = omega (arith, most) in
        let was = sums-are count (omega (arith, most)) in
        let same : topology.nodes - count ≡ topology.nodes - suc count + 1 = omega (arith, most) in
        let known = subst (λ n. AreAllKnown topology (sums_of topology weights down count) n) same was.1 in
        let small = over-small (sums_of topology weights down count) (topology.nodes - suc count)
        (places_of (up_of topology) (topology.nodes - suc count)) in (
          all-found topology weights targets (sums_of topology weights down count) (topology.nodes - suc count)
              (over_of topology weights down (sums_of topology weights down count) (topology.nodes - suc count)
              (places_of (up_of topology) (topology.nodes - suc count))) is_topology was.0 node_in known small
              (over-stands (sums_of topology weights down count) (topology.nodes - suc count) was.0 known node_in),
          all-known topology weights targets (sums_of topology weights down count) (topology.nodes - suc count)
              (over_of topology weights down (sums_of topology weights down count) (topology.nodes - suc count)
              (places_of (up_of topology) (topology.nodes - suc count))) is_topology was.0 node_in known small,
        )

-- what a number within the limit tells, and one above it
told-some : (number : ℕ) → number ≤ FAR → told_of number ≡ Some number
told-some number near = grind (arith, nat_tests)

told-none : (number : ℕ) → FAR < number → told_of number ≡ None
told-none number past = grind (arith, nat_tests)

-- the function tells the least sum of each node
pub least_sum-is : (topology : Topology) (weights : Weights) (targets : List ℕ) (node : ℕ) → IsTopology topology →
    IsClosed (edges_of FAR topology weights) → IsSorted topology.nodes targets → node < topology.nodes →
    IsLeastSumUpTo FAR (edges_of FAR topology weights) node targets (least_sum_of topology weights targets node)
unfolding least_sum_of
least_sum-is topology weights targets node is_topology closed sorted node_in =
    let are = sums-are topology weights targets is_topology (down_of topology weights targets topology.nodes)
    (down-all topology weights targets is_topology sorted) closed topology.nodes (omega arith) in
    let stands = are.0.least node node_in (are.1 node (omega arith) node_in) in
    elim (cases_lt FAR (at (sums_of topology weights (down_of topology weights targets topology.nodes) topology.nodes) node)) [
      | inl past ↦
          subst (λ n. IsLeastSumUpTo FAR (edges_of FAR topology weights) node targets n)
          (sym (told-none (at (sums_of topology weights (down_of topology weights targets topology.nodes) topology.nodes) node) past))
          (tells-none FAR (edges_of FAR topology weights) node targets
          (at (sums_of topology weights (down_of topology weights targets topology.nodes) topology.nodes) node) stands past)
      | inr near ↦
          subst (λ n. IsLeastSumUpTo FAR (edges_of FAR topology weights) node targets n)
          (sym (told-some (at (sums_of topology weights (down_of topology weights targets topology.nodes) topology.nodes) node) near))
          (tells-some FAR (edges_of FAR topology weights) node targets
          (at (sums_of topology weights (down_of topology weights targets topology.nodes) topology.nodes) node) stands near)
    ]
