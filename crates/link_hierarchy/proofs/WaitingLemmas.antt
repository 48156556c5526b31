-- The nodes that have a number down and wait.
use Rattle.std.proofs.Common.{◌≡◌, ℕ, ◌+◌, ◌-◌, ◌<◌, ◌≤◌, inl, inr, List, length, get_or, sym, ap, ◌∙◌, arith}
use Rattle.std.proofs.lemmas.Bool.{cases_eq, cases_lt}
use Rattle.std.proofs.lemmas.List.{get_or_default, get_or_past}
use Rattle.link_hierarchy.specs.Topologies.{Topology, Weights, IsTopology, edges_of, start_of, into_of}
use Rattle.link_hierarchy.specs.Potentials.{AreBegun, AreDown, AreDownBefore, AreWaiting, IsFresh, SpreadsTo, at}
use Rattle.link_hierarchy.specs.Rows.{Holds, IsRow, IsSorted}
use Rattle.link_hierarchy.specs.declared.limits.TheConstants.{FAR, NONE}
use Rattle.link_hierarchy.proofs.WalkLemmas.{walk-none}
use Rattle.link_hierarchy.proofs.DownLemmas.{spread-next}

module _ (topology : Topology) (weights : Weights) (targets : List ℕ) where
  -- the targets wait
  pub waiting-begin : (down : List ℕ) → IsSorted topology.nodes targets → AreBegun topology.nodes targets (length targets) down →
      AreWaiting topology weights targets 0 down targets
  waiting-begin down sorted are =
      let known : (a : ℕ) → at down a ≤ FAR → Holds targets a × (at down a ≡ 0) = λ a near. are.only a (λ none. absurd (omega (arith, near, none))) in
      record {
        before = record {
          counted = are.counted;
          within = λ a.
              elim (cases_eq (at down a) NONE) [
                | inl none ↦ omega (arith, none)
                | inr some ↦ let was = are.only a some in omega (arith, was.1)
              ];
          zero_there = λ target one. ap (at down) (sym one.is) ∙ are.zero one.place one.within one.within;
          step = λ a b weight e falls less near. absurd (omega (arith, less));
          found = λ a near.
              let is = known a near in
              record {
                target = a;
                one = is.0;
                walk = record { sum = 0; has = walk-none (edges_of FAR topology weights) a; cut = omega (arith, is.1) };
              };
        };
        sorted = sorted;
        later = λ k inside. omega arith;
        reached = λ a least near. (known a near).0;
      }

  module _ (from : ℕ) (down waiting : List ℕ) (is : AreWaiting topology weights targets from down waiting) where
    -- no node below the first one that waits has to be looked at
    pub waiting-first : (node : ℕ) → 0 < length waiting → node ≡ get_or waiting 0 0 → AreDownBefore topology weights targets node down
    waiting-first node some node_is = record {
      counted = is.before.counted;
      within = is.before.within;
      zero_there = is.before.zero_there;
      step = λ a b weight e falls less near.
          elim (cases_lt b from) [
            | inl early ↦ is.before.step a b weight e falls early near
            | inr late ↦
                let h = is.reached b late near in
                elim (cases_eq h.place 0) [
                  | inl first ↦
                      let at_first = ap (λ n. get_or waiting n 0) first in
                      absurd (omega (arith, at_first, h.is, node_is, less))
                  | inr more ↦
                      let up = is.sorted.sorted 0 h.place (omega (arith, more)) h.within in
                      absurd (omega (arith, up, h.is, node_is, less))
                ]
          ];
      found = is.before.found;
    }

    -- the first one was looked at
    pub waiting-more :
        (node : ℕ) (new fresh made : List ℕ) → IsTopology topology → 0 < length waiting → node ≡ get_or waiting 0 0 →
        SpreadsTo topology weights targets node (start_of (into_of topology) (node + 1)) down new →
        IsFresh topology node (start_of (into_of topology) (node + 1)) down new fresh → IsRow node topology.nodes made →
        ((x : ℕ) → Holds fresh x → Holds made x) → ((x : ℕ) → Holds waiting x → node < x → Holds made x) →
        AreWaiting topology weights targets (node + 1) new made
    waiting-more node new fresh made is_topology some node_is to fresh_is row keeps takes =
        record {
          before = spread-next topology weights targets node down is_topology (waiting-first node some node_is) new to;
          sorted = record { sorted = row.sorted; within = row.within };
          later = λ k k_in. omega (arith, row.above k k_in);
          reached = λ a most near.
              elim (fresh_is.reached a near) [
                | inl was ↦ takes a (is.reached a (omega (arith, most, node_is, is.later 0 some)) was) (omega (arith, most))
                | inr first ↦ keeps a first
              ];
        }

    -- none waits
    pub waiting-end : IsTopology topology → length waiting ≡ 0 → AreDown topology weights targets down
    waiting-end is_topology none = record {
      counted = is.before.counted;
      within = is.before.within;
      is_down = record {
        zero_there = is.before.zero_there;
        step = λ a b weight e falls near.
            elim (cases_lt b from) [
              | inl early ↦ is.before.step a b weight e falls early near
              | inr late ↦
                  let h = is.reached b late near in
                  absurd (omega (arith, h.within, none))
            ];
        found = is.before.found;
      };
    }

-- the next node that waits is higher, or none does
pub waiting-falls : (nodes node : ℕ) (made : List ℕ) → IsRow node nodes made → node < nodes →
    nodes - get_or made 0 nodes < nodes - node
waiting-falls nodes node made row node_in =
    elim (cases_lt 0 (length made)) [
      | inl some ↦
          let e : get_or made 0 nodes ≡ get_or made 0 0 = get_or_default made 0 nodes 0 some in
          omega (arith, e, row.above 0 some, row.within 0 some)
      | inr none ↦
          let e : get_or made 0 nodes ≡ nodes = get_or_past made 0 nodes none in
          omega (arith, e, node_in)
    ]
