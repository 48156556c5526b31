-- How far weights are that come to have the sums of arcs.
use Rattle.std.proofs.Common.{◌≡◌, ℕ, ◌+◌, ◌<◌, ◌≤◌, min, inl, inr, List, length, get_or, replicate, refl, sym, subst, arith}
use Rattle.link_hierarchy.specs.Topologies.{Topology, Weights, IsTopology, IsPair, into_of, start_of, up_of}
use Rattle.link_hierarchy.specs.Arcs.{arc_from}
use Rattle.link_hierarchy.specs.Customizing.{AreBased, AreCustomized, IsCustomization, IsFresh, IsStart, LowersEdge}
use Rattle.link_hierarchy.specs.declared.arcs.Arc.{Arc}
use Rattle.link_hierarchy.specs.declared.customize.Customization.{Customization}
use Rattle.link_hierarchy.specs.declared.limits.TheConstants.{FAR, NONE}
use Rattle.link_hierarchy.proofs.BaseLemmas.{based-turn, none-for, none-real}
use Rattle.link_hierarchy.proofs.TopologyLemmas.{ends-in}
use Rattle.link_hierarchy.proofs.LowerLemmas.{for-stays}
use Rattle.link_hierarchy.proofs.JoinLemmas.{join-end}

-- ---- How far weights are

-- before the first places none is done
fresh-begins : (topology : Topology) (first second : ℕ) → IsStart (into_of topology) first → IsStart (up_of topology) second → IsFresh topology first second
fresh-begins topology first second none none_too a b i j p q done =
    elim done [
      | inl mine ↦
          elim mine.1 [
            | inl lower ↦ omega (arith, none p.at.node_in, lower, p.at.from_start)
            | inr here ↦ omega (arith, here.1)
          ]
      | inr mine ↦
          elim mine.1 [
            | inl lower ↦ omega (arith, none_too q.at.node_in, lower, q.at.from_start)
            | inr here ↦ omega (arith, here.1)
          ]
    ]

-- no arc is taken yet
pub customization-begins :
    (topology : Topology) → IsTopology topology → (arcs : List Arc) (weights : Weights) (first second : ℕ) → weights.out ≡ replicate (length topology.heads) NONE →
    weights.back ≡ replicate (length topology.tails) NONE → IsStart (into_of topology) first → IsStart (up_of topology) second →
    IsCustomization topology arcs (record { weights = weights; taken = 0; node = 0; first = first; second = second })
customization-begins topology is arcs weights first second out back first_is second_is = record {
  within = omega arith;
  fresh = λ some. (refl, fresh-begins topology first second first_is second_is);
  inside = omega arith;
  tail = record {
    from_start = λ some. omega (arith, first_is some);
    to_end = λ some. omega (arith, first_is some, is.into.grows 0 some);
  };
  head = record {
    from_start = λ some. omega (arith, second_is some);
    to_end = λ some. omega (arith, second_is some, is.out.grows 0 some);
  };
  fits = none-for topology is arcs weights out back;
  real = none-real topology is arcs weights out back;
  based = λ a b price number below. absurd (omega (arith, below));
  over = λ v a b i j below. absurd (omega (arith, below));
  now = λ a b i j p q apart done. absurd (fresh-begins topology first second first_is second_is a b i j p q done);
}

-- one more arc is
pub arc-taken :
    (topology : Topology) (arcs : List Arc) (c : Customization) (new : Weights) (arc : Arc) → c.taken < length arcs →
    get_or arcs c.taken (arc_from arc.from arc.to arc.price) ≡ arc_from arc.from arc.to arc.price →
    LowersEdge topology c.weights new arc.from arc.to (min arc.price FAR) → IsCustomization topology arcs c →
    IsCustomization topology arcs (record c { weights = new; taken = c.taken + 1 })
arc-taken topology arcs c new arc there read lowers is =
    let both = based-turn topology c.weights new arcs c.taken arc.from arc.to arc.price there read lowers is.real is.based in
    let fresh = is.fresh there in
    record {
      within = omega (arith, there);
      fresh = λ more. fresh;
      inside = is.inside;
      tail = is.tail;
      head = is.head;
      fits = for-stays topology c.weights new arc.from arc.to (min arc.price FAR) lowers is.fits;
      real = both.0;
      based = both.1;
      over = λ v a b i j below. absurd (omega (arith, below, fresh.0));
      now = λ a b i j p q apart done.
          let p0 : IsPair (into_of topology) 0 a i = subst (λ n. IsPair (into_of topology) n a i) fresh.0 p in
          let q0 : IsPair (up_of topology) 0 b j = subst (λ n. IsPair (up_of topology) n b j) fresh.0 q in
          absurd (fresh.1 a b i j p0 q0 done);
    }

module _ (topology : Topology) (is : IsTopology topology) (arcs : List Arc) (c : Customization) (on : IsCustomization topology arcs c)
    (all : c.taken ≡ length arcs) (more : c.node < topology.nodes) where
  -- the weights, as they are between steps
  pub as-customized : AreCustomized topology c.weights arcs c.node c.first 0 c.second 0
  as-customized = record {
    fits = on.fits;
    real = on.real;
    based = subst (λ n. AreBased topology c.weights arcs n) all on.based;
    over = on.over;
    now = on.now;
  }

  -- a step that takes one more tail or head
  pub step-on :
      (new : Weights) (first second : ℕ) → c.first ≤ first → first ≤ start_of (into_of topology) (c.node + 1) → c.second ≤ second →
      second ≤ start_of (up_of topology) (c.node + 1) → AreCustomized topology new arcs c.node first 0 second 0 →
      IsCustomization topology arcs (record c { weights = new; first = first; second = second })
  step-on new first second tail tail_in head head_in c2 = record {
    within = on.within;
    fresh = λ some. absurd (omega (arith, all, some));
    inside = on.inside;
    tail = record { from_start = λ inside. omega (arith, on.tail.from_start inside, tail); to_end = λ inside. tail_in };
    head = record { from_start = λ inside. omega (arith, on.head.from_start inside, head); to_end = λ inside. head_in };
    fits = c2.fits;
    real = c2.real;
    based = subst (λ n. AreBased topology new arcs n) (sym all) c2.based;
    over = c2.over;
    now = c2.now;
  }

  -- the next node comes
  pub step-node : start_of (into_of topology) (c.node + 1) ≤ c.first → start_of (up_of topology) (c.node + 1) ≤ c.second →
      IsCustomization topology arcs (record c { node = c.node + 1 })
  step-node tail_over head_over =
      let first_is : c.first ≡ start_of (into_of topology) (c.node + 1) = omega (arith, tail_over, on.tail.to_end more) in
      let second_is : c.second ≡ start_of (up_of topology) (c.node + 1) = omega (arith, head_over, on.head.to_end more) in
      let both = join-end topology is arcs c.node c.weights c.first c.second first_is second_is on.over on.now in
      record {
        within = on.within;
        fresh = λ some. absurd (omega (arith, all, some));
        inside = omega (arith, more);
        tail = record {
          from_start = λ inside. omega (arith, first_is);
          to_end = λ inside. omega (arith, first_is, is.into.grows (c.node + 1) inside);
        };
        head = record {
          from_start = λ inside. omega (arith, second_is);
          to_end = λ inside. omega (arith, second_is, is.out.grows (c.node + 1) inside);
        };
        fits = on.fits;
        real = on.real;
        based = on.based;
        over = both.0;
        now = both.1;
      }

  -- the places of the node stand in the lists
  pub ends-in-both : (start_of (into_of topology) (c.node + 1) ≤ length topology.tails) × (start_of (up_of topology) (c.node + 1) ≤ length topology.heads)
  ends-in-both = (ends-in (into_of topology) is.into c.node more, ends-in (up_of topology) is.out c.node more)
