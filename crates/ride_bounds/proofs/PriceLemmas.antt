-- The turns of a map get the prices of a ride.
use Rattle.std.proofs.Common.{◌≡◌, ℕ, ◌+◌, ◌<◌, inl, inr, true, List, [], ◌∷◌, ◌++◌, length, get_or, sym, ap, ◌∙◌, subst, arith}
use Rattle.std.proofs.lemmas.Bool.{cases_eq}
use Rattle.std.proofs.lemmas.List.{get_or_default}
use Rattle.overpass_graph.specs.Roads.{Roads}
use Rattle.cost_model.specs.OpenLinks.{is_passable}
use Rattle.cost_model.specs.declared.facts.LinkFacts.{LinkFacts}
use Rattle.link_hierarchy.specs.Arcs.{Covers, arc_from}
use Rattle.link_hierarchy.specs.declared.arcs.Arc.{Arc}
use Rattle.link_hierarchy.specs.Topologies.{Topology}
use Rattle.ride_bounds.specs.Arcs.{AreRideArcs, AreRideArcsTo, IsRideArc, turn_weight}
use Rattle.link_order.specs.Orders.{Order, link_at}
use Rattle.ride_bounds.specs.Turns.{AreTurns, IsTurn}
use Rattle.ride_bounds.proofs.ArcLemmas.{arc-cases, arc-last, arc-stays}

module _ (roads : Roads) (facts : ℕ → LinkFacts) (order : Order) (turns : List Arc) (are_turns : AreTurns roads order turns) where
  -- no turn has its price
  pub prices-begin : AreRideArcsTo roads facts order turns 0 []
  prices-begin = record {
    within = omega arith;
    only = λ x y price has. absurd (omega (arith, has.within));
    all = λ number x y price below there is. absurd (omega (arith, below));
  }

  module _ (count : ℕ) (priced : List Arc) (turn : Arc) (are : AreRideArcsTo roads facts order turns count priced)
      (some : count < length turns) (turn_is : get_or turns count (arc_from 0 0 0) ≡ turn) where
    -- the next turn, read with another default
    there-is : (x y number : ℕ) → number ≡ count → get_or turns number (arc_from x y 0) ≡ arc_from x y 0 → turn ≡ arc_from x y 0
    there-is x y number same there =
        sym turn_is ∙ get_or_default turns count (arc_from 0 0 0) (arc_from x y 0) some
        ∙ ap (λ n. get_or turns n (arc_from x y 0)) (sym same) ∙ there

    -- the next turn is one of the map
    pub turn-there : IsTurn roads order turn.from turn.to
    turn-there =
        are_turns.only turn.from turn.to turn.price
        (record {
          number = count;
          within = some;
          is = get_or_default turns count (arc_from turn.from turn.to turn.price) (arc_from 0 0 0) some ∙ turn_is;
        })

    -- it gets its price
    pub prices-more : is_passable (facts (link_at order turn.to)) ≡ true →
        AreRideArcsTo roads facts order turns (count + 1)
        (priced ++ arc_from turn.from turn.to (turn_weight facts order turn.from turn.to) ∷ [])
    prices-more passable =
        record {
          within = omega (arith, some);
          only = λ x y price has.
              elim (arc-cases priced (arc_from turn.from turn.to (turn_weight facts order turn.from turn.to)) x y price has) [
                | inl old ↦ are.only x y price old
                | inr last ↦
                    let x_is : turn.from ≡ x = ap (λ (a : Arc). a.from) last in
                    let y_is : turn.to ≡ y = ap (λ (a : Arc). a.to) last in
                    let price_is : turn_weight facts order turn.from turn.to ≡ price = ap (λ (a : Arc). a.price) last in
                    subst (λ n. IsRideArc roads facts order n y price) x_is
                    (subst (λ n. IsRideArc roads facts order turn.from n price) y_is
                    (record { turn = turn-there; passable = passable; is = sym price_is }))
              ];
          all = λ number x y price below there is.
              elim (cases_eq number count) [
                | inl same ↦
                    let same_turn = there-is x y number same there in
                    let x_is : turn.from ≡ x = ap (λ (a : Arc). a.from) same_turn in
                    let y_is : turn.to ≡ y = ap (λ (a : Arc). a.to) same_turn in
                    arc-last priced (arc_from turn.from turn.to (turn_weight facts order turn.from turn.to)) x y price
                    (ap (λ n. arc_from n turn.to (turn_weight facts order n turn.to)) x_is
                    ∙ ap (λ n. arc_from x n (turn_weight facts order x n)) y_is ∙ ap (arc_from x y) (sym is.is))
                | inr other ↦
                    arc-stays priced (arc_from turn.from turn.to (turn_weight facts order turn.from turn.to)) x y price
                    (are.all number x y price (omega (arith, below, other)) there is)
              ];
        }

  -- all turns have their prices
  pub prices-end : (count : ℕ) (priced : List Arc) → AreRideArcsTo roads facts order turns count priced → count ≡ length turns →
      AreRideArcs roads facts order priced
  prices-end count priced are all = record {
    only = are.only;
    all = λ x y price is.
        let has = are_turns.all x y is.turn in
        are.all has.number x y price (omega (arith, has.within, all)) has.is is;
  }

  -- an edge for each turn is one for each of those
  pub prices-covered : (topology : Topology) (priced : List Arc) → AreRideArcs roads facts order priced → Covers topology turns →
      Covers topology priced
  prices-covered topology priced are covers = λ a b price has apart.
      covers a b 0 (are_turns.all a b (are.only a b price has).turn) apart
