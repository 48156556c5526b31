-- The turns of a map are collected.
use Rattle.std.proofs.Common.{◌≡◌, ◌≢◌, ℕ, ◌+◌, ◌<◌, ◌≤◌, inl, inr, List, [], ◌∷◌, ◌++◌, length, get_or, sym, ap, ◌∙◌, subst, arith}
use Rattle.std.proofs.lemmas.Bool.{cases_eq}
use Rattle.overpass_graph.specs.Roads.{Roads, out_links}
use Rattle.overpass_graph.proofs.CallerLemmas.{out-sound, out-whole}
use Rattle.link_hierarchy.specs.Arcs.{AreWithin, arc_from}
use Rattle.link_hierarchy.specs.declared.arcs.Arc.{Arc}
use Rattle.link_order.specs.Orders.{IsOrder, Order, link_at, place_of}
use Rattle.ride_bounds.specs.Turns.{AreTurns, AreTurnsTo, IsTurn}
use Rattle.ride_bounds.proofs.ArcLemmas.{arc-cases, arc-last, arc-stays}

module _ (roads : Roads) (order : Order) (is_order : IsOrder order) (counted : length order.links ≡ roads.links) where
  -- none was looked at
  pub turns-begin : AreTurnsTo roads order 0 0 []
  turns-begin = record {
    inside = omega arith;
    only = λ x y price has. absurd (omega (arith, has.within));
    passed = λ x y turn passed.
        elim passed [
          | inl below ↦ absurd (omega (arith, below))
          | inr here ↦ absurd (omega (arith, here.1.before))
        ];
  }

  module _ (place next : ℕ) (turns : List Arc) (are : AreTurnsTo roads order place next turns) (inside : place < roads.links) where
    -- the link at a place is one of the roads
    link-in : (x : ℕ) → x < roads.links → link_at order x < roads.links
    link-in x below = omega (arith, counted, is_order.link_in x (omega (arith, below, counted)))

    -- all of a link were
    pub turns-next : length (out_links roads (roads.to (link_at order place))) ≤ next → AreTurnsTo roads order (place + 1) 0 turns
    turns-next all = record {
      inside = omega (arith, inside);
      only = are.only;
      passed = λ x y turn passed.
          elim passed [
            | inl below ↦
                elim (cases_eq x place) [
                  | inl same ↦
                      let leaves = turn.leads.joins ∙ ap (λ n. roads.to (link_at order n)) same in
                      let w = out-whole roads (roads.to (link_at order place)) (link_at order y) (link-in y turn.second_in) leaves in
                      are.passed x y turn (inr (same, record { place = w.0; before = omega (arith, w.1, all); is = w.2 }))
                  | inr other ↦ are.passed x y turn (inl (omega (arith, below, other)))
                ]
            | inr here ↦ absurd (omega (arith, here.1.before))
          ];
    }

    module _ (second : ℕ) (some : next < length (out_links roads (roads.to (link_at order place))))
        (second_is : second ≡ get_or (out_links roads (roads.to (link_at order place))) next 0) where
      -- it is a turn
      pub turn-is : roads.to second ≢ roads.from (link_at order place) → IsTurn roads order place (place_of order second)
      turn-is ahead =
          let sound = out-sound roads (roads.to (link_at order place)) next some in
          let second_in : second < length order.links = omega (arith, counted, sound.0, second_is) in
          let link_is : link_at order (place_of order second) ≡ second = is_order.link_is second second_in in
          record {
            first_in = inside;
            second_in = omega (arith, counted, is_order.place_in second second_in);
            leads = record {
              joins = ap roads.from link_is ∙ ap roads.from second_is ∙ sound.1;
              ahead = λ same. ahead (sym (ap roads.to link_is) ∙ same);
            };
          }

      -- and comes to the list
      pub turns-more : roads.to second ≢ roads.from (link_at order place) →
          AreTurnsTo roads order place (next + 1) (turns ++ arc_from place (place_of order second) 0 ∷ [])
      turns-more ahead =
          let arc : Arc = arc_from place (place_of order second) 0 in
          record {
            inside = are.inside;
            only = λ x y price has.
                elim (arc-cases turns (arc_from place (place_of order second) 0) x y price has) [
                  | inl old ↦ are.only x y price old
                  | inr last ↦
                      let x_is : place ≡ x = ap (λ (a : Arc). a.from) last in
                      let y_is : place_of order second ≡ y = ap (λ (a : Arc). a.to) last in
                      subst (λ n. IsTurn roads order x n) y_is
                      (subst (λ n. IsTurn roads order n (place_of order second)) x_is (turn-is ahead))
                ];
            passed = λ x y turn passed.
                let stays = arc-stays turns (arc_from place (place_of order second) 0) x y 0 in
                elim passed [
                  | inl below ↦ stays (are.passed x y turn (inl below))
                  | inr here ↦
                      elim (cases_eq here.1.place next) [
                        | inl last ↦
                            let link_is : second ≡ link_at order y =
                            second_is ∙ ap (λ n. get_or (out_links roads (roads.to (link_at order place))) n 0) (sym last) ∙ here.1.is in
                            let y_is : place_of order second ≡ y =
                            ap (place_of order) link_is ∙ is_order.place_is y (omega (arith, counted, turn.second_in)) in
                            arc-last turns (arc_from place (place_of order second) 0) x y 0
                            (ap (λ n. arc_from n (place_of order second) 0) (sym here.0) ∙ ap (λ n. arc_from x n 0) y_is)
                        | inr other ↦
                            stays (are.passed x y turn
                            (inr (
                              here.0,
                              record { place = here.1.place; before = omega (arith, here.1.before, other); is = here.1.is },
                            )))
                      ]
                ];
          }

  -- all were
  pub turns-end : (place next : ℕ) (turns : List Arc) → AreTurnsTo roads order place next turns → place ≡ roads.links →
      AreTurns roads order turns
  turns-end place next turns are all = record {
    only = are.only;
    all = λ x y turn. are.passed x y turn (inl (omega (arith, turn.first_in, all)));
  }

-- the ends of turns are places
pub turns-within : (roads : Roads) (order : Order) (turns : List Arc) (nodes : ℕ) → nodes ≡ roads.links → AreTurns roads order turns →
    AreWithin nodes turns
turns-within roads order turns nodes is are = λ a b price has.
    let turn = are.only a b price has in
    (omega (arith, is, turn.first_in), omega (arith, is, turn.second_in))
