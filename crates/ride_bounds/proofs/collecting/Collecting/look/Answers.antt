use Rattle.std.proofs.Common.{ℕ, ◌+◌, ◌<◌, List, [], ◌∷◌, ◌++◌, length, get_or, sym, ap, ◌∙◌, subst, arith}
use Rattle.overpass_graph.specs.Maps.{link_of, roads_of}
use Rattle.overpass_graph.specs.Roads.{out_links}
use Rattle.overpass_graph.specs.declared.link.Link.{Link}
use Rattle.overpass_graph.proofs.CallerLemmas.{out-sound}
use Rattle.link_hierarchy.specs.Arcs.{arc_from}
use Rattle.link_hierarchy.specs.declared.arcs.Arc.{Arc}
use Rattle.ride_bounds.specs.Turns.{AreTurnsTo}
use Rattle.ride_bounds.proofs.TurnLemmas.{turns-more, turns-next}
use Rattle.ride_bounds.proofs.collecting.Collecting.look.Goals as goal

pub returns-then-self-leaving : goal.returns-then-self-leaving
returns-then-self-leaving c = record {
  on = record {
    counted = c.requires.on.counted;
    turns = turns-next (roads_of c.args.map.now) c.args.self.now.order c.link-first.ensures.lawful c.requires.on.counted
        c.args.self.now.place c.args.self.now.next c.args.self.now.turns.items c.requires.on.turns c.requires.more
        (omega (
          arith,
          ap length (c.out_links-leaving.ensures.value
              ∙ ap (out_links (roads_of c.args.map.now))
              (ap (λ (l : Link). l.to) c.link-ends.ensures.value ∙ ap (λ n. (link_of c.args.map.now n).to) c.link-first.ensures.value)),
          c.if-self-leaving.true,
        ));
  };
}

pub link-requires : goal.link-requires
link-requires c =
    let leaving = c.out_links-leaving.ensures.value in
    let some : c.args.self.now.next < length (out_links (roads_of c.args.map.now) c.link-ends.result.to) =
    omega (arith, ap length leaving, c.if-self-leaving.false) in
    let sound = out-sound (roads_of c.args.map.now) c.link-ends.result.to c.args.self.now.next some in
    record {
      in_range = omega (arith, ap (λ (l : List ℕ). get_or l c.args.self.now.next 0) leaving, sound.0);
    }

pub place-to-requires : goal.place-to-requires
place-to-requires c =
    let leaving = c.out_links-leaving.ensures.value in
    let some : c.args.self.now.next < length (out_links (roads_of c.args.map.now) c.link-ends.result.to) =
    omega (arith, ap length leaving, c.if-self-leaving.false) in
    let sound = out-sound (roads_of c.args.map.now) c.link-ends.result.to c.args.self.now.next some in
    record {
      in_range = omega (arith, ap (λ (l : List ℕ). get_or l c.args.self.now.next 0) leaving, sound.0, c.requires.on.counted);
    }

pub returns : goal.returns
returns c =
    let to_is = ap (λ (l : Link). l.to) c.link-ends.ensures.value ∙ ap (λ n. (link_of c.args.map.now n).to) c.link-first.ensures.value in
    let from_is = ap (λ (l : Link). l.from) c.link-ends.ensures.value ∙ ap (λ n. (link_of c.args.map.now n).from) c.link-first.ensures.value in
    let leaving = c.out_links-leaving.ensures.value ∙ ap (out_links (roads_of c.args.map.now)) to_is in
    record {
      on = record {
        counted = c.requires.on.counted;
        turns =
            subst (λ (l : List Arc). AreTurnsTo (roads_of c.args.map.now) c.args.self.now.order c.args.self.now.place (c.args.self.now.next + 1) l)
            (sym (c.in_ok-push.ensures.items
            ∙ ap (λ n. c.args.self.now.turns.items ++ arc_from c.args.self.now.place n 0 ∷ []) c.place-to.ensures.value))
            (turns-more (roads_of c.args.map.now) c.args.self.now.order c.link-first.ensures.lawful c.requires.on.counted
            c.args.self.now.place c.args.self.now.next c.args.self.now.turns.items c.requires.on.turns c.requires.more
            (get_or c.out_links-leaving.result.now c.args.self.now.next 0)
            (omega (arith, ap length leaving, c.if-self-leaving.false))
            (ap (λ (l : List ℕ). get_or l c.args.self.now.next 0) leaving)
            (λ same. c.if-link-ends.false (ap (λ (l : Link). l.to) c.link.ensures.value ∙ same ∙ sym from_is)));
      };
    }
