use Rattle.std.proofs.Common.{◌<◌, ◌+◌, List, [], ◌∷◌, ◌++◌, length, sym, ap, ◌∙◌, subst, arith}
use Rattle.std.proofs.lemmas.List.{get_or_read}
use Rattle.overpass_graph.specs.Maps.{roads_of}
use Rattle.cost_model.specs.Facts.{AreFacts}
use Rattle.cost_model.specs.OpenLinks.{is_passable}
use Rattle.cost_model.specs.declared.facts.LinkFacts.{LinkFacts}
use Rattle.link_hierarchy.specs.Arcs.{arc_from}
use Rattle.link_hierarchy.specs.declared.arcs.Arc.{Arc}
use Rattle.ride_bounds.specs.Arcs.{AreRideArcsTo}
use Rattle.ride_bounds.specs.Entries.{least_entry, weight_of}
use Rattle.link_order.specs.Orders.{link_at}
use Rattle.ride_bounds.proofs.PriceLemmas.{prices-more, turn-there}
use Rattle.ride_bounds.proofs.pricing.Pricing.price.Goals as goal

pub link-requires : goal.link-requires
link-requires g c =
    let turn = turn-there (roads_of c.args._map.now) (g.F.FactsOf.links c.args.facts.now).facts c.args.hierarchy.now.order
    c.args.hierarchy.now.turns.items c.requires.is.turns c.args.self.now.next c.args.self.now.priced.items c.index-turn.result.now
    c.requires.on c.requires.more
    (sym (get_or_read c.args.hierarchy.now.turns.items c.args.self.now.next c.index-turn.result.now c.requires.more c.index-turn.ensures
    (arc_from 0 0 0))) in
    record { in_range = omega (arith, turn.second_in, c.requires.is.counted) }

pub facts-entered-requires : goal.facts-entered-requires
facts-entered-requires g c =
    let turn = turn-there (roads_of c.args._map.now) (g.F.FactsOf.links c.args.facts.now).facts c.args.hierarchy.now.order
    c.args.hierarchy.now.turns.items c.requires.is.turns c.args.self.now.next c.args.self.now.priced.items c.index-turn.result.now
    c.requires.on c.requires.more
    (sym (get_or_read c.args.hierarchy.now.turns.items c.args.self.now.next c.index-turn.result.now c.requires.more c.index-turn.ensures
    (arc_from 0 0 0))) in
    let inside : c.index-turn.result.now.to < length c.args.hierarchy.now.order.links = omega (arith, turn.second_in, c.requires.is.counted) in
    record {
      within = omega (
        arith,
        c.link.ensures.lawful.link_in c.index-turn.result.now.to inside,
        c.link.ensures.value,
        c.requires.is.counted,
        c.requires.counted,
      );
    }

pub link-requires-2 : goal.link-requires-2
link-requires-2 g c =
    let turn = turn-there (roads_of c.args._map.now) (g.F.FactsOf.links c.args.facts.now).facts c.args.hierarchy.now.order
    c.args.hierarchy.now.turns.items c.requires.is.turns c.args.self.now.next c.args.self.now.priced.items c.index-turn.result.now
    c.requires.on c.requires.more
    (sym (get_or_read c.args.hierarchy.now.turns.items c.args.self.now.next c.index-turn.result.now c.requires.more c.index-turn.ensures
    (arc_from 0 0 0))) in
    record { in_range = omega (arith, turn.first_in, c.requires.is.counted) }

pub facts-last-requires : goal.facts-last-requires
facts-last-requires g c =
    let turn = turn-there (roads_of c.args._map.now) (g.F.FactsOf.links c.args.facts.now).facts c.args.hierarchy.now.order
    c.args.hierarchy.now.turns.items c.requires.is.turns c.args.self.now.next c.args.self.now.priced.items c.index-turn.result.now
    c.requires.on c.requires.more
    (sym (get_or_read c.args.hierarchy.now.turns.items c.args.self.now.next c.index-turn.result.now c.requires.more c.index-turn.ensures
    (arc_from 0 0 0))) in
    let inside : c.index-turn.result.now.from < length c.args.hierarchy.now.order.links = omega (arith, turn.first_in, c.requires.is.counted) in
    record {
      within = omega (
        arith,
        c.link-2.ensures.lawful.link_in c.index-turn.result.now.from inside,
        c.link-2.ensures.value,
        c.requires.is.counted,
        c.requires.counted,
      );
    }

pub least_entry-requires-clause-last : goal.least_entry-requires-clause-last
least_entry-requires-clause-last g c =
    let turn = turn-there (roads_of c.args._map.now) (g.F.FactsOf.links c.args.facts.now).facts c.args.hierarchy.now.order
    c.args.hierarchy.now.turns.items c.requires.is.turns c.args.self.now.next c.args.self.now.priced.items c.index-turn.result.now
    c.requires.on c.requires.more
    (sym (get_or_read c.args.hierarchy.now.turns.items c.args.self.now.next c.index-turn.result.now c.requires.more c.index-turn.ensures
    (arc_from 0 0 0))) in
    let inside : c.index-turn.result.now.from < length c.args.hierarchy.now.order.links = omega (arith, turn.first_in, c.requires.is.counted) in
    subst AreFacts (sym c.facts-last.ensures.value)
    (g.met.F.FactsOf.sound c.args.facts.now c.link-2.result
    (omega (
      arith,
      c.link-2.ensures.lawful.link_in c.index-turn.result.now.from inside,
      c.link-2.ensures.value,
      c.requires.is.counted,
      c.requires.counted,
    )))

pub least_entry-requires-clause-facts : goal.least_entry-requires-clause-facts
least_entry-requires-clause-facts g c =
    let turn = turn-there (roads_of c.args._map.now) (g.F.FactsOf.links c.args.facts.now).facts c.args.hierarchy.now.order
    c.args.hierarchy.now.turns.items c.requires.is.turns c.args.self.now.next c.args.self.now.priced.items c.index-turn.result.now
    c.requires.on c.requires.more
    (sym (get_or_read c.args.hierarchy.now.turns.items c.args.self.now.next c.index-turn.result.now c.requires.more c.index-turn.ensures
    (arc_from 0 0 0))) in
    let inside : c.index-turn.result.now.to < length c.args.hierarchy.now.order.links = omega (arith, turn.second_in, c.requires.is.counted) in
    subst AreFacts (sym c.facts-entered.ensures.value)
    (g.met.F.FactsOf.sound c.args.facts.now c.link.result
    (omega (
      arith,
      c.link.ensures.lawful.link_in c.index-turn.result.now.to inside,
      c.link.ensures.value,
      c.requires.is.counted,
      c.requires.counted,
    )))

pub returns : goal.returns
returns g c = record {
  on =
      subst (λ (l : List Arc). AreRideArcsTo (roads_of c.args._map.now) (g.F.FactsOf.links c.args.facts.now).facts c.args.hierarchy.now.order
      c.args.hierarchy.now.turns.items (c.args.self.now.next + 1) l)
      (sym (c.in_ok-push.ensures.items
      ∙ ap (λ n. c.args.self.now.priced.items ++ arc_from c.index-turn.result.now.from c.index-turn.result.now.to n ∷ [])
      (c.weight-price.ensures.value
      ∙ ap weight_of
      (c.least_entry.ensures.exact
      ∙ ap (λ (f : LinkFacts). least_entry f c.facts-entered.result) (c.facts-last.ensures.value
      ∙ ap (g.F.FactsOf.links c.args.facts.now).facts c.link-2.ensures.value)
      ∙ ap (least_entry ((g.F.FactsOf.links c.args.facts.now).facts (link_at c.args.hierarchy.now.order c.index-turn.result.now.from)))
      (c.facts-entered.ensures.value ∙ ap (g.F.FactsOf.links c.args.facts.now).facts c.link.ensures.value)))))
      (prices-more (roads_of c.args._map.now) (g.F.FactsOf.links c.args.facts.now).facts c.args.hierarchy.now.order
      c.args.hierarchy.now.turns.items c.requires.is.turns c.args.self.now.next c.args.self.now.priced.items c.index-turn.result.now
      c.requires.on c.requires.more
      (sym (get_or_read c.args.hierarchy.now.turns.items c.args.self.now.next c.index-turn.result.now c.requires.more c.index-turn.ensures
      (arc_from 0 0 0)))
      (ap is_passable (sym (c.facts-entered.ensures.value ∙ ap (g.F.FactsOf.links c.args.facts.now).facts c.link.ensures.value))
      ∙ sym c.is_passable.ensures.exact ∙ c.if-not-is_passable.false));
}
