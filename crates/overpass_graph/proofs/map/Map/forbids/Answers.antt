use Rattle.std.proofs.Common.{◌≡◌, ◌<◌, length, sym, ap, subst, ◌∙◌}
use Rattle.overpass_graph.specs.declared.link.Link.{Link}
use Rattle.overpass_graph.specs.Maps.{MapValue, forbids_of, link_of}
use Rattle.overpass_graph.specs.Nets.{net_link}
use Rattle.overpass_graph.specs.Restrictions.{forbids_any}
use Rattle.overpass_graph.proofs.MapLemmas.{made-lawful, node-count}
use Rattle.overpass_graph.proofs.map.Map.forbids.Goals as goal

pub link-requires : goal.link-requires
link-requires c =
    record {
      in_range = subst (λ n. c.args.first < n) (sym (ap (λ (m : MapValue). length m.links) c.self.view_is)) c.requires.first_in;
    }

pub link-requires-2 : goal.link-requires-2
link-requires-2 c =
    record {
      in_range = subst (λ n. c.args.second < n) (sym (ap (λ (m : MapValue). length m.links) c.self.view_is)) c.requires.second_in;
    }

pub forbids-requires-clause-in_range : goal.forbids-requires-clause-in_range
forbids-requires-clause-in_range c =
    let is = made-lawful _ _ _ _ _ _ c.args.self.now c.self.invariant c.self.view_is in
    let first : c.link.result ≡ link_of c.args.self.now c.args.first =
    c.link.ensures.value ∙ ap (λ (m : MapValue). link_of m c.args.first) c.self.view_is in
    let nodes = c.self.invariant.turn_nodes ∙ node-count _ _ _ _ _ _ c.args.self.now c.self.invariant c.self.view_is in
    subst (λ (l : Link). l.to < c.self.inside.turns.nodes) (sym first)
    (subst (λ n. (link_of c.args.self.now c.args.first).to < n) (sym nodes) (is.roads.to_in c.args.first c.requires.first_in))

pub forbids-requires-clause-joins : goal.forbids-requires-clause-joins
forbids-requires-clause-joins c =
    let first : c.link.result ≡ link_of c.args.self.now c.args.first =
    c.link.ensures.value ∙ ap (λ (m : MapValue). link_of m c.args.first) c.self.view_is in
    let second : c.link-2.result ≡ link_of c.args.self.now c.args.second =
    c.link-2.ensures.value ∙ ap (λ (m : MapValue). link_of m c.args.second) c.self.view_is in
    ap (λ (l : Link). l.from) second ∙ c.requires.joins ∙ ap (λ (l : Link). l.to) (sym first)

pub returns : goal.returns
returns c =
    record {
      value = c.forbids.ensures.value
          ∙ ap (λ (l : Link). forbids_any c.self.inside.turns.restrictions l c.link-2.result) c.link.ensures.value
          ∙ ap (forbids_any c.self.inside.turns.restrictions (net_link c.self.inside.links c.args.first)) c.link-2.ensures.value
          ∙ ap (λ (m : MapValue). forbids_of m c.args.first c.args.second) c.self.view_is;
    }
