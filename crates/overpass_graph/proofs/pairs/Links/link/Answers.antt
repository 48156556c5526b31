use Rattle.std.proofs.Common.{◌∙◌, ap, ◌<◌, length, arith}
use Rattle.overpass_graph.specs.Groups.{key_at}
use Rattle.overpass_graph.proofs.PairLemmas.{net-size, net-read, twin-within}
use Rattle.overpass_graph.proofs.pairs.Links.link.Goals as goal

pub index-piece-requires : goal.index-piece-requires
index-piece-requires c =
    let size = net-size c.self.inside.ends.groups c.self.inside.ends.keys c.self.inside.pieces.items c.args.self.now c.self.invariant
    c.self.view_is in
    omega (arith, size, c.requires.in_range, c.self.invariant, c.self.inside.pieces.ok.0)

pub key-requires : goal.key-requires
key-requires c =
    let size = net-size c.self.inside.ends.groups c.self.inside.ends.keys c.self.inside.pieces.items c.args.self.now c.self.invariant
    c.self.view_is in
    record { in_range = omega (arith, size, c.requires.in_range) }

pub key-requires-2 : goal.key-requires-2
key-requires-2 c =
    let size = net-size c.self.inside.ends.groups c.self.inside.ends.keys c.self.inside.pieces.items c.args.self.now c.self.invariant
    c.self.view_is in
    let within = twin-within c.args.link (length c.self.inside.pieces.items) (omega (arith, size, c.requires.in_range, c.self.invariant)) in
    record { in_range = omega (arith, within, c.self.invariant, c.twin.ensures.value) }

pub returns : goal.returns
returns c =
    let size = net-size c.self.inside.ends.groups c.self.inside.ends.keys c.self.inside.pieces.items c.args.self.now c.self.invariant
    c.self.view_is in
    let below : c.args.link < length c.self.inside.ends.keys = omega (arith, size, c.requires.in_range) in
    record {
      value = net-read c.self.inside.ends.groups c.self.inside.ends.keys c.self.inside.pieces.items c.args.self.now c.self.invariant
          c.self.view_is
          c.args.link c.index-piece.result.now below c.index-piece.ensures c.key.result c.key-2.result c.key.ensures.value
          (c.key-2.ensures.value ∙ ap (key_at c.self.inside.ends.keys) c.twin.ensures.value);
    }
