use Rattle.std.proofs.Common.{◌∙◌, arith}
use Rattle.overpass_graph.proofs.PairLemmas.{net-size}
use Rattle.overpass_graph.proofs.pairs.Links.len.Goals as goal

pub returns : goal.returns
returns c =
    let size = net-size c.self.inside.ends.groups c.self.inside.ends.keys c.self.inside.pieces.items c.args.self.now c.self.invariant
    c.self.view_is in
    record {
      value = c.len.ensures.value ∙ size;
      few = omega (arith, size, c.len.ensures.lawful.few);
    }
