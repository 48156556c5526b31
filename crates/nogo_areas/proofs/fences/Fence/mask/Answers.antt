use Rattle.std.proofs.Common.{◌∙◌, sym, ap, subst, get_or, arith}
use Rattle.std.proofs.lemmas.List.{get_or_read}
use Rattle.nogo_areas.specs.Fences.{Clears}
use Rattle.nogo_areas.proofs.FenceLemmas.{fence-clears}
use Rattle.nogo_areas.proofs.fences.Fence.mask.Goals as goal

pub returns : goal.returns
returns c =
    let masks = c.args.self.now.masks.items in
    let read = get_or_read c.args.self.now.masks.items c.step.result c.index.result.now (omega arith) c.index.ensures 0 in
    record {
      clears = λ circles sound. subst (Clears circles c.args.a c.args.b)
          (sym (read ∙ ap (λ k. get_or c.args.self.now.masks.items k 0) c.step.ensures.value))
          (fence-clears c.args.self.now.side c.args.self.now.scale c.args.self.now.masks.items circles c.args.a c.args.b
          c.max-farther.result sound
          (omega (arith, c.along.ensures.value, c.max-farther.ensures)) (omega (arith, c.along-2.ensures.value, c.max-farther.ensures)));
    }
