use Rattle.std.proofs.Common.{Some, sym, ap, ◌∙◌, subst, arith}
use Rattle.grid_map.specs.Plan.{IsPlan, cells_of}
use Rattle.grid_map.proofs.NumberLemmas.{numbers_of-read}
use Rattle.grid_map.proofs.StepLemmas.{is_there-within}
use Rattle.grid_map.proofs.grid.Grid.segment.Goals as goal

pub segment-requires-clause-within : goal.segment-requires-clause-within
segment-requires-clause-within c =
    (numbers_of-read _ _ _ c.args.i _ c.self.view_is c.self.invariant.numbers c.requires.within c.index.ensures).number.below

pub returns : goal.returns
returns c =
    let read = numbers_of-read _ _ _ c.args.i _ c.self.view_is c.self.invariant.numbers c.requires.within c.index.ensures in
    let within = is_there-within _ _ c.self.invariant.lawful.some_width read.number.there in
    let cells = ap cells_of c.self.view_is in
    record {
      exact = read.segment ∙ ap Some (sym c.segment.ensures.exact);
      inside = (
        omega (arith, within.start, cells, ap (λ s. s.a) c.segment.ensures.exact),
        omega
            (arith, within.end, cells, ap (λ s. s.b) c.segment.ensures.exact),
      );
      lawful = subst IsPlan c.self.view_is c.self.invariant.lawful;
    }
