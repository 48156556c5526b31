use Rattle.std.proofs.Common.{◌≡◌, ◌-◌, ◌/◌, ◌++◌, sym, ap, ◌∙◌, arith, List, ℕ}
use Rattle.grid_map.specs.declared.segment.GridSegment.{GridSegment}
use Rattle.grid_map.proofs.PartLemmas.{length-parts_of, part-node, part-way, part-last}
use Rattle.grid_map.proofs.grid.Grid.append_part.Goals as goal

pub returns-then-part-cells-clause-value : goal.returns-then-part-cells-clause-value
returns-then-part-cells-clause-value c =
    c.append_node.ensures.value
    ∙ ap (λ (l : List ℕ). c.args.piece.now.items ++ l)
    (sym (part-node c.args.self.now c.args.part (omega (arith, c.if-part-cells.true, c.cells-cells.ensures.exact))))

pub returns-then-part-cells-2-clause-value : goal.returns-then-part-cells-2-clause-value
returns-then-part-cells-2-clause-value c =
    let found = part-way c.args.self.now c.args.part _ c.segment.result (omega (arith, c.if-part-cells.false, c.cells-cells.ensures.exact))
    (ap (λ (n : ℕ). c.args.part - n) c.cells-cells.ensures.exact) c.segment.ensures.exact in
    c.append_way.ensures.value c.args.self.now found.0 ∙ ap (λ (l : List ℕ). c.args.piece.now.items ++ l) (sym found.1)

pub returns-else-part-cells-2-clause-value : goal.returns-else-part-cells-2-clause-value
returns-else-part-cells-2-clause-value c =
    c.append_end.ensures.value
    ∙ ap (λ (l : List ℕ). c.args.piece.now.items ++ l)
    (sym (part-last c.args.self.now c.args.part
    (omega (
      arith,
      c.if-part-cells.false,
      c.if-part-cells-2.false,
      c.requires.within,
      length-parts_of c.args.self.now,
      c.cells-cells.ensures.exact,
      c.segments.ensures.exact,
    ))))

pub append_way-requires-clause-k : goal.append_way-requires-clause-k
append_way-requires-clause-k c =
    let found = part-way c.args.self.now c.args.part _ c.segment.result (omega (arith, c.if-part-cells.false, c.cells-cells.ensures.exact))
    (ap (λ (n : ℕ). c.args.part - n) c.cells-cells.ensures.exact) c.segment.ensures.exact in
    let half : c.segment.result.a ≡ c.segment.result.k / 2 = ap (λ (s : GridSegment). s.a) found.0 in
    omega (arith, half, c.segment.ensures.inside.0, c.cells-cells.ensures.exact, c.cells-cells.ensures.within)
