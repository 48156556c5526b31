-- The line of a way that lacks a node.
use Rattle.std.proofs.Common.{◌≡◌, ◌++◌, ℕ, List, Some, IfOk, IfSome, subst, ap, sym}
use Rattle.std.specs.Fmt.{signed_decimal}
use Rattle.std.specs.String.{string_bytes}
use lib.Chars.{codes}
use Rattle.run_files.specs.Lines.{map_line}
use Rattle.run_files.proofs.lines.map_line.Goals as goal

-- it tells the way, then the node
pub returns-in-MissingNode : goal.returns-in-MissingNode
returns-in-MissingNode c = record {
  exact =
      let text : List ℕ = codes "map: way " ++
      (signed_decimal c.in-MissingNode.way ++ (codes " lacks node " ++ signed_decimal c.in-MissingNode.node)) in
      let printed : IfOk c.format-in-MissingNode.result (λ s. IfSome (Some text) (λ bs. string_bytes s ≡ bs)) =
      c.format-in-MissingNode.ensures.ok in
      subst (λ (t : List ℕ). IfOk c.format-in-MissingNode.result (λ s. string_bytes s ≡ t)) (sym (ap map_line c.in-MissingNode.is)) printed;
}
