use Rattle.std.proofs.Common.{ap, ◌*◌, ◌∙◌, ℕ, arith}
use Rattle.made_routes.proofs.HillLemmas.{cells-few, cells-some}
use Rattle.made_routes.proofs.crossing.cell_count.Goals as goal

pub overflow_mul-result : goal.overflow_mul-result
overflow_mul-result c = omega (
  arith,
  cells-few c.args.grid.now c.width.result c.height.result c.width.ensures.lawful c.width.ensures.exact c.height.ensures.exact,
)

pub returns : goal.returns
returns c =
    record {
      exact = ap (λ (n : ℕ). n * c.height.result) c.width.ensures.exact ∙ ap (λ (n : ℕ). c.args.grid.now.width * n) c.height.ensures.exact;
      some = cells-some c.args.grid.now c.width.ensures.lawful;
    }
