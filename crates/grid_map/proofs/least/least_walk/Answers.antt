use Rattle.std.proofs.Common.{ℕ, ap, arith, subst}
use Rattle.space_search.specs.Limits.{IsUnspent}
use Rattle.space_search.specs.Rules.{Rules}
use Rattle.grid_map.proofs.LawLemmas.{grid_rules-few}
use Rattle.grid_map.proofs.least.least_walk.Goals as goal

pub unreachable-requires : goal.unreachable-requires
unreachable-requires c =
    subst IsUnspent c.in-Budget.is
    (c.in_ok-run.ensures.enough 1 (grid_rules-few _ _ _ _)
    (omega (arith, c.cells-limit.ensures.exact, ap (λ (r : Rules ℕ). r.cells) c.new-space.ensures.exact)))
