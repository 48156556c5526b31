use Rattle.std.proofs.Common.{List, sym, subst}
use Rattle.link_hierarchy.specs.Arcs.{AreWithin}
use Rattle.link_hierarchy.specs.declared.arcs.Arc.{Arc}
use Rattle.cases.proofs.sums.answer.Goals as goal

pub line-requires-clause-within : goal.line-requires-clause-within
line-requires-clause-within c =
    subst (λ (arcs : List Arc). AreWithin c.min-nodes.result arcs) (sym c.as_slice.ensures.value) c.in_ok-arcs.ensures.within
