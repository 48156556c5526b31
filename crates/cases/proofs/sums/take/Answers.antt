use Rattle.std.proofs.Common.{List, [], ◌∷◌, ◌++◌, sym, subst, arith}
use Rattle.link_hierarchy.proofs.CallerLemmas.{within-more}
use Rattle.link_hierarchy.specs.Arcs.{AreWithin}
use Rattle.link_hierarchy.specs.declared.arcs.Arc.{Arc}
use Rattle.cases.proofs.sums.take.Goals as goal

pub returns : goal.returns
returns c = record {
  within =
      subst (λ (arcs : List Arc). AreWithin c.args.nodes arcs) (sym c.in_ok-push.ensures.items)
      (within-more c.args.nodes c.args.arcs.now.items _ c.requires.within (omega (arith, c.from.ensures, c.if-from.false))
      (omega (arith, c.from-2.ensures, c.if-to-from.false)));
}
