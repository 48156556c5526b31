use Rattle.std.proofs.Common.{subst}
use Rattle.space_search.specs.Rules.{IsUnder}
use Rattle.space_search.specs.declared.point.Point.{Point}
use Rattle.space_search.proofs.BlockLemmas.{floor-added}
use Rattle.space_search.proofs.blocks.add_to.Goals as goal

pub returns-in-Ok-clause-floor : goal.returns-in-Ok-clause-floor
returns-in-Ok-clause-floor g c =
    floor-added (g.S.Space.rules c.args.space.now) c.args.block.now.low c.least-block.result c.args.block.now.members.items _
    c.args.one.now c.requires.floor c.in-Ok.ensures.items c.least-block.ensures.first
    (subst (λ (p : Point). IsUnder c.least-block.result p) c.point-point.ensures.value c.least-block.ensures.second)
