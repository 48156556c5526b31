use Rattle.std.proofs.Common.{◌∙◌, true, false}
use Rattle.std.proofs.lemmas.Int.{to_z-of_z}
use Rattle.fixed_num.proofs.PrintLemmas.{mil6_is}
use Rattle.fixed_num.proofs.text.SixDecimals.of.Goals as goal
use mir.Syntax.{w128}

pub returns-then-millionths-lt0-clause-value : goal.returns-then-millionths-lt0-clause-value
returns-then-millionths-lt0-clause-value c =
    c.prepend.ensures.value
    ∙ mil6_is c.args.millionths _ _ true _
    (to_z-of_z w128 c.args.millionths c.ranges.millionths) c.unsigned_abs.ensures.value
    c.if-millionths-lt0.true c.unsigned-text.ensures.value

pub returns-else-millionths-lt0-clause-value : goal.returns-else-millionths-lt0-clause-value
returns-else-millionths-lt0-clause-value c =
    mil6_is c.args.millionths _ _ false _
    (to_z-of_z w128 c.args.millionths c.ranges.millionths) c.unsigned_abs.ensures.value
    c.if-millionths-lt0.false c.unsigned-text.ensures.value
