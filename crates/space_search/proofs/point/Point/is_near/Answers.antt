use Rattle.std.proofs.Common.{◌-ℤ◌, nat_abs, to_z, of_z, ap, ◌∙◌}
use Rattle.std.specs.Int.{w128}
use Rattle.space_search.specs.declared.point.Point.{Point}
use Rattle.space_search.proofs.PointLemmas.{no-distance, near-enough}
use Rattle.space_search.proofs.point.Point.is_near.Goals as goal

pub returns-then-x-z : goal.returns-then-x-z
returns-then-x-z c =
    let low = to_z w128 (of_z w128 c.args.low.now.x) in
    record {
      first =
          λ is.
          near-enough _ _
          (c.abs_diff.ensures ∙ ap (λ (p : Point). nat_abs (to_z w128 (of_z w128 p.x) -ℤ low)) is ∙ no-distance low);
    }

pub returns-then-y-z : goal.returns-then-y-z
returns-then-y-z c =
    let low = to_z w128 (of_z w128 c.args.low.now.y) in
    record {
      first =
          λ is.
          near-enough _ _
          (c.abs_diff-then-y-z.ensures ∙ ap (λ (p : Point). nat_abs (to_z w128 (of_z w128 p.y) -ℤ low)) is ∙ no-distance low);
    }

pub returns-else-y-z : goal.returns-else-y-z
returns-else-y-z c =
    let low = to_z w128 (of_z w128 c.args.low.now.z) in
    record {
      first =
          λ is.
          near-enough _ _
          (c.abs_diff-else-y-z.ensures ∙ ap (λ (p : Point). nat_abs (to_z w128 (of_z w128 p.z) -ℤ low)) is ∙ no-distance low);
    }
