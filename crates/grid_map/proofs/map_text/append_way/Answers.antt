use Rattle.std.proofs.Common.{append_assoc, ap}
use Rattle.grid_map.specs.MapText.{way_part, way_text}
use Rattle.grid_map.specs.declared.segment.GridSegment.{GridSegment}
use Rattle.grid_map.proofs.map_text.append_way.Goals as goal

pub returns-clause-value : goal.returns-clause-value
unfolding way_part way_text
returns-clause-value c plan is =
    let a = ap (λ (s : GridSegment). s.a) is in
    let b = ap (λ (s : GridSegment). s.b) is in
    let class = ap (λ (s : GridSegment). s.class) is in
    rw (
      c.put-6.ensures.value,
      c.put-5.ensures.value,
      c.put-4.ensures.value,
      c.put_number-3.ensures.value,
      c.put-3.ensures.value,
      c.put_number-2.ensures.value,
      c.put-2.ensures.value,
      c.put_number.ensures.value,
      c.put.ensures.value,
      c.class_name.ensures.exact,
      ← a,
      ← b,
      ← class,
    )
    (simp append_assoc)
