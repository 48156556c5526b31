use Rattle.std.proofs.Common.{append_assoc}
use Rattle.grid_map.specs.MapText.{node_part, node_text}
use Rattle.grid_map.proofs.grid.Grid.append_node.Goals as goal

pub returns-clause-value : goal.returns-clause-value
unfolding node_part node_text
returns-clause-value c =
    rw (
      c.put-5.ensures.value,
      c.put_degrees-2.ensures.value,
      c.put-4.ensures.value,
      c.put_degrees.ensures.value,
      c.put-3.ensures.value,
      c.put_number.ensures.value,
      c.put-2.ensures.value,
      c.put.ensures.value,
      c.front_of.ensures.exact,
      c.width.ensures.exact,
      c.width-2.ensures.exact,
    )
    (simp append_assoc)
