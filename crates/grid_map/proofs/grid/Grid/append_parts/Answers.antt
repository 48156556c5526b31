use Rattle.std.proofs.Common.{◌<◌, length, arith, inr}
use Rattle.grid_map.specs.MapText.{parts_of}
use Rattle.grid_map.proofs.PartLemmas.{text_from-more}
use Rattle.grid_map.proofs.grid.Grid.append_parts.Goals as goal

pub parts-preserved : goal.parts-preserved
parts-preserved c =
    let within : c.parts.next < length (parts_of c.args.self.now) = omega (arith, c.map_parts-parts.ensures.exact, c.parts-test.true) in
    record {
      within = omega (arith, within);
      room = omega (arith, c.parts.invariant.room, c.append_part.ensures.kept);
      kept = omega (arith, c.parts.invariant.kept, c.append_part.ensures.kept);
      some = inr (search arith);
      value = text_from-more c.args.self.now c.parts.next c.parts.piece.items c.append_part.new.piece.items _ within
          c.append_part.ensures.value c.parts.invariant.value;
    }
