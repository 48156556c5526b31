use Rattle.std.proofs.Common.{◌≡◌, ◌++◌, take}
use Rattle.std.specs.List.{flat_map}
use Rattle.hgt_tiles.specs.Tiles.{height_of}
use Rattle.track_legs.specs.declared.row.Row.{Row}
use Rattle.track_reply.specs.GeoJson.{next_position}
use Rattle.track_reply.specs.Source.{end_spot}
use Rattle.track_reply.proofs.positions.append_ends.Given as goal

abbrev pub invariant-rows : goal.invariant-rows
invariant-rows l =
    l.out.items ≡ l.fn.out.items
    ++ flat_map (λ (row : Row). next_position (height_of l.tiles) (end_spot l.map row.link)) (take l.place l.rows)
