-- The lines that are printed of refused maps, tiles and certificates. This project's own rule.
use Rattle.std.specs.Prelude.{ℕ, List, ◌++◌}
use Rattle.std.specs.Fmt.{decimal, signed_decimal}
use lib.Chars.{codes}
use Rattle.certificate_text.specs.declared.error.CertError.{CertError}
use Rattle.certificate_text.specs.declared.error.CertError.TheVariants as certificate
use Rattle.hgt_tiles.specs.declared.tile_file.TileError.{TileError}
use Rattle.hgt_tiles.specs.declared.tile_file.TileError.TheVariants as tile
use Rattle.map_tables.specs.declared.error.ElementKind.{ElementKind}
use Rattle.map_tables.specs.declared.error.ElementKind.TheVariants.{Node, Way, Relation}
use Rattle.map_tables.specs.declared.error.MapCount.{MapCount}
use Rattle.map_tables.specs.declared.error.MapCount.TheVariants.{Nodes, Ways, Segments, Members}
use Rattle.map_tables.specs.declared.error.MapError.{MapError}
use Rattle.map_tables.specs.declared.error.MapError.TheVariants.{NotJson, Shape, BadCoordinate, DoubleId, TooLarge, MissingNode, NoMemory}
use Rattle.route_certificate.specs.declared.verdict.Why.{Why}
use Rattle.route_certificate.specs.declared.verdict.Why.TheVariants as why

-- what an element is called
abbrev pub kind_name : ElementKind → List ℕ
kind_name Node = codes "node"
kind_name Way = codes "way"
kind_name Relation = codes "relation"

-- what there are too many of
abbrev pub count_name : MapCount → List ℕ
count_name Nodes = codes "nodes"
count_name Ways = codes "ways"
count_name Segments = codes "segments"
count_name Members = codes "members"

-- the line of a text that is no map, without an end of line
abbrev pub map_line : MapError → List ℕ
map_line (NotJson at) = codes "map: not JSON at byte " ++ decimal at
map_line (Shape place) = codes "map: element " ++ (decimal place ++ codes " has the wrong shape")
map_line (BadCoordinate id) = codes "map: node " ++ (signed_decimal id ++ codes " has a bad coordinate")
map_line (DoubleId kind id) = codes "map: " ++
    (kind_name kind ++ (codes " " ++ (signed_decimal id ++ codes " given twice")))
map_line (TooLarge what) = codes "map: too many " ++ count_name what
map_line (MissingNode way node) = codes "map: way " ++
    (signed_decimal way ++ (codes " lacks node " ++ signed_decimal node))
map_line NoMemory = codes "out of memory"

-- the line of a text that is no certificate, without an end of line
abbrev pub certificate_line : CertError → List ℕ
certificate_line (certificate.Line line) = codes "certificate line " ++ decimal line
certificate_line certificate.NoMemory = codes "out of memory"

-- what a condition on a certificate is called
abbrev pub why_name : Why → List ℕ
why_name why.Legs = codes "legs"
why_name why.Walk = codes "walk"
why_name why.Bounds = codes "bounds"
why_name why.Start = codes "start"
why_name why.Step = codes "step"
why_name why.Goal = codes "goal"

-- the line of a certificate of which a condition fails of a leg, without an end of line
abbrev pub refuted_line : ℕ → Why → List ℕ
refuted_line leg why = codes "certificate refused: leg " ++ (decimal leg ++ (codes ", " ++ why_name why))

-- the line of a file that is no tile, without an end of line
abbrev pub tile_line : TileError → List ℕ
tile_line tile.Name = codes "tile name"
tile_line tile.Size = codes "tile size"
tile_line tile.NoMemory = codes "out of memory"
