-- The texts by which hills are crossed: a tag table, a profile and the name of a tile (this project's own).
use Rattle.std.specs.Prelude.{ℕ, List, codes}

-- a tag table with six tags of ways and three of nodes
unfoldable pub look_text : List ℕ
look_text =
    codes
    "---lookupversion:10\n---minorversion:1\n\n---context:way\nreversedirection;0000000000 yes\nhighway;0000000400 residential\nhighway;0000000300 primary\nhighway;0000000200 track\nhighway;0000000100 cycleway\noneway;0000000020 yes true 1\noneway;0000000010 no\nbicycle;0000000020 yes\nbicycle;0000000010 no\njunction;0000000010 roundabout\nroute_bicycle_rcn;0000000000 yes\n\n---context:node\nnodeaccessgranted;0000000000 yes\nbarrier;0000000020 gate\nbarrier;0000000010 bollard\nbicycle;0000000020 yes\nbicycle;0000000010 no\n"

-- a profile by which climbing costs 100 metres a metre, beyond a slope of 1.5 percent, and each metre of a
-- way counts once
unfoldable pub hill_text : List ℕ
hill_text =
    codes "---context:global assign uphillcost 100 assign uphillcutoff 1.5 ---context:way assign costfactor 1"

-- the name of the tile whose corner lies on the equator and on the first meridian
unfoldable pub tile_name : List ℕ
tile_name = codes "N00E000.hgt"
