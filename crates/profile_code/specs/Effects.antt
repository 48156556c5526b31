-- What the names with an effect come to, after the routing profiles of the developers guide: each has its
-- last value in its own section, or its default.
use Rattle.std.specs.Prelude.{ℕ, List, map, slice_get, ℤ, pos, Option, Some, None, unwrap_or}
use lib.Chars.{codes}
use Rattle.context_check.specs.Effects.{global_effects}
use Rattle.profile_code.specs.declared.global_effects.GlobalPlaces.{GlobalPlaces}
use Rattle.profile_code.specs.declared.way_effects.WayPlaces.{WayPlaces}
use Rattle.profile_code.specs.declared.way_effects.WayValues.{WayValues}
use Rattle.profile_text.specs.Meaning.{last_value}
use Rattle.profile_text.specs.Names.{last_place}

-- ---- The number of a name

-- the value at a place, if there is one
abbrev pub value_at : List ℤ → Option ℕ → Option ℤ
value_at values None = None
value_at values (Some place) = slice_get values place

-- the value of a name's last assignment, or its default
abbrev pub last_or : List (List ℕ × ℤ) → List ℕ → ℤ → ℤ
last_or values name default = unwrap_or (last_value values name) default

-- the same, where the names of the assignments and their values are two lists
abbrev pub placed_or : List (List ℕ) → List ℤ → List ℕ → ℤ → ℤ
placed_or names values name default = unwrap_or (value_at values (last_place names name)) default

-- ---- The names of each section

-- what the names of the global section come to, where a name has such a value or its default
abbrev pub global_numbers : (List ℕ → ℤ → ℤ) → List ℤ
global_numbers number = map (λ e. number e.0 e.1) global_effects

-- what those of the way section come to
abbrev pub way_numbers : (List ℕ → ℤ → ℤ) → WayValues
way_numbers number = record {
  costfactor = number (codes "costfactor") (pos 0);
  turncost = number (codes "turncost") (pos 0);
  initialcost = number (codes "initialcost") (pos 0);
  initialclassifier = number (codes "initialclassifier") (pos 0);
  nodeaccessgranted = number (codes "nodeaccessgranted") (pos 0);
  uphillcostfactor = number (codes "uphillcostfactor") (pos 0);
  downhillcostfactor = number (codes "downhillcostfactor") (pos 0);
}

-- what that of the node section comes to
abbrev pub node_number : (List ℕ → ℤ → ℤ) → ℤ
node_number number = number (codes "initialcost") (pos 0)

-- ---- Their places

-- where the names of the global section stand last among these
abbrev pub global_places : List (List ℕ) → GlobalPlaces
global_places names = record {
  uphillcost = last_place names (codes "uphillcost");
  downhillcost = last_place names (codes "downhillcost");
  uphillcutoff = last_place names (codes "uphillcutoff");
  downhillcutoff = last_place names (codes "downhillcutoff");
  elevationpenaltybuffer = last_place names (codes "elevationpenaltybuffer");
  elevationmaxbuffer = last_place names (codes "elevationmaxbuffer");
  elevationbufferreduce = last_place names (codes "elevationbufferreduce");
}

-- where those of the way section do
abbrev pub way_places : List (List ℕ) → WayPlaces
way_places names = record {
  costfactor = last_place names (codes "costfactor");
  turncost = last_place names (codes "turncost");
  initialcost = last_place names (codes "initialcost");
  initialclassifier = last_place names (codes "initialclassifier");
  nodeaccessgranted = last_place names (codes "nodeaccessgranted");
  uphillcostfactor = last_place names (codes "uphillcostfactor");
  downhillcostfactor = last_place names (codes "downhillcostfactor");
}

-- where that of the node section does
abbrev pub node_place : List (List ℕ) → Option ℕ
node_place names = last_place names (codes "initialcost")
