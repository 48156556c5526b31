-- The links of a map, of which the first ones are judged (this project's own rule).
use Rattle.std.specs.Prelude.{◌≡◌, ℕ, ◌-◌, ◌%◌, ◌≤◌, List, length, take}
use Rattle.overpass_graph.specs.Maps.{MapValue}
use Rattle.nogo_areas.specs.Cuts.{cut_of, is_cut}
use Rattle.nogo_areas.specs.Fences.{AreFences}
use Rattle.nogo_areas.specs.declared.circle.Circle.{Circle}
use Rattle.nogo_areas.specs.declared.cutting.Cutting.{Cutting}

-- how many links are judged
abbrev pub judged : Cutting → ℕ
judged cutting = length cutting.cut.items

-- the first links of a map are judged by these circles
pub record IsCutting (roads : MapValue) (circles : List Circle) (cutting : Cutting) : Type 0 where
  pub fences : AreFences circles cutting.fences
  pub within : judged cutting ≤ length roads.links
  pub cut : cutting.cut.items ≡ take (judged cutting) (cut_of roads circles)
  pub last : judged cutting % 2 ≡ 1 → cutting.last ≡ is_cut roads circles (judged cutting - 1)
