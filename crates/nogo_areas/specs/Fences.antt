-- Tables that tell which circles may touch a way, by how far it lies from an edge of the globe.
use Rattle.std.specs.Prelude.{◌≡◌, ℕ, ◌-◌, ◌/◌, ◌^◌, ◌<◌, ◌≤◌, min, false, List, length, get_or, slice_get, Some}
use Rattle.std.specs.Int.{bit_at}
use Rattle.geo_int.specs.Spot.{place_of}
use Rattle.geo_int.specs.declared.spots.Spot.{Spot}
use Rattle.nogo_areas.specs.Cuts.{touches_way}
use Rattle.nogo_areas.specs.Sides.{IsBeyond}
use Rattle.nogo_areas.specs.declared.circle.Circle.{Circle}
use Rattle.nogo_areas.specs.declared.fences.Fence.{Fence}
use Rattle.nogo_areas.specs.declared.scale.Scale.{Scale}
use Rattle.nogo_areas.specs.declared.sides.Side.{Side}
use Rattle.nogo_areas.specs.declared.touch.Fences.{Fences}

-- the step of a distance on a scale
unfoldable pub step_of : Scale → ℕ → ℕ
step_of scale distance = min ((distance - scale.first) / 2 ^ scale.shift) 1023

-- below the bound of each circle the circle touches nothing
pub record AreBounds (side : Side) (circles : List Circle) (bounds : List ℕ) : Type 0 where
  pub same : length bounds ≡ length circles
  pub beyond : (k : ℕ) (circle : Circle) → slice_get circles k ≡ Some circle → (distance : ℕ) →
      distance < get_or bounds k 0 →
      IsBeyond side circle distance

-- a mask has the bit of each of the first 64 circles whose bound is not on a later step
pub record HasReached (scale : Scale) (bounds : List ℕ) (step : ℕ) (mask : ℕ) : Type 0 where
  pub reached : (k : ℕ) → k < 64 → k < length bounds → step_of scale (get_or bounds k 0) ≤ step →
      bit_at mask k ≡ 1

-- the masks of the steps leave out none of the first 64 circles that may touch something there
pub record IsFence (side : Side) (scale : Scale) (masks : List ℕ) (circles : List Circle) : Type 0 where
  pub beyond : (k : ℕ) (circle : Circle) → k < 64 → slice_get circles k ≡ Some circle → (distance : ℕ) →
      bit_at (get_or masks (step_of scale distance) 0) k ≡ 0 → IsBeyond side circle distance

-- a mask leaves out none of the first 64 circles that touch the way between two spots
pub record Clears (circles : List Circle) (a b : Spot) (mask : ℕ) : Type 0 where
  pub untouched : (k : ℕ) (circle : Circle) → k < 64 → slice_get circles k ≡ Some circle → bit_at mask k ≡ 0 →
      touches_way (place_of a) (place_of b) circle ≡ false

-- one edge's table is right for these circles
abbrev pub IsFenceOf : List Circle → Fence → Type 0
IsFenceOf circles fence = IsFence fence.side fence.scale fence.masks.items circles

-- the tables of all four edges are right for these circles
pub record AreFences (circles : List Circle) (fences : Fences) : Type 0 where
  pub south : IsFenceOf circles fences.south
  pub north : IsFenceOf circles fences.north
  pub west : IsFenceOf circles fences.west
  pub east : IsFenceOf circles fences.east
