-- The map of a grid (this project's own rule).
use Rattle.std.specs.Prelude.{◌≡◌, ℕ, ◌+◌, ◌*◌, Bool, true, false, [], length, slice_get, Some}
use Rattle.grid_map.specs.Segments.{segments_of}
use Rattle.grid_map.specs.declared.plan.Plan.{Plan}
use Rattle.grid_map.specs.declared.segment.GridSegment.{GridSegment}
use Rattle.made_routes.specs.Elements.{nodes_of, ways_of}
use Rattle.overpass_graph.specs.Maps.{MapValue, link_of}
use Rattle.overpass_graph.specs.declared.link.Link.{Link}

-- a link along the one segment of a way, from a node to a node, forward or back
abbrev pub link_along : (way from to : ℕ) (back : Bool) → Link
link_along way from to back = record { from = from; to = to; way = way; segment = 0; back = back }

-- the map of a grid: its nodes are the cells, each by its number, and its ways are the segments, in their
-- order. The segment at place i has the links 2i, from its cell to the other, and 2i + 1, back, and there is
-- no other link; no turn is forbidden
pub record IsGridMap (plan : Plan) (map : MapValue) : Type 0 where
  pub nodes : map.nodes ≡ nodes_of plan
  pub ways : map.ways ≡ ways_of plan
  pub count : length map.links ≡ 2 * length (segments_of plan)
  pub forth : (place : ℕ) (segment : GridSegment) → slice_get (segments_of plan) place ≡ Some segment →
      link_of map (2 * place) ≡ link_along place segment.a segment.b false
  pub back : (place : ℕ) (segment : GridSegment) → slice_get (segments_of plan) place ≡ Some segment →
      link_of map (2 * place + 1) ≡ link_along place segment.b segment.a true
  pub free : map.restrictions ≡ []
