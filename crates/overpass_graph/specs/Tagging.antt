-- Tables whose ways are being tagged.
use Rattle.std.specs.Prelude.{◌≡◌, List}
use Rattle.map_tables.specs.Held.{Held}
use Rattle.overpass_graph.specs.Members.{KeptWay, with_more_tags}

-- all but the ways stays, and what is left to do to them comes to what is to be done to the first ones
pub record TagsOn (first now : Held) (left all : List KeptWay → List KeptWay) : Type 0 where
  pub held : now ≡ with_more_tags first now.draft.ways
  pub ways : left now.draft.ways ≡ all first.draft.ways
