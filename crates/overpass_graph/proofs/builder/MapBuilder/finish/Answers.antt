-- The end of a text.
use Rattle.overpass_graph.specs.Builder.{most}
use Rattle.overpass_graph.proofs.BuilderLemmas.{text_ends, text_refused}
use Rattle.overpass_graph.proofs.builder.MapBuilder.finish.Goals as goal

-- its elements are taken
pub returns-in-Ok-clause-exact : goal.returns-in-Ok-clause-exact
returns-in-Ok-clause-exact c bytes stands =
    let (limits, comes) = c.in-Ok.ensures.exact most bytes stands in
    text_ends c.map_of.result bytes c.in-Ok.tables.draft comes c.map_of.ensures.exact

-- or refused
pub returns-in-Err-clause-exact : goal.returns-in-Err-clause-exact
returns-in-Err-clause-exact c bytes stands = text_refused bytes c.in-Err.e (c.in-Err.ensures.exact most bytes stands)
