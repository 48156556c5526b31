-- A piece that is taken.
use Rattle.std.proofs.Common.{◌++◌}
use Rattle.overpass_graph.specs.Builder.{most}
use Rattle.overpass_graph.proofs.BuilderLemmas.{may_become}
use Rattle.overpass_graph.proofs.builder.MapBuilder.feed.Goals as goal

pub returns-clause-found : goal.returns-clause-found
returns-clause-found c bytes stands = may_become c.feed.result (bytes ++ c.args.piece.now) (c.feed.ensures.found most bytes stands)
