use Rattle.std.proofs.Common.{sym}
use Rattle.overpass_graph.proofs.PairLemmas.{twin-even, twin-odd}
use Rattle.overpass_graph.proofs.twins.twin.Goals as goal

pub returns-then-link-eq0 : goal.returns-then-link-eq0
returns-then-link-eq0 c = record { value = sym (twin-even c.args.link c.if-link-eq0.true) }

pub returns-else-link-eq0 : goal.returns-else-link-eq0
returns-else-link-eq0 c = record { value = sym (twin-odd c.args.link c.if-link-eq0.false) }
