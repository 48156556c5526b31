-- The end of a text.
use Rattle.std.proofs.Common.{true, false}
use Rattle.map_elements.proofs.reader.DraftReader.finish.Goals as goal

-- it was read to its end
pub returns-in-Ok-clause-exact : goal.returns-in-Ok-clause-exact
returns-in-Ok-clause-exact c limits bytes stands =
    c.into_tables.ensures.value limits bytes (c.in-Ok.ensures.value limits bytes true (record {
      steps = stands.stands.steps;
      scanned = c.end.ensures.value bytes false stands.stands.steps stands.stands.scanned;
      holds = stands.stands.holds;
    }))

-- its end brings a fault
pub returns-in-Err-clause-exact : goal.returns-in-Err-clause-exact
returns-in-Err-clause-exact c limits bytes stands =
    c.in-Err.ensures.value limits bytes true (record {
      steps = stands.stands.steps;
      scanned = c.end.ensures.value bytes false stands.stands.steps stands.stands.scanned;
      holds = stands.stands.holds;
    })
