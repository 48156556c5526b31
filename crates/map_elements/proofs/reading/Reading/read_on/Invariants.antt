-- What was read so far; each step leaves fewer to come.
use Rattle.json_text.specs.Scanner.{most_steps}
use Rattle.map_elements.specs.Reader.{ReadsOn}
use Rattle.map_elements.proofs.reading.Reading.read_on.Given as goal

abbrev pub invariant-steps : goal.invariant-steps
invariant-steps l = ReadsOn l.initial.self l.self

abbrev pub decreases-steps : goal.decreases-steps
decreases-steps l = most_steps l.self.scanner
