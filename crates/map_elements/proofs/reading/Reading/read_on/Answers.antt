-- All steps were read.
use Rattle.std.proofs.Common.{subst}
use Rattle.map_elements.specs.Reader.{IsOn}
use Rattle.map_elements.proofs.reading.Reading.read_on.Goals as goal

pub returns-in-Ok-false-clause-value : goal.returns-in-Ok-false-clause-value
returns-in-Ok-false-clause-value c limits bytes ended stands =
    subst (λ b. IsOn b limits c.take_next.new.self bytes ended) c.in-Ok-false.field-0-test
    (c.in-Ok-false.ensures.value limits bytes ended (c.steps.invariant.stands limits bytes ended stands))
