use Rattle.std.proofs.Common.{arith, below_more}
use Rattle.case_inputs.proofs.NameLemmas.{name-found, name-other}
use Rattle.case_inputs.proofs.places.place_of.Goals as goal

pub returns-then-eq : goal.returns-then-eq
returns-then-eq c =
    record {
      exact =
          record {
            within = omega arith;
            found = λ within.
                name-found c.args.names.now c.names.place _ within c.as_bytes.result.now
                c.as_bytes.ensures.value c.args.word.now c.if-eq.ensures;
            only = c.names.invariant;
          };
    }

pub returns : goal.returns
returns c =
    record {
      exact =
          record {
            within = omega arith;
            found = λ within. absurd (omega arith);
            only = λ k below. c.names.invariant k (omega arith);
          };
    }

pub names-preserved : goal.names-preserved
names-preserved c =
    below_more _ _ c.names.invariant
    (name-other c.args.names.now c.names.place _ c.names-test.true c.as_bytes.result.now c.as_bytes.ensures.value
    c.args.word.now c.if-eq.ensures)
