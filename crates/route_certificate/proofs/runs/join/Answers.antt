use Rattle.std.proofs.Common.{◌∙◌, ◌-◌, ◌<◌, length, length-set, arith}
use Rattle.std.proofs.lemmas.Option.{slice_get-get_or}
use Rattle.route_certificate.proofs.IndexLemmas.{no_row, rows-lowered, runs-more}
use Rattle.route_certificate.proofs.runs.join.Goals as goal

pub run_of-requires-clause-runs : goal.run_of-requires-clause-runs
run_of-requires-clause-runs c = λ at row from there.
    c.rows.invariant.2 at row (omega (arith, from, c.rows-test.true)) there

pub rows-preserved : goal.rows-preserved
rows-preserved c =
    let place = c.rows.place - 1 in
    let row = c.run_of.result in
    let within : place < length c.rows.rows = omega (arith, c.rows.invariant.0, c.rows-test.true) in
    let was = slice_get-get_or c.rows.rows place no_row within in
    let same = c.run_of.ensures.same _ was in
    let run = c.run_of.ensures.run in
    let low = run.lower place _ (omega arith) run.after was in
    let long = length-set c.rows.rows place row in (
      omega (arith, within, long),
      long ∙ c.rows.invariant.1,
      runs-more c.rows.rows place row within
          (λ at one from there. c.rows.invariant.2 at one (omega (arith, from, c.rows-test.true)) there) run,
      λ rules entries are.
          rows-lowered rules entries c.rows.rows place _ row was same.0 same.1 low (c.rows.invariant.3 rules entries are),
    )

pub returns-clause-runs : goal.returns-clause-runs
returns-clause-runs c = λ at row from there.
    c.rows.invariant.2 at row (omega (arith, from, c.rows-test.false)) there
