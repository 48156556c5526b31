use Rattle.std.proofs.Common.{arith}
use Rattle.std.proofs.lemmas.Option.{slice_get-get_or}
use Rattle.route_certificate.proofs.IndexLemmas.{no_row, run-joined}
use Rattle.route_certificate.proofs.runs.run_of.Goals as goal

pub runs-smaller : goal.runs-smaller
runs-smaller c =
    let there = slice_get-get_or c.args.rows.now c.runs.end no_row c.runs-test.true in
    let behind = c.requires.runs c.runs.end _ (omega (arith, c.runs.invariant.after)) there in
    omega (arith, behind.after, c.runs-test.true)

pub runs-preserved : goal.runs-preserved
runs-preserved c =
    run-joined c.args.rows.now c.args.place c.runs.end c.runs.low c.least-low.result _ c.requires.runs c.runs.invariant
    (slice_get-get_or c.args.rows.now c.runs.end no_row c.runs-test.true) c.least-low.ensures.first c.least-low.ensures.second
