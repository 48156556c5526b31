use Rattle.std.proofs.Common.{◌∙◌, arith}
use Rattle.edge_io.proofs.WholeLemmas.{length-extended, HasRead-more, ReadsBytes-end, ReadsOn-end, ReadsOn-more, ReadsOn-fails, IsAllLeft-end, IsTooLong-more, ReadsWithin-more}
use Rattle.edge_io.proofs.whole.read_whole.Goals as goal

pub returns-in_err-given-clause-kept : goal.returns-in_err-given-clause-kept
returns-in_err-given-clause-kept g c =
    ReadsOn-fails _ _ _ _ _ c.reading.invariant.fits c.reading.invariant.read c.in_err-given.ensures.kept

pub returns-then-given-eq0-clause-exact : goal.returns-then-given-eq0-clause-exact
returns-then-given-eq0-clause-exact g c =
    IsAllLeft-end _ _ _ _ _ _ _ c.reading.invariant.fits c.reading.invariant.read c.in_ok-given.ensures.found c.if-given-eq0.true

pub returns-then-given-eq0-clause-value : goal.returns-then-given-eq0-clause-value
returns-then-given-eq0-clause-value g c =
    ReadsBytes-end _ _ _ _ _ _ _ c.reading.invariant.fits c.reading.invariant.read c.in_ok-given.ensures.found c.if-given-eq0.true

pub returns-then-given-eq0-clause-kept : goal.returns-then-given-eq0-clause-kept
returns-then-given-eq0-clause-kept g c =
    ReadsOn-end _ _ _ _ _ _ _ c.reading.invariant.fits c.reading.invariant.read c.in_ok-given.ensures.found c.if-given-eq0.true

pub returns-then-given-limit-clause-too_long : goal.returns-then-given-limit-clause-too_long
returns-then-given-limit-clause-too_long g c = λ _.
    IsTooLong-more _ _ _ _ _ _ _ c.in_ok-given.ensures.fits (omega (arith, c.reading.bytes.ok.0, c.len.ensures)) c.reading.invariant.read
    c.in_ok-given.ensures.found

pub returns-then-given-limit-clause-kept : goal.returns-then-given-limit-clause-kept
returns-then-given-limit-clause-kept g c =
    ReadsOn-more _ _ _ _ _ _ _ c.reading.invariant.fits c.reading.invariant.read c.in_ok-given.ensures.found

pub reading-preserved : goal.reading-preserved
reading-preserved g c = record {
  fits = omega (
    arith,
    c.reading.bytes.ok.0,
    c.len.ensures,
    length-extended _ _ _ _ c.in_ok-extend_from_slice.ensures.items c.in_ok-given.ensures.fits,
  );
  is_open = c.in_ok-given.ensures.found.is_open ∙ c.reading.invariant.is_open;
  read = HasRead-more _ _ _ _ _ _ _ c.in_ok-extend_from_slice.ensures.items (omega arith) c.in_ok-given.ensures.fits
      c.reading.invariant.read c.in_ok-given.ensures.found;
}

pub returns-in_err-extend_from_slice-clause-kept : goal.returns-in_err-extend_from_slice-clause-kept
returns-in_err-extend_from_slice-clause-kept g c =
    ReadsOn-more _ _ _ _ _ _ _ c.reading.invariant.fits c.reading.invariant.read c.in_ok-given.ensures.found

pub returns-in_err-extend_from_slice-clause-memory : goal.returns-in_err-extend_from_slice-clause-memory
returns-in_err-extend_from_slice-clause-memory g c = λ _.
    ReadsWithin-more _ _ _ _ _ _ _ (omega (arith, c.reading.bytes.ok.0, c.len.ensures)) c.in_ok-given.ensures.fits
    c.reading.invariant.read c.in_ok-given.ensures.found
