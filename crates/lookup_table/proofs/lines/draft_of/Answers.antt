use Rattle.std.proofs.Common.{arith}
use Rattle.std.proofs.lemmas.Result.{err_from_is_err_and}
use Rattle.lookup_table.proofs.ReadLemmas.{ReadsOn-refused, ReadsOn-last, ReadsOn-more}
use Rattle.lookup_table.proofs.lines.draft_of.Goals as goal

pub returns-in_err-take : goal.returns-in_err-take
returns-in_err-take c =
    let p = err_from_is_err_and c.from_residual.result c.from_residual.ensures.1 in
    record {
      exact = rw (p.1, p.2)
          (ReadsOn-refused _ _ _ _ c.first_line.result.1.now _ c.lines.invariant c.first_line.ensures.value _ c.in_err-take.ensures.exact);
    }

pub returns-then-after-le1 : goal.returns-then-after-le1
returns-then-after-le1 c =
    record {
      exact = ReadsOn-last _ _ _ _ c.first_line.result.1.now _ c.lines.invariant c.first_line.ensures.value c.take.new.self
          c.in_ok-take.ensures.exact (omega arith);
    }

pub lines-preserved : goal.lines-preserved
lines-preserved c =
    let back = c.split_at.ensures.back in
    rw back
    (ReadsOn-more _ _ _ _ c.first_line.result.1.now _ c.lines.invariant c.first_line.ensures.value c.take.new.self
    c.in_ok-take.ensures.exact (omega arith) c.first_line.ensures.fits)
