use Rattle.std.proofs.Common.{ℕ, Err, refl, ap, subst}
use Rattle.edge_io.specs.Whole.{CountsFault}
use Rattle.edge_io.specs.declared.whole_error.WholeError.{WholeError}
use Rattle.run_files.proofs.StageLemmas.{asked-failed, asked-missing, asked-read}
use Rattle.run_files.specs.File.{IsFileAnswer}
use Rattle.run_files.proofs.file.take_file.Goals as goal

pub returns-in-Ok-false-clause-taken : goal.returns-in-Ok-false-clause-taken
returns-in-Ok-false-clause-taken g c =
    asked-missing c.args.file.now c.args.limit (IsFileAnswer c.args.file.now c.args.limit) (g.F.Files.seen c.args.files.now)
    (g.F.Files.seen c.open.new.self) c.name.result.now c.word-word.result c.in-Ok-false.field-0 c.name.ensures.exact
    c.word-word.ensures.exact c.in-Ok-false.field-0-test c.in-Ok-false.ensures.found

pub returns-in-Err-clause-taken : goal.returns-in-Err-clause-taken
returns-in-Err-clause-taken g c =
    asked-failed c.args.file.now c.args.limit (IsFileAnswer c.args.file.now c.args.limit) (g.F.Files.seen c.args.files.now)
    (g.F.Files.seen c.open.new.self) c.word-word.result c.word-word.ensures.exact c.in-Err.ensures.kept

pub returns-in-Ok-clause-taken : goal.returns-in-Ok-clause-taken
returns-in-Ok-clause-taken g c =
    asked-read _ _ _ _ _ _ c.in-Ok.bytes.items _ _ _ c.name.ensures.exact c.in-Ok-true.field-0-test c.in-Ok-true.ensures.found
    c.in-Ok.ensures.value (refl, c.in-Ok.ensures.exact, c.in-Ok.ensures.fits, c.in-Ok.ensures.cause)

pub returns-in-Err-Fault-clause-taken : goal.returns-in-Err-Fault-clause-taken
returns-in-Err-Fault-clause-taken g c =
    asked-read _ _ _ _ _ _ c.in-Err-Fault.ensures.kept.bytes _ _ _ c.name.ensures.exact c.in-Ok-true.field-0-test
    c.in-Ok-true.ensures.found c.in-Err-Fault.ensures.kept.how (
      c.word-word.ensures.exact,
      subst (λ (e : WholeError). CountsFault {T = ℕ} (g.F.Files.seen c.open.new.self).faults
          (g.F.Files.seen c.read_whole.new.files).faults (Err e)) c.in-Err-Fault.field-0-is c.in-Err-Fault.ensures.cause,
    )

pub returns-in-Err-TooLong-clause-taken : goal.returns-in-Err-TooLong-clause-taken
returns-in-Err-TooLong-clause-taken g c =
    asked-read _ _ _ _ _ _ c.in-Err-TooLong.ensures.kept.bytes _ _ _ c.name.ensures.exact c.in-Ok-true.field-0-test
    c.in-Ok-true.ensures.found c.in-Err-TooLong.ensures.kept.how (
      c.word-word.ensures.exact,
      c.in-Err-TooLong.ensures.too_long (ap Err c.in-Err-TooLong.field-0-is),
      subst (λ (e : WholeError). CountsFault {T = ℕ} (g.F.Files.seen c.open.new.self).faults
          (g.F.Files.seen c.read_whole.new.files).faults (Err e)) c.in-Err-TooLong.field-0-is c.in-Err-TooLong.ensures.cause,
    )

pub returns-in-Err-NoMemory-clause-taken : goal.returns-in-Err-NoMemory-clause-taken
returns-in-Err-NoMemory-clause-taken g c =
    asked-read _ _ _ _ _ _ c.in-Err-NoMemory.ensures.kept.bytes _ _ _ c.name.ensures.exact c.in-Ok-true.field-0-test
    c.in-Ok-true.ensures.found c.in-Err-NoMemory.ensures.kept.how
    (subst (λ (e : WholeError). CountsFault {T = ℕ} (g.F.Files.seen c.open.new.self).faults
    (g.F.Files.seen c.read_whole.new.files).faults (Err e)) c.in-Err-NoMemory.field-0-is c.in-Err-NoMemory.ensures.cause)
