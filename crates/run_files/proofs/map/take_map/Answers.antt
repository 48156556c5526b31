use Rattle.std.proofs.Common.{Err, subst}
use Rattle.run_files.specs.Limits.{most_map}
use Rattle.run_files.specs.MapReading.{CountsMapFault, IsReadAs, IsReadFrom}
use Rattle.run_files.specs.declared.map_error.MapFileError.{MapFileError}
use Rattle.run_files.specs.declared.status.Status.TheVariants.{Map}
use Rattle.run_files.proofs.MapLemmas.{map-failed, map-missing, map-read}
use Rattle.run_files.proofs.NoteLemmas.{noted-more}
use Rattle.run_files.proofs.map.take_map.Goals as goal

pub returns-in-Ok-false : goal.returns-in-Ok-false
returns-in-Ok-false g c = record {
  taken = map-missing c.args.file.now (g.F.Files.seen c.args.files.now) c.args.notes.now
      (g.F.Files.seen c.open.new.self) _ _ _ c.name.ensures.exact c.word-word.ensures.exact c.in-Ok-false.field-0-test
      c.in-Ok-false.ensures.found;
}

pub returns-in-Err : goal.returns-in-Err
returns-in-Err g c = record {
  taken = map-failed c.args.file.now (g.F.Files.seen c.args.files.now) c.args.notes.now
      (g.F.Files.seen c.open.new.self) _ c.word-word.ensures.exact c.in-Err.ensures.kept;
}

pub returns-in-Ok : goal.returns-in-Ok
returns-in-Ok g c = record {
  taken = map-read _ _ _ _ _ c.in-Ok.ensures.kept.bytes _ _ _ _ c.name.ensures.exact c.in-Ok-true.field-0-test c.in-Ok-true.ensures.found
      c.in-Ok.ensures.kept.how (c.in-Ok.ensures.kept.is, c.in-Ok.ensures.exact, c.in-Ok.ensures.cause)
      (noted-more _ _ _ _ _ c.in-Ok.ensures.kept.noted c.note_map.ensures.noted);
}

pub returns-in-Err-Fault : goal.returns-in-Err-Fault
returns-in-Err-Fault g c = record {
  taken = map-read _ _ _ _ _ c.in-Err-Fault.ensures.kept.bytes _ _ _ _ c.name.ensures.exact c.in-Ok-true.field-0-test
      c.in-Ok-true.ensures.found c.in-Err-Fault.ensures.kept.how (
        c.word-word.ensures.exact,
        subst (λ (e : MapFileError). CountsMapFault (g.F.Files.seen c.open.new.self).faults (g.F.Files.seen c.read_map.new.files).faults
            (Err e)) c.in-Err-Fault.field-0-is c.in-Err-Fault.ensures.cause,
      ) c.in-Err-Fault.ensures.kept.noted;
}

pub returns-in-Err-TooLong : goal.returns-in-Err-TooLong
returns-in-Err-TooLong g c = record {
  taken = map-read _ _ _ _ _ c.in-Err-TooLong.ensures.kept.bytes _ _ _ _ c.name.ensures.exact c.in-Ok-true.field-0-test
      c.in-Ok-true.ensures.found c.in-Err-TooLong.ensures.kept.how (
        c.word-word.ensures.exact,
        subst (λ (e : MapFileError). IsReadAs most_map c.in-Err-TooLong.ensures.kept.bytes (Err e)) c.in-Err-TooLong.field-0-is c.in-Err-TooLong.ensures.kept.is,
        subst (λ (e : MapFileError). IsReadFrom most_map (g.F.Files.seen c.open.new.self).left (Err e)) c.in-Err-TooLong.field-0-is
            c.in-Err-TooLong.ensures.exact,
        subst (λ (e : MapFileError). CountsMapFault (g.F.Files.seen c.open.new.self).faults (g.F.Files.seen c.read_map.new.files).faults
            (Err e)) c.in-Err-TooLong.field-0-is c.in-Err-TooLong.ensures.cause,
      ) c.in-Err-TooLong.ensures.kept.noted;
}

pub returns-in-Err-Map : goal.returns-in-Err-Map
returns-in-Err-Map g c = record {
  taken = rw c.in-Err-Map.field-0-is (map-read c.args.file.now (g.F.Files.seen c.args.files.now) c.args.notes.now _ _ c.in-Err-Map.ensures.kept.bytes _ _ _
      (Err (Map c.word-word.result c.in-Err-Map.error)) c.name.ensures.exact c.in-Ok-true.field-0-test
      c.in-Ok-true.ensures.found c.in-Err-Map.ensures.kept.how (
        c.word-word.ensures.exact,
        subst (λ (e : MapFileError). IsReadAs most_map c.in-Err-Map.ensures.kept.bytes (Err e)) c.in-Err-Map.field-0-is c.in-Err-Map.ensures.kept.is,
        subst (λ (e : MapFileError). IsReadFrom most_map (g.F.Files.seen c.open.new.self).left (Err e)) c.in-Err-Map.field-0-is
            c.in-Err-Map.ensures.exact,
        subst (λ (e : MapFileError). CountsMapFault (g.F.Files.seen c.open.new.self).faults (g.F.Files.seen c.read_map.new.files).faults
            (Err e)) c.in-Err-Map.field-0-is c.in-Err-Map.ensures.cause,
      ) c.in-Err-Map.ensures.kept.noted);
}

pub returns-in-Err-NoMemory : goal.returns-in-Err-NoMemory
returns-in-Err-NoMemory g c = record {
  taken = map-read _ _ _ _ _ c.in-Err-NoMemory.ensures.kept.bytes _ _ _ _ c.name.ensures.exact c.in-Ok-true.field-0-test
      c.in-Ok-true.ensures.found c.in-Err-NoMemory.ensures.kept.how
      (subst (λ (e : MapFileError). CountsMapFault (g.F.Files.seen c.open.new.self).faults (g.F.Files.seen c.read_map.new.files).faults
      (Err e)) c.in-Err-NoMemory.field-0-is c.in-Err-NoMemory.ensures.cause) c.in-Err-NoMemory.ensures.kept.noted;
}
