use Rattle.std.proofs.Common.{◌+◌, List, ℕ, Err, drop, refl, subst, sym}
use Rattle.command_words.proofs.CallerLemmas.{once-next}
use Rattle.command_words.specs.FileNames.{profile_name}
use Rattle.command_words.specs.Fit.{AreOnceAfter}
use Rattle.profile_text.specs.Expr.{sections_in}
use Rattle.route_ready.specs.Shelves.{shelf_of}
use Rattle.route_ready.specs.Entries.{names_of}
use Rattle.run_files.proofs.EachLemmas.{GoesFor, at-more, at-refused}
use Rattle.run_files.proofs.ProfileLemmas.{named-no_memory, named-refused, named-taken, names-after, once-first}
use Rattle.run_files.specs.Notes.{inputs}
use Rattle.run_files.specs.Profiles.{NotesNamed, TakesProfiles, named_by}
use Rattle.run_files.specs.declared.status.Status.TheVariants.{NoMemory}
use Rattle.run_files.proofs.profiles.take_profiles.Goals as goal

pub store-requires : goal.store-requires
store-requires g c = record {
  new = once-first (names_of (shelf_of c.profiles.shelf)) c.args.profiles.now c.profiles.file-index c.file-item.result c.profiles-test.true
      c.file-item.is c.profiles.invariant.once;
}

pub returns-in-Err-store : goal.returns-in-Err-store
returns-in-Err-store g c =
    let table = c.args.table.now in
    let old = inputs (g.F.Files.seen c.args.files.now) c.args.notes.now in
    let mid = inputs (g.F.Files.seen c.profiles.files) c.profiles.notes in
    let new = inputs (g.F.Files.seen c.take_checked.new.files) c.profiles.notes in
    record {
      taken = subst (λ s. TakesProfiles table c.args.profiles.now old new (Err s)) (sym c.in-Err-store.ensures.cause)
          (at-refused (NotesNamed table) c.args.profiles.now old (shelf_of c.profiles.shelf) c.profiles.file-index c.file-item.result mid
          new NoMemory
          c.profiles-test.true c.file-item.is c.profiles.invariant.goes
          (named-no_memory table c.file-item.result mid.files new.files (sections_in c.in-Ok.profile) c.in-Ok.ensures.taken, refl));
    }

pub returns-in-Err : goal.returns-in-Err
returns-in-Err g c =
    let table = c.args.table.now in
    let mid = inputs (g.F.Files.seen c.profiles.files) c.profiles.notes in
    let new = inputs (g.F.Files.seen c.take_checked.new.files) c.profiles.notes in
    record {
      taken = at-refused (NotesNamed table) c.args.profiles.now (inputs (g.F.Files.seen c.args.files.now) c.args.notes.now) (shelf_of c.profiles.shelf)
          c.profiles.file-index
          c.file-item.result mid new c.in-Err.status c.profiles-test.true c.file-item.is c.profiles.invariant.goes
          (named-refused table c.file-item.result mid.files new.files c.in-Err.status c.in-Err.ensures.taken, refl);
    }

pub profiles-preserved : goal.profiles-preserved
profiles-preserved g c =
    let table = c.args.table.now in
    let all = c.args.profiles.now in
    let file = c.file-item.result in
    let before = shelf_of c.profiles.shelf in
    let old = inputs (g.F.Files.seen c.args.files.now) c.args.notes.now in
    let mid = inputs (g.F.Files.seen c.profiles.files) c.profiles.notes in
    let new = inputs (g.F.Files.seen c.take_checked.new.files) c.note_file.new.notes in
    let sections = sections_in c.in-Ok.profile in
    record {
      once = subst (λ (n : List (List ℕ)). AreOnceAfter n (drop (c.profiles.file-index + 1) all))
          (sym (names-after before (shelf_of c.store.new.shelf) (profile_name file.name) sections c.in-Ok-store.ensures.value))
          (once-next (names_of before) all c.profiles.file-index file c.profiles-test.true c.file-item.is c.profiles.invariant.once);
      goes = subst (λ profiles. GoesFor (NotesNamed table) all old profiles (drop (c.profiles.file-index + 1) all) new)
          (sym c.in-Ok-store.ensures.value)
          (at-more (NotesNamed table) all old before c.profiles.file-index file mid new (named_by file sections) c.profiles-test.true
          c.file-item.is c.profiles.invariant.goes (named-taken table file mid.files new.files sections c.in-Ok.ensures.taken, c.note_file.ensures.noted));
    }
