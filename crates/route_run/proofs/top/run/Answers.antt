use Rattle.std.proofs.Common.{◌≡◌, ◌∙◌, Bool, ap, subst}
use Rattle.command_words.specs.Refusals.{texts_of}
use Rattle.route_run.proofs.NotesLemmas.{outcome-noted}
use Rattle.route_run.proofs.SaidLemmas.{outcome-done, outcome-refused, outcome-said}
use Rattle.route_run.specs.Outcome.{IsDone, IsOutcome, reach, wants_notes}
use Rattle.run_files.specs.Notes.{NotesSeen, heard}
use Rattle.route_run.proofs.top.run.Goals as goal

pub returns-in-Ok : goal.returns-in-Ok
returns-in-Ok g c =
    let words = texts_of c.args.words.now in
    let old = reach (g.F.Files.seen c.args.files.now) (g.O.Sink.seen c.args.out.now) (g.H.Hub.seen c.args.hub.now) c.args.notes.now in
    let new = reach (g.F.Files.seen c.command_run.new.files) (g.O.Sink.seen c.command_run.new.out) (g.H.Hub.seen c.command_run.new.hub) c.command_run.new.notes in
    let command = c.in-Ok.command in
    let begins : c.keep_if.new.self ≡ heard (wants_notes command) c.args.notes.now =
    c.keep_if.ensures.value ∙ ap (λ (b : Bool). heard b c.args.notes.now) c.wants_notes.ensures.exact in
    let is : IsOutcome words old new c.command_run.result =
    outcome-done words old new c.command_run.result command c.in-Ok.ensures.exact
    (subst (λ (n : NotesSeen). IsDone command (record old { notes = n }) new c.command_run.result) begins c.command_run.ensures.exact) in
    let said = outcome-said words old new c.command_run.result is in
    record { outcome = is; notes = outcome-noted words old new c.command_run.result is; cause = said.written; read_cause = said.read; hub_cause = said.hub; complete = said.complete }

pub returns-in-Err : goal.returns-in-Err
returns-in-Err g c =
    let words = texts_of c.args.words.now in
    let at = reach (g.F.Files.seen c.args.files.now) (g.O.Sink.seen c.args.out.now) (g.H.Hub.seen c.args.hub.now) c.args.notes.now in
    let is : IsOutcome words at at c.in-Err.status = outcome-refused words at c.in-Err.status c.in-Err.ensures.exact in
    let said = outcome-said words at at c.in-Err.status is in
    record { outcome = is; notes = outcome-noted words at at c.in-Err.status is; cause = said.written; read_cause = said.read; hub_cause = said.hub; complete = said.complete }
