-- By what became of the byte.
use Rattle.std.proofs.Common.{refl, arith, ◌<◌}
use Rattle.json_text.specs.Scanner.{is_number}
use Rattle.json_text.proofs.ScannerLemmas.{pending_byte, byte_read, byte_given, byte_first, byte_stuck, first_nearer}
use Rattle.json_text.proofs.scanner.Scanner.step.Goals as goal

pub returns-in-Read-clause-value : goal.returns-in-Read-clause-value
returns-in-Read-clause-value c bytes steps h =
    byte_read c.args.self.now _ bytes steps c.index-b.result.now c.in_ok-take.field-0 h c.in_ok-take.ensures.exact.moves c.in-Read.is
    (pending_byte c.args.self.now.input.items c.args.self.now.read c.index-b.result.now
    (omega (arith, c.requires, c.args.self.now.input.ok.0)) c.index-b.ensures) refl

pub returns-in-Given-clause-value : goal.returns-in-Given-clause-value
returns-in-Given-clause-value c bytes steps h =
    byte_given c.args.self.now _ bytes steps c.index-b.result.now c.in_ok-take.field-0 h c.in_ok-take.ensures.exact.moves c.in-Given.step
    c.in-Given.is
    (pending_byte c.args.self.now.input.items c.args.self.now.read c.index-b.result.now
    (omega (arith, c.requires, c.args.self.now.input.ok.0)) c.index-b.ensures) refl

pub returns-in-First-clause-value : goal.returns-in-First-clause-value
returns-in-First-clause-value c bytes steps h =
    byte_first c.args.self.now _ bytes steps c.index-b.result.now c.in_ok-take.field-0 h c.in_ok-take.ensures.exact.moves c.in-First.is _
    (pending_byte c.args.self.now.input.items c.args.self.now.read c.index-b.result.now
    (omega (arith, c.requires, c.args.self.now.input.ok.0)) c.index-b.ensures)
    (record { pending_same = refl; fed_same = refl; ended_same = refl })

pub returns-in-Stuck-clause-value : goal.returns-in-Stuck-clause-value
returns-in-Stuck-clause-value c bytes steps h =
    byte_stuck c.args.self.now _ bytes steps h (record { pending_same = refl; fed_same = refl; ended_same = refl })
    c.index-b.result.now c.in_ok-take.field-0 _ c.at.result c.in_ok-take.ensures.exact c.in-Stuck.is
    (pending_byte c.args.self.now.input.items c.args.self.now.read c.index-b.result.now
    (omega (arith, c.requires, c.args.self.now.input.ok.0)) c.index-b.ensures)
    (omega (arith, c.requires), c.at.ensures.value)

pub returns-in-First-clause-nearer : goal.returns-in-First-clause-nearer
returns-in-First-clause-nearer c =
    let fewer : is_number c.take.new.self.mode < is_number c.args.self.now.machine.mode =
    first_nearer c.args.self.now.machine c.take.new.self c.index-b.result.now c.in_ok-take.field-0 c.in_ok-take.ensures.exact.moves
    c.in-First.is in
    omega (arith, fewer)
