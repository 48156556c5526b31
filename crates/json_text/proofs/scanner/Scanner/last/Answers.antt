-- By whether the end was said, and by what became of it.
use Rattle.std.proofs.Common.{refl, arith}
use Rattle.json_text.proofs.ScannerLemmas.{none_pending, last_more, end_number_told, end_whole_told, end_stuck_told}
use Rattle.json_text.proofs.scanner.Scanner.last.Goals as goal

pub returns-then-not-self-clause-value : goal.returns-then-not-self-clause-value
returns-then-not-self-clause-value c bytes steps h =
    last_more c.args.self.now bytes steps h
    (none_pending c.args.self.now.input.items c.args.self.now.read (omega (arith, c.requires, c.args.self.now.input.ok.0)))
    c.if-not-self.true

pub returns-in-Number-clause-value : goal.returns-in-Number-clause-value
returns-in-Number-clause-value c bytes steps h =
    end_number_told c.args.self.now _ bytes steps c.take_end.result h c.take_end.ensures.moves
    (none_pending c.args.self.now.input.items c.args.self.now.read (omega (arith, c.requires, c.args.self.now.input.ok.0)))
    (record { pending_same = refl; fed_same = refl; ended_same = refl }) c.if-not-self.false c.in-Number.is

pub returns-in-Whole-clause-value : goal.returns-in-Whole-clause-value
returns-in-Whole-clause-value c bytes steps h =
    end_whole_told c.args.self.now _ bytes steps c.take_end.result h c.take_end.ensures.moves
    (none_pending c.args.self.now.input.items c.args.self.now.read (omega (arith, c.requires, c.args.self.now.input.ok.0)))
    (record { pending_same = refl; fed_same = refl; ended_same = refl }) c.if-not-self.false c.in-Whole.is c.take_end.ensures.stays

pub returns-in-Stuck-clause-value : goal.returns-in-Stuck-clause-value
returns-in-Stuck-clause-value c bytes steps h =
    end_stuck_told c.args.self.now _ bytes steps c.take_end.result h c.take_end.ensures.moves
    (none_pending c.args.self.now.input.items c.args.self.now.read (omega (arith, c.requires, c.args.self.now.input.ok.0)))
    (record { pending_same = refl; fed_same = refl; ended_same = refl }) c.if-not-self.false
    c.at.result c.in-Stuck.is c.take_end.ensures.stays (omega (arith, c.requires), c.at.ensures.value)
