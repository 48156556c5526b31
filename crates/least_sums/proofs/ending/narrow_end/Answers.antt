use Rattle.std.proofs.Common.{None, refl, lit<, arith}
use Rattle.least_sums.specs.States.{state_of}
use Rattle.least_sums.specs.declared.amount.TheConstants.{NARROW_FAR}
use Rattle.least_sums.proofs.EndLemmas.{kept-below, kept-least}
use Rattle.least_sums.proofs.NearLemmas.{ended-none, ended-some, kept-near, near-below, up-to-all}
use Rattle.least_sums.proofs.ending.narrow_end.Goals as goal

pub invariant_of-result : goal.invariant_of-result
invariant_of-result c =
    let e = c.requires.ended in
    let board = c.args.board in
    let ended = ended-some e.0 e.1 e.2 NARROW_FAR c.in-Some.radius c.args.radius (state_of (λ n. n) board) c.in-Some.is e.3 in
    near-below c.in-Some.radius board.sums (omega (arith, ended.fits))

pub returns-in-Some-clause-exact : goal.returns-in-Some-clause-exact
returns-in-Some-clause-exact c roads prices target was =
    let board = c.args.board in
    let ended = ended-some roads prices target NARROW_FAR c.in-Some.radius c.args.radius (state_of (λ n. n) board) c.in-Some.is was in
    kept-near roads prices target NARROW_FAR c.in-Some.radius board.sums (state_of (λ n. n) board) ended refl

pub returns-in-Some-clause-small : goal.returns-in-Some-clause-small
returns-in-Some-clause-small c =
    let e = c.requires.ended in
    let board = c.args.board in
    let ended = ended-some e.0 e.1 e.2 NARROW_FAR c.in-Some.radius c.args.radius (state_of (λ n. n) board) c.in-Some.is e.3 in
    near-below c.in-Some.radius board.sums (omega (arith, ended.fits))

pub invariant_of-result-in-None : goal.invariant_of-result-in-None
invariant_of-result-in-None c =
    let e = c.requires.ended in
    let board = c.args.board in
    let final = ended-none e.0 e.1 e.2 NARROW_FAR c.args.radius (state_of (λ n. n) board) c.in-None.is e.3 in
    kept-below e.0 e.1 e.2 NARROW_FAR board.sums (state_of (λ n. n) board) final refl

pub returns-clause-exact : goal.returns-clause-exact
returns-clause-exact c roads prices target was =
    let board = c.args.board in
    let final = ended-none roads prices target NARROW_FAR c.args.radius (state_of (λ n. n) board) c.in-None.is was in
    up-to-all roads prices target (record { sums = _; radius = None })
    (kept-least roads prices target NARROW_FAR board.sums (state_of (λ n. n) board) final refl c.if-board.false (lit< tt)) refl

pub returns-clause-small : goal.returns-clause-small
returns-clause-small c =
    let e = c.requires.ended in
    let board = c.args.board in
    let final = ended-none e.0 e.1 e.2 NARROW_FAR c.args.radius (state_of (λ n. n) board) c.in-None.is e.3 in
    kept-below e.0 e.1 e.2 NARROW_FAR board.sums (state_of (λ n. n) board) final refl
