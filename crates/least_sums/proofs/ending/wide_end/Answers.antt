use Rattle.std.proofs.Common.{None, refl, lit<, lit≤}
use Rattle.least_sums.specs.States.{state_of}
use Rattle.least_sums.specs.declared.amount.TheConstants.{WIDE_FAR}
use Rattle.least_sums.proofs.EndLemmas.{kept-below, kept-least}
use Rattle.least_sums.proofs.NearLemmas.{up-to-all}
use Rattle.least_sums.proofs.ending.wide_end.Goals as goal

pub invariant_of-result : goal.invariant_of-result
invariant_of-result c =
    let e = c.requires.ended in
    kept-below e.0 e.1 e.2 WIDE_FAR c.args.board.sums (state_of (λ n. n) c.args.board) e.3 refl

pub returns : goal.returns
returns c =
    let e = c.requires.ended in
    let board = c.args.board in
    record {
      exact = λ roads prices target final.
          up-to-all roads prices target (record { sums = _; radius = None })
          (kept-least roads prices target WIDE_FAR board.sums (state_of (λ n. n) board) final refl
          (final.is_state.uncut (lit≤ tt)) (lit< tt)) refl;
      small = kept-below e.0 e.1 e.2 WIDE_FAR board.sums (state_of (λ n. n) board) e.3 refl;
      whole = refl;
    }
