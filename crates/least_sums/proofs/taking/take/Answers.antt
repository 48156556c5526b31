use Rattle.std.proofs.Common.{◌≤◌, sym, ◌∙◌, arith}
use Rattle.least_sums.proofs.PopLemmas.{popped-falls, popped-in, popped-now, popped-stale, popped-state}
use Rattle.least_sums.proofs.NearLemmas.{ended-at}
use Rattle.least_sums.proofs.taking.take.Goals.{then-sum+in_ok-spread, else-sum}
use Rattle.least_sums.proofs.taking.take.Goals as goal

pub entries-init : goal.entries-init
entries-init g c = record { state = c.requires.state; falls = omega arith; whole = λ is. is }

pub sum-requires : goal.sum-requires
sum-requires g c =
    let was = c.entries.invariant.state.is_state in
    let state = popped-state _ _ _ _ _ _ _ _ was c.in-Some.ensures.value in
    record { in_range = rw state.counted (popped-in _ _ _ _ _ _ _ _ was c.in-Some.ensures.value) }

pub spread-requires-clause-in_range : goal.spread-requires-clause-in_range
spread-requires-clause-in_range g c = popped-in _ _ _ _ _ _ _ _ c.entries.invariant.state.is_state c.in-Some.ensures.value

pub spread-requires-clause-state : goal.spread-requires-clause-state
spread-requires-clause-state g c = popped-state _ _ _ _ _ _ _ _ c.entries.invariant.state.is_state c.in-Some.ensures.value

pub spread-requires-clause-done : goal.spread-requires-clause-done
spread-requires-clause-done g c =
    popped-now _ _ _ _ _ _ _ _ c.entries.invariant.state.is_state c.in-Some.ensures.value c.nodes-nodes.ensures.lawful.roads
    c.entries.invariant.state.done

pub spread-requires-clause-roads : goal.spread-requires-clause-roads
spread-requires-clause-roads g c = c.nodes-nodes.ensures.lawful.roads

pub spread-requires-clause-priced : goal.spread-requires-clause-priced
spread-requires-clause-priced g c = c.requires.priced

pub returns-then-is_far : goal.returns-then-is_far
returns-then-is_far g c =
    let waiting = c.least_waiting.ensures in
    let most : g.N.Amount.number c.least_waiting.result ≤ c.in-Some.entry.0 = waiting.most in
    let near = c.entries.invariant.whole in
    let far = c.if-is_far.true in
    let whole = c.is_far.ensures.whole in
    record {
      takes = (
        ended-at _ _ _ _ _ _ _ _ c.entries.invariant.state.is_state c.in-Some.ensures.value
            (g.N.Amount.number c.least_waiting.result) c.entries.invariant.state.done most waiting.fits waiting.least,
        λ is. let never = whole (near is) in absurd (cc),
      );
    }

pub entries-preserved : goal.entries-preserved
entries-preserved g c =
    let was = c.entries.invariant.state in
    let now = popped-state _ _ _ _ _ _ _ _ was.is_state c.in-Some.ensures.value in
    let less = popped-falls _ _ _ _ _ _ _ _ was.is_state c.in-Some.ensures.value in
    let falls = c.entries.invariant.falls in
    elim c.if-sum.branch [
      | then-sum+in_ok-spread w ↦
          let spread = w.in_ok-spread.ensures in
          let most = spread.falls in
          record {
            state = rw w.board-is (record { is_state = spread.state; done = spread.done });
            falls = rw w.board-is (omega (arith, less, most, falls));
            whole = λ is. w.near-is ∙ w.near_behind-near.ensures.whole (c.entries.invariant.whole is);
          }
      | else-sum w ↦ record {
        state = rw w.board-is (record {
          is_state = now;
          done = popped-stale _ _ _ _ _ _ _ _ was.is_state c.in-Some.ensures.value
              (λ same. w.if-sum.false (same ∙ sym c.sum.ensures.value)) was.done;
        });
        falls = rw w.board-is (omega (arith, less, falls));
        whole = λ is. w.near-is ∙ c.entries.invariant.whole is;
      }
    ]
