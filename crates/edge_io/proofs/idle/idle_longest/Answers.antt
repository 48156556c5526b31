-- Which connection was idle longest, after each entry and after all.
use Rattle.std.proofs.Common.{ℕ, ◌+◌, length, Option, Some, None, sym, subst, rules}
use Rattle.std.specs.Map.Iter.{deref_pair}
use Rattle.std.proofs.lemmas.List.{length_push}
use Rattle.std.proofs.lemmas.Map.Iter.{iter_end, iter_turn}
use Rattle.edge_io.specs.declared.idle.Idle.{Idle}
use Rattle.edge_io.proofs.IdleLemmas.{IsBestOf, IsBestOf-more, none_is_idle, one_is_idle}
use Rattle.edge_io.proofs.idle.idle_longest.Goals as goal

pub held-preserved : goal.held-preserved
held-preserved g c =
    let held = c.args.held.now in
    let waiting = c.args.waiting.now.items in
    let turn =
    iter_turn deref_pair held.entries c.held.yielded c.into_iter-id-iterator.result c.held.id-iterator c.next.new.self
    c.next.result (search rules) c.held.yielded_by (c.in-Some.id, c.in-Some.peer) c.in-Some.is c.next.ensures.steps in
    let more =
    IsBestOf-more waiting held.entries (length c.held.yielded) c.in-Some.id.now c.in-Some.peer.now c.held.best turn.1
    c.held.invariant in
    subst (λ (n : ℕ). IsBestOf waiting held.entries n c.after_one-best.result) (sym (length_push c.held.yielded _))
    (subst (λ (best : Option Idle). IsBestOf waiting held.entries (length c.held.yielded + 1) best)
    (sym c.after_one-best.ensures.exact) more)

pub returns-in-Some-best : goal.returns-in-Some-best
returns-in-Some-best g c =
    let held = c.args.held.now in
    let waiting = c.args.waiting.now.items in
    let end =
    iter_end deref_pair held.entries c.held.yielded c.into_iter-id-iterator.result c.held.id-iterator c.next.new.self
    c.next.result (search rules) c.held.yielded_by c.in-None.is c.next.ensures.steps in
    record {
      exact = one_is_idle held waiting c.in-Some-best.idle c.iter-id-items.ensures.ordered
          (subst (λ (n : ℕ). IsBestOf waiting held.entries n (Some c.in-Some-best.idle)) end.1
          (subst (λ (best : Option Idle). IsBestOf waiting held.entries (length c.held.yielded) best) c.in-Some-best.is
          c.held.invariant));
    }

pub returns-in-None-best : goal.returns-in-None-best
returns-in-None-best g c =
    let held = c.args.held.now in
    let waiting = c.args.waiting.now.items in
    let end =
    iter_end deref_pair held.entries c.held.yielded c.into_iter-id-iterator.result c.held.id-iterator c.next.new.self
    c.next.result (search rules) c.held.yielded_by c.in-None.is c.next.ensures.steps in
    record {
      exact = none_is_idle held waiting
          (subst (λ (n : ℕ). IsBestOf waiting held.entries n None) end.1
          (subst (λ (best : Option Idle). IsBestOf waiting held.entries (length c.held.yielded) best) c.in-None-best.is
          c.held.invariant));
    }
