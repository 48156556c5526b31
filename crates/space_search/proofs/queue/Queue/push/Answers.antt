use Rattle.std.proofs.Common.{◌∷◌, heap_items, arith, subst}
use Rattle.std.specs.List.Sorted.{IsPermutation}
use Rattle.space_search.specs.Queues.{waiting}
use Rattle.space_search.proofs.QueueLemmas.{puts-narrow, puts-wide}
use Rattle.space_search.proofs.queue.Queue.push.Goals as goal
use Rattle.space_search.proofs.queue.Queue.push.Goals.{in-Ok, in-Err, in-Ok-push, in-Err-push}

pub returns-after-push : goal.returns-after-push
returns-after-push c =
    let it = c.self.inside in
    elim c.match-push.branch [
      | in-Ok w ↦
          rw w.result-is
          (record {
            puts =
                subst
                (λ q. IsPermutation (record { 0 = (c.args.rank, c.args.number) } ∷ q) (waiting (heap_items c.push.new.self) (heap_items it.wide)))
                c.self.view_is
                (puts-narrow (heap_items it.narrow) (heap_items c.push.new.self) (heap_items it.wide) c.args.rank c.args.number
                (omega (arith, c.if-number-lt-NUMBERS.true)) w.in-Ok.ensures.permutation);
          })
      | in-Err w ↦ rw w.result-is (record { puts = tt })
    ]

pub returns-after-push-2 : goal.returns-after-push-2
returns-after-push-2 c =
    let it = c.self.inside in
    elim c.match-push-2.branch [
      | in-Ok-push w ↦
          rw w.result-is
          (record {
            puts =
                subst
                (λ q. IsPermutation (record { 0 = (c.args.rank, c.args.number) } ∷ q) (waiting (heap_items it.narrow) (heap_items c.push-else-rank-lt-RANKS.new.self)))
                c.self.view_is
                (puts-wide (heap_items it.narrow) (heap_items it.wide) (heap_items c.push-else-rank-lt-RANKS.new.self) _
                w.in-Ok-push.ensures.permutation);
          })
      | in-Err-push w ↦ rw w.result-is (record { puts = tt })
    ]
