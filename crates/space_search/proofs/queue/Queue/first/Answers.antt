use Rattle.std.proofs.Common.{◌%◌, ◌^◌, heap_items, refl, sym, ◌∙◌, arith, subst}
use Rattle.space_search.specs.Queues.{IsFront}
use Rattle.space_search.proofs.QueueLemmas.{front-narrow, front-wide}
use Rattle.space_search.proofs.queue.Queue.first.Goals as goal

pub returns-in-Some : goal.returns-in-Some
returns-in-Some c =
    let it = c.self.inside in
    record {
      front =
          subst (λ q. IsFront q (c.in-Some.entry.now.0 % 2 ^ 24)) c.self.view_is
          (front-narrow (heap_items it.narrow) (heap_items it.wide) c.self.invariant
          (sym c.is_narrow_first.ensures.value ∙ c.if-is_narrow_first.true) c.in-Some.entry.now
          (omega (arith, c.in-Some.ensures.variant.0 refl, it.narrow.data.ok.0)) c.in-Some.ensures.lookup);
    }

pub returns-in-Some-peek : goal.returns-in-Some-peek
returns-in-Some-peek c =
    let it = c.self.inside in
    record {
      front =
          subst (λ q. IsFront q c.in-Some-peek.entry.now.0.1) c.self.view_is
          (front-wide (heap_items it.narrow) (heap_items it.wide) c.self.invariant
          (sym c.is_narrow_first.ensures.value ∙ c.if-is_narrow_first.false) c.in-Some-peek.entry.now
          (omega (arith, c.in-Some-peek.ensures.variant.0 refl, it.wide.data.ok.0)) c.in-Some-peek.ensures.lookup);
    }
