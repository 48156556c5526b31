use Rattle.std.proofs.Common.{◌≡◌, ◌∷◌, Some, heap_items, sym, ◌∙◌, subst}
use Rattle.std.specs.List.{slice_get}
use Rattle.std.specs.List.Sorted.{IsPermutation}
use Rattle.space_search.specs.Queues.{waiting}
use Rattle.space_search.proofs.QueueLemmas.{takes-narrow, takes-wide}
use Rattle.space_search.proofs.queue.Queue.pop.Goals as goal

pub returns-then-is_narrow_first-clause-takes : goal.returns-then-is_narrow_first-clause-takes
returns-then-is_narrow_first-clause-takes c top =
    let it = c.self.inside in
    let e = c.pop-taken.ensures in
    let rest = heap_items c.pop-taken.new.self in
    subst (λ q. slice_get q 0 ≡ Some top → IsPermutation q (top ∷ waiting rest (heap_items it.wide))) c.self.view_is
    (takes-narrow (heap_items it.narrow) rest (heap_items it.wide) c.pop-taken.result _
    (record { top = e.top; permutation = e.permutation; variant = e.variant; counted = it.narrow.data.ok.0 })
    (sym c.is_narrow_first.ensures.value ∙ c.if-is_narrow_first.true) top)

pub returns-else-is_narrow_first-clause-takes : goal.returns-else-is_narrow_first-clause-takes
returns-else-is_narrow_first-clause-takes c top =
    let it = c.self.inside in
    let e = c.pop-taken-else-is_narrow_first.ensures in
    let rest = heap_items c.pop-taken-else-is_narrow_first.new.self in
    subst (λ q. slice_get q 0 ≡ Some top → IsPermutation q (top ∷ waiting (heap_items it.narrow) rest)) c.self.view_is
    (takes-wide (heap_items it.narrow) (heap_items it.wide) rest c.pop-taken-else-is_narrow_first.result _
    (record { top = e.top; permutation = e.permutation; variant = e.variant; counted = it.wide.data.ok.0 })
    (sym c.is_narrow_first.ensures.value ∙ c.if-is_narrow_first.false) top)
