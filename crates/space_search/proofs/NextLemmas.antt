-- What the front of the queue says of the next label.
use Rattle.std.proofs.Common.{◌≡◌, ℕ, List, [], length, get_or, Option, Some, None, MatchOption, refl, arith, subst}
use Rattle.std.proofs.lemmas.Option.{slice_get_read, slice_get_within, get_or_from_slice_get}
use Rattle.std.specs.Bool.{IsTrue}
use Rattle.std.specs.List.{slice_get, Contains}
use Rattle.space_search.specs.Rules.{Rules}
use Rattle.space_search.specs.Books.{Books, IsLater, IsSearch}
use Rattle.space_search.specs.Queues.{Entry, IsFront}
use Rattle.space_search.specs.Moves.{IsNext}
use Rattle.space_search.specs.declared.label.Label.{Label}
use Rattle.space_search.proofs.DropLemmas.{rank-unique}
use Rattle.item_list.proofs.ListLemmas.{slice_get-same}

-- the entry at the front waits
queued-first : (queue : List Entry) (entry : Entry) → slice_get queue 0 ≡ Some entry → Contains queue entry
queued-first queue entry first =
    (0, slice_get_within queue 0 entry first, get_or_from_slice_get queue 0 entry entry first)

module _ {S : Type 0} (rules : Rules S) (kept : Books S) (search : IsSearch rules kept) where
  -- the label at the front of the queue is the next one
  next-first : (number : ℕ) → IsFront kept.queue number → (label : Label S) × IsNext rules kept number label
  next-first number front =
      let entry : Entry = record { 0 = (front.rank, number) } in
      let l = search.queued entry (queued-first kept.queue entry front.first) in (
        l.0,
        record { there = l.1; rank = front.rank; ranked = l.2; first = front.first; least = front.least },
      )

  -- what the queue answers is the next label, or that nothing waits
  pub next-found :
      (found : Option ℕ) → MatchOption found (kept.queue ≡ []) (λ number. IsFront kept.queue number) →
      MatchOption found (kept.queue ≡ []) (λ number. (label : Label S) × IsNext rules kept number label)
  next-found None none = none
  next-found (Some number) front = next-first number front

-- the label that is read by the next label's number is that
pub next-read :
    {S : Type 0} (rules : Rules S) (kept : Books S) (number : ℕ) (label read : Label S) → IsNext rules kept number label →
    read ≡ get_or kept.labels number read → IsNext rules kept number read
next-read rules kept number label read next is =
    let within = slice_get_within kept.labels number label next.there in
    subst (λ l. IsNext rules kept number l)
    (slice_get-same kept.labels number label read next.there
    (slice_get_read kept.labels (length kept.labels) number read refl within is))
    next

-- the next label's state is valid
pub valid-next :
    {S : Type 0} (rules : Rules S) (kept : Books S) → IsSearch rules kept → (number : ℕ) (label read : Label S) →
    IsNext rules kept number label → read ≡ get_or kept.labels number read → IsTrue (rules.is_valid read.state)
valid-next rules kept search number label read next is =
    (search.follows number read (next-read rules kept number label read next is).there).valid

-- the next label ranks no less than any settled one
pub later-next :
    {S : Type 0} (rules : Rules S) (kept : Books S) → IsSearch rules kept → (number : ℕ) (label : Label S) →
    IsNext rules kept number label → IsLater rules kept label.state label.cost
later-next rules kept search number label next =
    let entry : Entry = record { 0 = (next.rank, number) } in
    record {
      valid = (search.follows number label next.there).valid;
      rank = next.rank;
      ranked = next.ranked;
      above = λ place old low high s r mine.
          let same : high ≡ next.rank = rank-unique rules label.state label.cost high next.rank mine next.ranked in
          omega (arith, same, search.above place old low s r entry (queued-first kept.queue entry next.first));
    }
