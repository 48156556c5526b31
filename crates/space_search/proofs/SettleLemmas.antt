-- What a search's lists are once the next label was settled.
use Rattle.std.proofs.Common.{◌≡◌, ℕ, ◌≤◌, ◌+◌, ◌⊎◌, inl, inr, List, length, false, refl, arith, sym, subst}
use Rattle.std.proofs.lemmas.List.Sorted.{length_permutation}
use Rattle.std.proofs.lemmas.Option.{slice_get_within, get_or_from_slice_get}
use Rattle.std.specs.List.{Contains}
use Rattle.space_search.specs.Books.{Books, IsLabel, IsSettled, Follows, IsCovered, IsAccounted, Reads, IsRising, Stands, IsSearch, KeepsLabels, Leaves}
use Rattle.space_search.specs.Queues.{Entry}
use Rattle.space_search.specs.Laws.{IsSpace, HasRank}
use Rattle.space_search.specs.Moves.{Settles}
use Rattle.space_search.specs.Rules.{Rules}
use Rattle.space_search.specs.declared.label.Label.{Label}
use Rattle.space_search.proofs.DropLemmas.{rank-unique}
use Rattle.space_search.proofs.GrowLemmas.{Writes, after, longer, now, grows, old-or_new, index-new}
use Rattle.item_list.proofs.ListLemmas.{slice_get-push_cases}
use Rattle.space_search.proofs.SameLemmas.{settled-within, follows-moved}
use Rattle.space_search.proofs.TakeLemmas.{accounted-popped, left-queued}

module _ {S : Type 0} (rules : Rules S) (laws : IsSpace rules) (kept : Books S) (number : ℕ) (label : Label S) (rest : List Entry)
    (w : Writes rules kept number label rest) where
  -- the entry of the label
  abbrev entry : Entry
  entry = record { 0 = (w.leaving.next.rank, number) }

  -- the lists afterwards
  abbrev next_books : Books S
  next_books = after rules kept number label rest w

  -- each settled label keeps its place
  more : KeepsLabels kept next_books
  more = grows rules kept number label rest w

  -- a settled label is an old one or the new one
  cases :
      (place : ℕ) (l : Label S) → IsSettled next_books place l →
      IsSettled kept place l ⊎ ((place ≡ length kept.settled) × (l ≡ label))
  cases = old-or_new rules kept number label rest w

  -- the new one comes from a start or a settled label
  follows-new : Follows rules kept (length kept.settled) label
  follows-new = w.leaving.search.follows number label w.leaving.next.there

  -- the settled labels read right
  reads-new : Reads rules next_books
  reads-new =
      record {
        few_settled = omega (arith, (longer rules kept number label rest w), w.room);
        settled_there = λ place n is.
            elim (slice_get-push_cases kept.settled number place n (rw w.is_settled at is)) [
              | inl old ↦ w.leaving.search.stands.reads.settled_there place n old
              | inr (last, same) ↦ (label, subst (λ k. IsLabel kept k label) same w.leaving.next.there)
            ];
        settled_follows = λ place l s.
            elim (cases place l s) [
              | inl old ↦
                  follows-moved rules kept next_books place place l more (omega arith)
                  (w.leaving.search.stands.reads.settled_follows place l old)
              | inr (last, same) ↦
                  subst (λ (k : Label S). Follows rules next_books place k) (sym same)
                  (follows-moved rules kept next_books (length kept.settled) place label more
                  (omega arith) follows-new)
            ];
      }

  -- the label that is settled ranks at least as high as any before it, and no higher than what waits
  rank-new : (low : ℕ) → HasRank rules label.state label.cost low → low ≡ w.leaving.next.rank
  rank-new low r = rank-unique rules label.state label.cost low w.leaving.next.rank r w.leaving.next.ranked

  -- its entry waited
  front : Contains kept.queue entry
  front = (
    0,
    slice_get_within kept.queue 0 entry w.leaving.next.first,
    get_or_from_slice_get kept.queue 0 entry entry w.leaving.next.first,
  )

  -- no settled label ranks above it
  below-new : (place : ℕ) (l : Label S) (low : ℕ) → IsSettled kept place l → HasRank rules l.state l.cost low → low ≤ w.leaving.next.rank
  below-new place l low s r = w.leaving.search.above place l low s r entry front

  -- the settled labels are in order
  rising-new : IsRising rules next_books
  rising-new =
      record {
        ranked = λ place l s.
            elim (cases place l s) [
              | inl old ↦ w.leaving.search.stands.rising.ranked place l old
              | inr (last, same) ↦ (
                w.leaving.next.rank,
                subst (λ (k : Label S). HasRank rules k.state k.cost w.leaving.next.rank) (sym same)
                    w.leaving.next.ranked,
              )
            ];
        rising = λ first second a b low high up p q ra rb.
            elim (cases second b q) [
              | inl old_b ↦
                  elim (cases first a p) [
                    | inl old_a ↦ w.leaving.search.stands.rising.rising first second a b low high up old_a old_b ra rb
                    | inr (last, same) ↦ absurd (omega (arith, settled-within kept second b old_b))
                  ]
              | inr (last, same) ↦
                  let high_is : high ≡ w.leaving.next.rank =
                  rank-new high (subst (λ (k : Label S). HasRank rules k.state k.cost high) same rb) in
                  elim (cases first a p) [
                    | inl old_a ↦ omega (arith, below-new first a low old_a ra, high_is)
                    | inr (last_a, same_a) ↦
                        let low_is : low ≡ w.leaving.next.rank =
                        rank-new low (subst (λ (k : Label S). HasRank rules k.state k.cost low) same_a ra) in
                        omega (arith, low_is, high_is)
                  ]
            ];
        apart = λ first second a b up p q.
            elim (cases second b q) [
              | inl old_b ↦
                  elim (cases first a p) [
                    | inl old_a ↦ w.leaving.search.stands.rising.apart first second a b up old_a old_b
                    | inr (last, same) ↦ absurd (omega (arith, settled-within kept second b old_b))
                  ]
              | inr (last, same) ↦
                  elim (cases first a p) [
                    | inl old_a ↦
                        subst (λ (k : Label S). rules.covers a.state a.cost k.state k.cost ≡ false) (sym same) (w.uncovered first a old_a)
                    | inr (last_a, same_a) ↦ absurd (omega arith)
                  ]
            ];
      }

  -- they stand with the new one
  stands-new : Stands rules next_books
  stands-new =
      record {
        reads = reads-new;
        no_goal = λ place l s.
            elim (cases place l s) [
              | inl old ↦ w.leaving.search.stands.no_goal place l old
              | inr (last, one) ↦ subst (λ (k : Label S). rules.is_goal k.state ≡ false) (sym one) w.no_goal
            ];
        rising = rising-new;
      }

  -- the label covers itself now
  own : IsCovered rules next_books label.state label.cost
  own =
      record {
        place = length kept.settled;
        label = label;
        settled = now rules kept number label rest w;
        covers = laws.covering.itself label.state label.cost follows-new.valid;
      }

  -- what was taken care of still is
  moves :
      (state : S) (cost : ℕ) → IsAccounted rules kept state cost →
      IsAccounted rules next_books state cost
  moves =
      accounted-popped rules kept next_books number label entry
      (
      record {
        popped = w.leaving.popped;
        is = refl;
        there = w.leaving.next.there;
        same_labels = refl;
        grows = more;
        covered = own;
      }
      )

  -- the lists are those of a search
  search-new : IsSearch rules next_books
  search-new =
      record {
        stands = stands-new;
        few = w.leaving.search.few;
        follows = λ n l h.
            follows-moved rules kept next_books (length kept.settled) (length w.settled) l more
            (omega (arith, (longer rules kept number label rest w))) (w.leaving.search.follows n l h);
        queued = λ e h. w.leaving.search.queued e (left-queued kept.queue entry rest w.leaving.popped e h);
        above = λ place l low s r e h.
            let there : Contains kept.queue e = left-queued kept.queue entry rest w.leaving.popped e h in
            elim (cases place l s) [
              | inl old ↦ w.leaving.search.above place l low old r e there
              | inr (last, one) ↦
                  let low_is : low ≡ w.leaving.next.rank = rank-new low (subst (λ (k : Label S). HasRank rules k.state k.cost low) one r) in
                  omega (arith, low_is, w.leaving.next.least e there)
            ];
        index = index-new rules kept number label rest w;
      }

  -- the next label was settled
  pub settles : Settles rules kept next_books number label
  settles =
      record {
        kept = search-new;
        starts = λ n s c below is. moves s c (w.leaving.closed.starts n s c below is);
        steps = λ place l below s i st c within step.
            elim (cases place l s) [
              | inl old ↦ moves st (l.cost + c) (w.leaving.closed.steps place l below old i st c within step)
              | inr (last, one) ↦ absurd (omega arith)
            ];
        now = now rules kept number label rest w;
        earlier = more;
        counted = (longer rules kept number label rest w);
        work = omega (arith, length_permutation _ _ w.leaving.popped);
      }

  -- and all settled labels still stand
  pub leaves-settled : Leaves rules kept next_books
  leaves-settled = record { stands = stands-new; keeps = more }
