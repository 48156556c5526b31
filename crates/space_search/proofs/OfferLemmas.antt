-- What an offered label changes in a search's lists.
use Rattle.std.proofs.Common.{◌≡◌, ℕ, ◌<◌, ◌≤◌, ◌+◌, ◌⊎◌, inl, inr, List, [], ◌∷◌, ◌++◌, length, Some, refl, ap, arith, sym, subst, length-append}
use Rattle.std.specs.List.{slice_get, Contains}
use Rattle.std.specs.List.Sorted.{IsPermutation}
use Rattle.std.proofs.lemmas.List.Sorted.{Contains-permutation, IsPermutation-sym, length_permutation}
use Rattle.space_search.specs.Books.{Books, IsLabel, IsSettled, Follows, IsSearch, IsAccounted, by_queue, RanksAbove, Extends, Leaves, KeepsLabels, work_left}
use Rattle.space_search.specs.Queues.{Entry}
use Rattle.space_search.specs.Laws.{HasRank}
use Rattle.space_search.specs.Moves.{Offers}
use Rattle.space_search.specs.Rules.{Rules}
use Rattle.space_search.specs.declared.label.Label.{Label}
use Rattle.item_list.proofs.ListLemmas.{slice_get-append, slice_get-pushed, slice_get-push_cases, Contains-cons_cases, Contains-first, Contains-rest}
use Rattle.space_search.proofs.SameLemmas.{follows-moved, keeps-same, keeps-back, stands-same, index-same}

-- nothing changes in no step
pub extends-refl : {S : Type 0} (kept : Books S) → Extends kept kept
extends-refl kept = record { labels = λ n l h. h; queue = λ e h. h; settled = refl }

-- nor in what is left to do
pub work-same : {S : Type 0} (kept : Books S) → work_left kept ≤ work_left kept
work-same kept = omega arith

-- nothing changes where the label needn't wait
pub offers-accounted :
    {S : Type 0} (rules : Rules S) (kept : Books S) (label : Label S) → IsSearch rules kept →
    IsAccounted rules kept label.state label.cost → Offers rules kept kept label
offers-accounted rules kept label search accounted =
    record { kept = search; accounted = accounted; extends = extends-refl kept; work = omega arith }

-- a search leaves its labels where nothing changes
pub leaves-same : {S : Type 0} (rules : Rules S) (kept : Books S) → IsSearch rules kept → Leaves rules kept kept
leaves-same rules kept search = record { stands = search.stands; keeps = λ place label s. s }

-- the lists once a label was put at the end of the labels and into the queue
abbrev pub offered : {S : Type 0} → Books S → List (Label S) → List Entry → Books S
offered kept labels queue =
    record { labels = labels; queue = queue; settled = kept.settled; heads = kept.heads; many = kept.many }

-- a label goes to the end of the labels and into the queue
pub record Queues {S : Type 0} (rules : Rules S) (kept : Books S) (label : Label S) (queue : List Entry) : Type 0 where
  pub entry : Entry
  pub rank : ℕ
  pub follows : Follows rules kept (length kept.settled) label
  pub above : RanksAbove rules kept label.state label.cost
  pub ranked : HasRank rules label.state label.cost rank
  pub room : length kept.labels < 4294967295
  pub is : entry.0 ≡ (rank, length kept.labels)
  pub queued : IsPermutation (entry ∷ kept.queue) queue

module _ {S : Type 0} (rules : Rules S) (kept : Books S) (label : Label S) (labels : List (Label S)) (queue : List Entry)
    (search : IsSearch rules kept) (pushed : labels ≡ kept.labels ++ label ∷ []) where
  -- each label keeps its number
  stays : (number : ℕ) (old : Label S) → IsLabel kept number old → slice_get labels number ≡ Some old
  stays number old h = rw pushed (slice_get-append kept.labels (label ∷ []) number old h)

  -- the new label has the next number
  arrives : slice_get labels (length kept.labels) ≡ Some label
  arrives = rw pushed (slice_get-pushed kept.labels label)

  -- also where the queue found no memory, all settled labels still read right
  pub leaves-pushed : Leaves rules kept (offered kept labels queue)
  leaves-pushed =
      record {
        stands = stands-same rules kept (offered kept labels queue) stays search.stands refl;
        keeps = keeps-same rules kept (offered kept labels queue) stays search.stands refl;
      }

  module _ (q : Queues rules kept label queue) where
    -- what waits is the new entry or waited before
    from_queue : (e : Entry) → Contains queue e → (q.entry ≡ e) ⊎ Contains kept.queue e
    from_queue e h =
        Contains-cons_cases q.entry kept.queue e
        (Contains-permutation queue (q.entry ∷ kept.queue) e (IsPermutation-sym _ _ q.queued) h)

    -- and both wait
    into_queue : (e : Entry) → Contains (q.entry ∷ kept.queue) e → Contains queue e
    into_queue e h = Contains-permutation (q.entry ∷ kept.queue) queue e q.queued h

    -- there is one label more
    longer : length labels ≡ length kept.labels + 1
    longer = rw pushed (length-append kept.labels (label ∷ []))

    -- each settled label keeps its place
    to : KeepsLabels kept (offered kept labels queue)
    to = keeps-same rules kept (offered kept labels queue) stays search.stands refl

    -- and no other is settled
    back : KeepsLabels (offered kept labels queue) kept
    back = keeps-back rules kept (offered kept labels queue) stays search.stands refl

    -- the entry has the label's rank
    entry_rank : q.entry.0.0 ≡ q.rank
    entry_rank = ap (λ (p : ℕ × ℕ). p.0) q.is

    -- and its number
    entry_number : q.entry.0.1 ≡ length kept.labels
    entry_number = ap (λ (p : ℕ × ℕ). p.1) q.is

    -- by which it is found
    entry_there : slice_get labels q.entry.0.1 ≡ Some label
    entry_there = subst (λ n. slice_get labels n ≡ Some label) (sym entry_number) arrives

    -- each label comes from a start or a settled label
    follows-next :
        (number : ℕ) (old : Label S) → IsLabel (offered kept labels queue) number old →
        Follows rules (offered kept labels queue) (length kept.settled) old
    follows-next number old h =
        elim (slice_get-push_cases kept.labels label number old (rw pushed at h)) [
          | inl there ↦ follows-moved rules kept (offered kept labels queue) _ _ old to (omega arith) (search.follows number old there)
          | inr (at, same) ↦
              subst (λ l. Follows rules (offered kept labels queue) (length kept.settled) l) same
              (follows-moved rules kept (offered kept labels queue) _ _ label to (omega arith) q.follows)
        ]

    -- each entry is a label with its rank
    queued-next :
        (e : Entry) → Contains queue e →
        (old : Label S) × IsLabel (offered kept labels queue) e.0.1 old × HasRank rules old.state old.cost e.0.0
    queued-next e h =
        elim (from_queue e h) [
          | inl same ↦
              subst
              (λ (f : Entry). (old : Label S) × IsLabel (offered kept labels queue) f.0.1 old × HasRank rules old.state old.cost f.0.0)
              same
              (label, entry_there, subst (λ r. HasRank rules label.state label.cost r) (sym entry_rank) q.ranked)
          | inr old ↦ let w = search.queued e old in (w.0, stays e.0.1 w.0 w.1, w.2)
        ]

    -- what waits ranks no less than what is settled
    above-next :
        (place : ℕ) (old : Label S) (low : ℕ) → IsSettled (offered kept labels queue) place old →
        HasRank rules old.state old.cost low → (e : Entry) → Contains queue e → low ≤ e.0.0
    above-next place old low s r e h =
        elim (from_queue e h) [
          | inl same ↦
              subst (λ (f : Entry). low ≤ f.0.0) same
              (subst (λ n. low ≤ n) (sym entry_rank) (q.above place old low q.rank (back place old s) r q.ranked))
          | inr there ↦ search.above place old low (back place old s) r e there
        ]

    -- the lists are those of a search
    search-next : IsSearch rules (offered kept labels queue)
    search-next =
        record {
          stands = stands-same rules kept (offered kept labels queue) stays search.stands refl;
          few = omega (arith, longer, q.room);
          follows = follows-next;
          queued = queued-next;
          above = above-next;
          index = index-same rules kept (offered kept labels queue) stays search.stands refl refl refl search.index;
        }

    -- and the label was offered
    pub offers-pushed : Offers rules kept (offered kept labels queue) label
    offers-pushed =
        record {
          kept = search-next;
          accounted =
              by_queue (
              record {
                label = label;
                entry = q.entry;
                queued = into_queue q.entry (Contains-first q.entry kept.queue);
                there = entry_there;
                state_is = refl;
                cost_is = refl;
              }
              );
          extends =
              record {
                labels = stays;
                queue = λ e h. into_queue e (Contains-rest q.entry kept.queue e h);
                settled = refl;
              };
          work = omega (arith, longer, length_permutation (q.entry ∷ kept.queue) queue q.queued);
        }
