-- What a search's lists are once the next label was dropped.
use Rattle.std.proofs.Common.{◌≡◌, ℕ, ◌+◌, List, ◌∷◌, Some, refl, arith, sym, ◌∙◌}
use Rattle.std.proofs.lemmas.List.Sorted.{length_permutation}
use Rattle.std.specs.List.Sorted.{IsPermutation}
use Rattle.space_search.specs.Books.{Books, IsLabel, IsCovered, IsAccounted, IsSearch, IsClosed, KeepsLabels}
use Rattle.space_search.specs.Queues.{Entry}
use Rattle.space_search.specs.Laws.{HasRank}
use Rattle.space_search.specs.Moves.{IsNext, Drops}
use Rattle.space_search.specs.Rules.{Rules}
use Rattle.space_search.specs.declared.label.Label.{Label}
use Rattle.space_search.proofs.SameLemmas.{follows-moved, keeps-same, keeps-back, stands-same, index-same}
use Rattle.space_search.proofs.TakeLemmas.{accounted-popped, left-queued}

-- two ranks of one state at one cost are equal
pub rank-unique :
    {S : Type 0} (rules : Rules S) (state : S) (cost a b : ℕ) → HasRank rules state cost a → HasRank rules state cost b → a ≡ b
rank-unique rules state cost a b p q =
    let one : Some p.low ≡ Some q.low = sym p.is ∙ q.is in
    let same : p.low ≡ q.low = cc in
    omega (arith, p.sum, q.sum)

-- the lists once the front entry was dropped
abbrev pub dropped : {S : Type 0} → Books S → List Entry → Books S
dropped kept rest =
    record { labels = kept.labels; queue = rest; settled = kept.settled; heads = kept.heads; many = kept.many }

-- the next label leaves the queue of a search in which everything is taken care of
pub record Leaving {S : Type 0} (rules : Rules S) (kept : Books S) (number : ℕ) (label : Label S) (rest : List Entry) : Type 0 where
  pub search : IsSearch rules kept
  pub closed : IsClosed rules kept
  pub next : IsNext rules kept number label
  pub popped : IsPermutation kept.queue (record { 0 = (next.rank, number) } ∷ rest)

module _ {S : Type 0} (rules : Rules S) (kept : Books S) (number : ℕ) (label : Label S) (rest : List Entry)
    (leaving : Leaving rules kept number label rest) where
  -- a covered label leaves the queue, and everything else stays
  pub drops : IsCovered rules kept label.state label.cost → Drops rules kept (dropped kept rest)
  drops covered =
      let same : (n : ℕ) (l : Label S) → IsLabel kept n l → IsLabel (dropped kept rest) n l = λ n l h. h in
      let to : KeepsLabels kept (dropped kept rest) = keeps-same rules kept (dropped kept rest) same leaving.search.stands refl in
      let back : KeepsLabels (dropped kept rest) kept = keeps-back rules kept (dropped kept rest) same leaving.search.stands refl in
      let moves : (state : S) (cost : ℕ) → IsAccounted rules kept state cost → IsAccounted rules (dropped kept rest) state cost =
      accounted-popped rules kept (dropped kept rest) number label (record { 0 = (leaving.next.rank, number) })
      (
      record {
        popped = leaving.popped;
        is = refl;
        there = leaving.next.there;
        same_labels = refl;
        grows = to;
        covered =
            record {
              place = covered.place;
              label = covered.label;
              settled = to covered.place covered.label covered.settled;
              covers = covered.covers;
            };
      }
      ) in
      record {
        kept =
            record {
              stands = stands-same rules kept (dropped kept rest) same leaving.search.stands refl;
              few = leaving.search.few;
              follows = λ n l h. follows-moved rules kept (dropped kept rest) _ _ l to (omega arith) (leaving.search.follows n l h);
              queued =
                  λ e h. leaving.search.queued e
                  (left-queued kept.queue (record { 0 = (leaving.next.rank, number) }) rest leaving.popped e h);
              above = λ p l r s h e inside.
                  leaving.search.above p l r (back p l s) h e
                  (left-queued kept.queue (record { 0 = (leaving.next.rank, number) }) rest leaving.popped e inside);
              index = index-same rules kept (dropped kept rest) same leaving.search.stands refl refl refl leaving.search.index;
            };
        closed =
            record {
              starts = λ n s c below is. moves s c (leaving.closed.starts n s c below is);
              steps =
                  λ p l below s i st c within step. moves st (l.cost + c) (leaving.closed.steps p l below (back p l s) i st c within step);
            };
        labels = refl;
        settled = refl;
        work = omega (arith, length_permutation _ _ leaving.popped);
      }
