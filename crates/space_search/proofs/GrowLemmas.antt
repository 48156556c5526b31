-- The lists of the settled labels and the fronts of the slots with one label more.
use Rattle.std.proofs.Common.{◌≡◌, ℕ, ◌<◌, ◌+◌, ◌^◌, ◌⊎◌, inl, inr, List, [], ◌∷◌, ◌++◌, length, false, sym, ◌∙◌, subst, length-append}
use Rattle.space_search.specs.Books.{Books, IsLabel, IsSettled, IsUncovered, IsNeedless, IsIndex, KeepsLabels, asked_of}
use Rattle.space_search.specs.Fronts.{IsAsked, Joins, member_of}
use Rattle.space_search.specs.Laws.{Supersedes}
use Rattle.space_search.specs.Queues.{Entry}
use Rattle.space_search.specs.Rules.{Rules}
use Rattle.space_search.specs.declared.fronts.Block.{Block}
use Rattle.space_search.specs.declared.fronts.Head.{Head}
use Rattle.space_search.specs.declared.label.Label.{Label}
use Rattle.space_search.proofs.DropLemmas.{Leaving}
use Rattle.item_list.proofs.ListLemmas.{slice_get-append, slice_get-pushed, slice_get-push_cases, slice_get-same}
use Rattle.space_search.proofs.SameLemmas.{settled-within, needless-moved}

-- the lists once the front entry's label was settled
abbrev pub settled_books : {S : Type 0} → Books S → List Entry → List ℕ → List Head → List (List (Block S)) → Books S
settled_books kept rest settled heads many =
    record { labels = kept.labels; queue = rest; settled = settled; heads = heads; many = many }

-- The next label, which is no goal and which no settled label covers, leaves the queue, and is written into the
-- lists of the settled ones and into the front of its slot.
pub record Writes {S : Type 0} (rules : Rules S) (kept : Books S) (number : ℕ) (label : Label S) (rest : List Entry) : Type 0 where
  pub leaving : Leaving rules kept number label rest
  pub no_goal : rules.is_goal label.state ≡ false
  pub uncovered : IsUncovered rules kept label.state label.cost
  pub room : length kept.settled + 1 < 2 ^ 32
  pub settled : List ℕ
  pub heads : List Head
  pub many : List (List (Block S))
  pub is_settled : settled ≡ kept.settled ++ number ∷ []
  pub joins :
      Joins rules (asked_of kept) (record { labels = kept.labels; heads = heads; many = many }) (rules.slot label.state) (member_of label)

module _ {S : Type 0} (rules : Rules S) (kept : Books S) (number : ℕ) (label : Label S) (rest : List Entry)
    (w : Writes rules kept number label rest) where
  -- the lists afterwards
  abbrev pub after : Books S
  after = settled_books kept rest w.settled w.heads w.many

  -- one label more is settled
  pub longer : length w.settled ≡ length kept.settled + 1
  longer = rw w.is_settled (length-append kept.settled (number ∷ []))

  -- the new label stands at the end
  pub now : IsSettled after (length kept.settled) label
  now = record { number = number; at = rw w.is_settled (slice_get-pushed kept.settled number); there = w.leaving.next.there }

  -- and each settled label keeps its place
  pub grows : KeepsLabels kept after
  grows place l s =
      record {
        number = s.number;
        at = rw w.is_settled (slice_get-append kept.settled (number ∷ []) place s.number s.at);
        there = s.there;
      }

  -- a settled label is an old one or the new one
  pub old-or_new :
      (place : ℕ) (l : Label S) → IsSettled after place l →
      IsSettled kept place l ⊎ ((place ≡ length kept.settled) × (l ≡ label))
  old-or_new place l s =
      elim (slice_get-push_cases kept.settled number place s.number (rw w.is_settled at s.at)) [
        | inl old ↦ inl (record { number = s.number; at = old; there = s.there })
        | inr (last, same) ↦
            inr (last, slice_get-same kept.labels s.number l label s.there (subst (λ n. IsLabel kept n label) same w.leaving.next.there))
      ]

  -- what the new label supersedes is needless
  needless-new :
      (place : ℕ) (l : Label S) → IsSettled kept place l → Supersedes rules label.state label.cost l.state l.cost →
      IsNeedless rules after place l
  needless-new place l old supersedes state cost later covers =
      record {
        place = length kept.settled;
        label = label;
        settled = now;
        after = settled-within kept place l old;
        covers =
            supersedes state cost w.leaving.next.rank later.rank later.valid w.leaving.next.ranked later.ranked
            (later.above (length kept.settled) label w.leaving.next.rank later.rank now w.leaving.next.ranked later.ranked)
            covers;
      }

  -- the fronts with the new label
  pub index-new : IsIndex rules after
  index-new =
      record {
        slots = w.joins.slots ∙ w.leaving.search.index.slots;
        fronts = w.joins.fronts;
        floors = w.joins.floors;
        inside = λ slot one is.
            elim (w.joins.from slot one is) [
              | inl old ↦
                  let s = w.leaving.search.index.inside slot one old in
                  record {
                    place = s.place;
                    label = s.label;
                    settled = grows s.place s.label s.settled;
                    slot_is = s.slot_is;
                    is = s.is;
                  }
              | inr (here, same) ↦
                  record { place = length kept.settled; label = label; settled = now; slot_is = sym here; is = same }
            ];
        last = λ place l s.
            elim (old-or_new place l s) [
              | inr (last, one) ↦
                  inl (subst (λ (m : Label S). IsAsked (asked_of after) (rules.slot m.state) (member_of m)) (sym one) w.joins.new)
              | inl old ↦
                  elim (w.leaving.search.index.last place l old) [
                    | inr needless ↦ inr (needless-moved rules kept after place l grows needless)
                    | inl is ↦
                        elim (w.joins.rest (rules.slot l.state) (member_of l) is) [
                          | inl still ↦ inl still
                          | inr (here, supersedes) ↦ inr (needless-new place l old supersedes)
                        ]
                  ]
            ];
      }
