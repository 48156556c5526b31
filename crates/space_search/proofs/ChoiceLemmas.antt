-- The way back from a label to its start.
use Rattle.std.proofs.Common.{◌≡◌, ℕ, ◌<◌, ◌-◌, List, [], ◌∷◌, ◌++◌, length, get_or, reverse, Some, refl, ap, arith, sym, ◌∙◌, subst, append_assoc}
use Rattle.std.proofs.lemmas.List.{reverse-append}
use Rattle.std.proofs.lemmas.Option.{slice_get_read, slice_get_within}
use Rattle.std.specs.List.{slice_get}
use Rattle.space_search.specs.Books.{Books, IsSettled, CameFrom, from_start, from_label, Follows, Reads}
use Rattle.space_search.specs.Rules.{Rules}
use Rattle.space_search.specs.View.{reached, choices_before, settled_of}
use Rattle.space_search.specs.declared.label.Label.{Label}
use Rattle.space_search.proofs.RunLemmas.{choices-start, choices-parent}
use Rattle.space_search.proofs.SameLemmas.{settled-within}

-- the last choice comes first in the way back
pushed : (back after : List ℕ) (choice : ℕ) → after ≡ back ++ choice ∷ [] → reverse after ≡ choice ∷ reverse back
pushed back after choice is = ap reverse is ∙ reverse-append back (choice ∷ [])

-- the label that was settled before this one and that it comes from
record Parent {S : Type 0} (kept : Books S) (below : ℕ) (label : Label S) : Type 0 where
  parent : Label S
  inside : label.parent - 1 < below
  settled : IsSettled kept (label.parent - 1) parent

module _ {S : Type 0} (rules : Rules S) (kept : Books S) (reads : Reads rules kept) (below : ℕ) (label : Label S)
    (f : Follows rules kept below label) where
  -- at a start the choices are whole
  pub choices-whole :
      (back after : List ℕ) → label.parent ≡ 0 → after ≡ back ++ label.choice ∷ [] →
      reverse after ≡ (reached (settled_of kept) label).choices ++ reverse back
  choices-whole back after none is =
      pushed back after label.choice is ∙
      ap (λ (c : List ℕ). (c ++ label.choice ∷ []) ++ reverse back) (sym (choices-start rules kept reads label none))

  module _ (some : 0 < label.parent) where
    -- a label that is no start has a parent
    parent-of : CameFrom rules kept below label → Parent kept below label
    parent-of (from_start none within is) = absurd (omega arith)
    parent-of (from_label place parent cost named inside settled within is sum) =
        let at : place ≡ label.parent - 1 = omega arith in
        record { parent = parent; inside = omega arith; settled = subst (λ p. IsSettled kept p parent) at settled }

    -- the place before is below this one
    pub place-below : label.parent - 1 < below
    place-below = (parent-of f.came).inside

    -- and is the place of a settled label
    pub place-within : label.parent - 1 < length kept.settled
    place-within = settled-within kept (label.parent - 1) (parent-of f.came).parent (parent-of f.came).settled

    module _ (number : ℕ) (read : number ≡ get_or kept.settled (label.parent - 1) number) where
      -- its number stands at that place
      at : slice_get kept.settled (label.parent - 1) ≡ Some number
      at = slice_get_read kept.settled (length kept.settled) (label.parent - 1) number refl place-within read

      -- and is the number of a label
      pub number-within : number < length kept.labels
      number-within =
          let there = reads.settled_there (label.parent - 1) number at in slice_get_within kept.labels number there.0 there.1

      module _ (before : Label S) (reads_before : before ≡ get_or kept.labels number before) where
        -- the label of that number is settled there
        settled-before : IsSettled kept (label.parent - 1) before
        settled-before =
            record {
              number = number;
              at = at;
              there = slice_get_read kept.labels (length kept.labels) number before refl number-within reads_before;
            }

        -- the label before follows from an earlier one in its turn
        pub follows-before : Follows rules kept (label.parent - 1) before
        follows-before = reads.settled_follows (label.parent - 1) before settled-before

        -- and the choices go on from it
        pub choices-on :
            (back after : List ℕ) → after ≡ back ++ label.choice ∷ [] →
            (reached (settled_of kept) before).choices ++ reverse after ≡ (reached (settled_of kept) label).choices ++ reverse back
        choices-on back after is =
            let first : choices_before (settled_of kept) label.parent ≡ (reached (settled_of kept) before).choices =
            choices-parent rules kept reads label before (label.parent - 1) (omega arith) settled-before in
            ap (λ (c : List ℕ). (reached (settled_of kept) before).choices ++ c) (pushed back after label.choice is) ∙
            sym (append_assoc (reached (settled_of kept) before).choices (label.choice ∷ []) (reverse back)) ∙
            ap (λ (c : List ℕ). (c ++ label.choice ∷ []) ++ reverse back) (sym first)
