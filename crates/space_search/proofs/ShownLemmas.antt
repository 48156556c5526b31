-- What a search shows of its settled labels is what its lists say of them.
use Rattle.std.proofs.Common.{◌≡◌, ℕ, zero, suc, ◌<◌, ◌≤◌, ◌+◌, List, [], ◌∷◌, ◌++◌, length, Option, Some, refl, ap, arith, sym, ◌∙◌, subst, length-append}
use Rattle.std.proofs.lemmas.Option.{slice_get_within}
use Rattle.std.specs.List.{slice_get}
use Rattle.space_search.specs.Books.{Books, IsSettled, CameFrom, from_start, from_label, Reads, KeepsLabels}
use Rattle.space_search.specs.Rules.{Rules}
use Rattle.space_search.specs.View.{Reached, reached, shown_from, choices_in, choices_before, consed, pick, settled_of, KeepsPlaces}
use Rattle.space_search.specs.declared.label.Label.{Label}
use Rattle.item_list.proofs.ListLemmas.{slice_get-append, slice_get-pushed, slice_get-same, slice_get-there}
use Rattle.space_search.proofs.SameLemmas.{settled-within}

-- each of these numbers has a label
abbrev HaveLabels : {S : Type 0} → List (Label S) → List ℕ → Type 0
HaveLabels {S} labels numbers =
    (place number : ℕ) → slice_get numbers place ≡ Some number → (label : Label S) × (slice_get labels number ≡ Some label)

-- where each number has a label, the labels stand at the places of their numbers
pick-at :
    {S : Type 0} (labels : List (Label S)) (numbers : List ℕ) → HaveLabels labels numbers →
    (place number : ℕ) (label : Label S) → slice_get numbers place ≡ Some number → slice_get labels number ≡ Some label →
    slice_get (pick labels numbers) place ≡ Some label
pick-at labels [] all place number label at there = cc
pick-at {S} labels (n ∷ ns) all zero number label at there =
    let same : n ≡ number = cc in
    let here : slice_get labels n ≡ Some label = subst (λ k. slice_get labels k ≡ Some label) (sym same) there in
    subst (λ (o : Option (Label S)). slice_get (consed o (pick labels ns)) 0 ≡ Some label) (sym here) refl
pick-at {S} labels (n ∷ ns) all (suc place) number label at there =
    let first = all 0 n refl in
    subst (λ (o : Option (Label S)). slice_get (consed o (pick labels ns)) (suc place) ≡ Some label) (sym first.1)
    (pick-at labels ns (λ p k h. all (suc p) k h) place number label at there)

-- and there are as many
pick-length :
    {S : Type 0} (labels : List (Label S)) (numbers : List ℕ) → HaveLabels labels numbers →
    length (pick labels numbers) ≡ length numbers
pick-length labels [] all = refl
pick-length {S} labels (n ∷ ns) all =
    let first = all 0 n refl in
    subst (λ (o : Option (Label S)). length (consed o (pick labels ns)) ≡ suc (length ns)) (sym first.1)
    (ap suc (pick-length labels ns (λ p k h. all (suc p) k h)))

-- the choices before a label's own are the same where its parent keeps its place
before-same :
    {S : Type 0} (done more : List (Reached S)) (parent : ℕ) → parent ≤ length done → KeepsPlaces done more →
    choices_before done parent ≡ choices_before more parent
before-same done more zero below keeps = refl
before-same done more (suc place) below keeps =
    let there = slice_get-there done place (omega arith) in
    ap choices_in (there.1 ∙ sym (keeps place there.0 there.1))

-- and so is the label as it is shown
pub reached-same :
    {S : Type 0} (done more : List (Reached S)) (label : Label S) → label.parent ≤ length done → KeepsPlaces done more →
    reached done label ≡ reached more label
reached-same done more label below keeps =
    ap (λ choices. record { state = label.state; cost = label.cost; choices = choices ++ label.choice ∷ [] })
    (before-same done more label.parent below keeps)

module _ {S : Type 0} where
  -- what is shown already stays
  shown-stays : (labels : List (Label S)) (done : List (Reached S)) → KeepsPlaces done (shown_from done labels)
  shown-stays [] done place label is = is
  shown-stays (first ∷ rest) done place label is =
      shown-stays rest (done ++ reached done first ∷ []) place label
      (slice_get-append done (reached done first ∷ []) place label is)

  -- one is shown for each label
  shown-length : (labels : List (Label S)) (done : List (Reached S)) → length (shown_from done labels) ≡ length done + length labels
  shown-length [] done = omega arith
  shown-length (first ∷ rest) done =
      omega (arith, shown-length rest (done ++ reached done first ∷ []), length-append done (reached done first ∷ []))

  -- each label is shown at its place, after those that were settled before it
  shown-at :
      (labels : List (Label S)) (done : List (Reached S)) (k place : ℕ) (label : Label S) → slice_get labels k ≡ Some label →
      place ≡ length done + k → label.parent ≤ place →
      slice_get (shown_from done labels) place ≡ Some (reached (shown_from done labels) label)
  shown-at [] done k place label at is below = cc
  shown-at (first ∷ rest) done zero place label at is below =
      let one : first ≡ label = cc in
      let more : List (Reached S) = done ++ reached done first ∷ [] in
      let here : place ≡ length done = omega arith in
      let there : slice_get (shown_from more rest) (length done) ≡ Some (reached done first) =
      shown-stays rest more (length done) (reached done first) (slice_get-pushed done (reached done first)) in
      let small : first.parent ≤ length done =
      subst (λ (l : Label S). l.parent ≤ length done) (sym one) (omega (arith, here, below)) in
      let same : reached done first ≡ reached (shown_from more rest) first =
      reached-same done (shown_from more rest) first small
      (λ p l h. shown-stays rest more p l (slice_get-append done (reached done first ∷ []) p l h)) in
      subst (λ (l : Label S). slice_get (shown_from more rest) place ≡ Some (reached (shown_from more rest) l)) one
      (subst (λ n. slice_get (shown_from more rest) n ≡ Some (reached (shown_from more rest) first)) (sym here)
      (there ∙ ap Some same))
  shown-at (first ∷ rest) done (suc k) place label at is below =
      shown-at rest (done ++ reached done first ∷ []) k place label at
      (omega (arith, length-append done (reached done first ∷ []))) below

-- a label that is shown at a place is the one that was settled there
pub record Settled {S : Type 0} (kept : Books S) (place : ℕ) (shown : Reached S) : Type 0 where
  pub label : Label S
  pub settled : IsSettled kept place label
  pub is : reached (settled_of kept) label ≡ shown

-- a label's parent was settled before it
pub parent-below :
    {S : Type 0} (rules : Rules S) (kept : Books S) (below : ℕ) (label : Label S) → CameFrom rules kept below label → label.parent ≤ below
parent-below rules kept below label (from_start none within is) = omega arith
parent-below rules kept below label (from_label place parent cost named inside settled within is sum) = omega arith

module _ {S : Type 0} (rules : Rules S) (kept : Books S) (reads : Reads rules kept) where
  -- as many labels are shown as are settled
  pub shown-count : length (settled_of kept) ≡ length kept.settled
  unfolding settled_of
  shown-count =
      omega (arith, shown-length (pick kept.labels kept.settled) [], pick-length kept.labels kept.settled reads.settled_there)

  -- a settled label is shown at its place
  pub shown-settled :
      (place : ℕ) (label : Label S) → IsSettled kept place label →
      slice_get (settled_of kept) place ≡ Some (reached (settled_of kept) label)
  unfolding settled_of
  shown-settled place label s =
      shown-at (pick kept.labels kept.settled) [] place place label
      (pick-at kept.labels kept.settled reads.settled_there place s.number label s.at s.there) (omega arith)
      (parent-below rules kept place label (reads.settled_follows place label s).came)

  -- and no others are
  pub settled-shown : (place : ℕ) (shown : Reached S) → slice_get (settled_of kept) place ≡ Some shown → Settled kept place shown
  settled-shown place shown at =
      let number = slice_get-there kept.settled place (omega (arith, slice_get_within (settled_of kept) place shown at, shown-count)) in
      let label = reads.settled_there place number.0 number.1 in
      let s : IsSettled kept place label.0 = record { number = number.0; at = number.1; there = label.1 } in
      record {
        label = label.0;
        settled = s;
        is = slice_get-same (settled_of kept) place (reached (settled_of kept) label.0) shown (shown-settled place label.0 s) at;
      }

-- settled labels that keep their places are shown as before
module _ {S : Type 0} (rules : Rules S) (before after : Books S) (reads : Reads rules before) (reads_after : Reads rules after)
    (keeps : KeepsLabels before after) where
  -- the choices before a label are as before, where those of its parent are
  same-parent :
      (parent : ℕ) → parent ≤ length before.settled →
      ((place : ℕ) (label : Label S) → place + 1 ≡ parent → IsSettled before place label →
      reached (settled_of before) label ≡ reached (settled_of after) label) →
      choices_before (settled_of before) parent ≡ choices_before (settled_of after) parent
  same-parent zero below earlier = refl
  same-parent (suc place) below earlier =
      let number = slice_get-there before.settled place (omega arith) in
      let label = reads.settled_there place number.0 number.1 in
      let s : IsSettled before place label.0 = record { number = number.0; at = number.1; there = label.1 } in
      let old = shown-settled rules before reads place label.0 s in
      let new = shown-settled rules after reads_after place label.0 (keeps place label.0 s) in
      ap choices_in (old ∙ ap Some (earlier place label.0 (omega arith) s) ∙ sym new)

  -- a label is shown as before, where those settled before it are
  same-label :
      (place : ℕ) (label : Label S) → IsSettled before place label →
      ((p : ℕ) (l : Label S) → p < place → IsSettled before p l → reached (settled_of before) l ≡ reached (settled_of after) l) →
      reached (settled_of before) label ≡ reached (settled_of after) label
  same-label place label s earlier =
      let small : label.parent ≤ place = parent-below rules before place label (reads.settled_follows place label s).came in
      ap (λ choices. record { state = label.state; cost = label.cost; choices = choices ++ label.choice ∷ [] })
      (same-parent label.parent (omega (arith, small, settled-within before place label s))
      (λ p l is h. earlier p l (omega (arith, small, is)) h))

  -- so each settled label is
  same-below :
      (fuel place : ℕ) (label : Label S) → place ≤ fuel → IsSettled before place label →
      reached (settled_of before) label ≡ reached (settled_of after) label
  same-below zero place label enough s = same-label place label s (λ p l below h. absurd (omega arith))
  same-below (suc fuel) place label enough s = same-label place label s (λ p l below h. same-below fuel p l (omega arith) h)

  -- what is shown keeps its places
  pub places-kept : KeepsPlaces (settled_of before) (settled_of after)
  places-kept place shown at =
      let old : Settled before place shown = settled-shown rules before reads place shown at in
      shown-settled rules after reads_after place old.label (keeps place old.label old.settled) ∙
      ap Some (sym (same-below place place old.label (omega arith) old.settled) ∙ old.is)
