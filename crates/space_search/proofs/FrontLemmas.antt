-- What the covering test asks of a slot, and what it then says of all settled labels.
use Rattle.std.proofs.Common.{◌≡◌, ℕ, zero, suc, ◌<◌, ◌≤◌, ◌+◌, inl, inr, List, [], length, get_or, Option, Some, Bool, true, false, refl, ap, arith, sym, ◌∙◌, subst}
use Rattle.std.proofs.lemmas.Option.{slice_get_read, slice_get_within, slice_get-get_or}
use Rattle.std.specs.Bool.{IsTrue}
use Rattle.std.specs.List.{slice_get, Contains}
use Rattle.space_search.specs.Books.{Books, IsSettled, IsCovered, IsUncovered, IsLater, IsCoveredAfter, IsSearch, asked_of}
use Rattle.space_search.specs.Blocks.{members_of, IsFloor}
use Rattle.space_search.specs.Fronts.{Asked, IsAsked, IsHead, FitTest, FitsTest, alone, front_at, member_of}
use Rattle.space_search.specs.Laws.{IsSpace}
use Rattle.space_search.specs.Rules.{IsUnder, LOW_BOUND, Rules}
use Rattle.space_search.specs.declared.fronts.Block.{Block}
use Rattle.space_search.specs.declared.fronts.Head.{Head}
use Rattle.space_search.specs.declared.fronts.Head.TheVariants.{One}
use Rattle.space_search.specs.declared.fronts.Member.{Member}
use Rattle.space_search.specs.declared.label.Label.{Label}
use Rattle.space_search.specs.declared.point.Point.{Point}
use Rattle.item_list.proofs.ListLemmas.{slice_get-same, Contains-none, Contains-first, Contains-cons_cases}
use Rattle.item_list.proofs.TestLemmas.{below-next}
use Rattle.space_search.proofs.BlockLemmas.{of-blocks}
use Rattle.space_search.proofs.PointLemmas.{under-under}
use Rattle.space_search.proofs.SameLemmas.{settled-within}

-- a test that isn't true is false
pub false-from_not : (b : Bool) → (IsTrue b → ⊥) → b ≡ false
false-from_not true h = absurd (h refl)
false-from_not false h = refl

-- the head of a slot as it is read
pub head-read :
    (heads : List Head) (slot : ℕ) (read head : Head) → slot < length heads → read ≡ get_or heads slot read → read ≡ head →
    slice_get heads slot ≡ Some head
head-read heads slot read head within is same =
    subst (λ (h : Head). slice_get heads slot ≡ Some h) same (slice_get_read heads (length heads) slot read refl within is)

-- what a slot is asked is of the front at its head
pub asked-at :
    {S : Type 0} (asked : Asked S) (slot : ℕ) (head : Head) (one : Member S) → slice_get asked.heads slot ≡ Some head →
    IsAsked asked slot one → Contains (front_at asked head) one
asked-at asked slot head one at is =
    subst (λ (h : Head). Contains (front_at asked h) one) (slice_get-same asked.heads slot is.head head is.at at) is.among

-- a front of one label has that label
pub alone-here :
    {S : Type 0} (labels : List (Label S)) (number : ℕ) (label : Label S) → slice_get labels number ≡ Some label →
    Contains (alone (slice_get labels number)) (member_of label)
alone-here {S} labels number label at =
    subst (λ (o : Option (Label S)). Contains (alone o) (member_of label)) (sym at) (Contains-first (member_of label) [])

-- and no other
pub alone-is :
    {S : Type 0} (labels : List (Label S)) (number : ℕ) (label : Label S) (one : Member S) →
    slice_get labels number ≡ Some label → Contains (alone (slice_get labels number)) one → member_of label ≡ one
alone-is {S} labels number label one at h =
    elim (Contains-cons_cases (member_of label) [] one
    (subst (λ (o : Option (Label S)). Contains (alone o) one) at h)) [
      | inl same ↦ same
      | inr none ↦ absurd (Contains-none one none)
    ]

-- none of the first labels of a front, so many of them, covers the state at this cost
abbrev pub IsTestedBelow : {S : Type 0} → Rules S → List (Member S) → S → ℕ → ℕ → Type 0
IsTestedBelow {S} rules front state cost index =
    (place : ℕ) (one : Member S) → place < index → slice_get front place ≡ Some one →
    rules.covers one.state one.cost state cost ≡ false

module _ {S : Type 0} (rules : Rules S) (front : List (Member S)) (state : S) (cost : ℕ) where
  -- one more doesn't
  pub tested-more :
      (index : ℕ) (last : Member S) → IsTestedBelow rules front state cost index → index < length front →
      last ≡ get_or front index last → rules.covers last.state last.cost state cost ≡ false →
      IsTestedBelow rules front state cost (index + 1)
  tested-more index last tested within is uncovers place one below at =
      elim (below-next place index below) [
        | inl earlier ↦ tested place one earlier at
        | inr here ↦
            let same : last ≡ one =
            slice_get-same front index last one (slice_get_read front (length front) index last refl within is)
            (subst (λ n. slice_get front n ≡ Some one) here at) in
            subst (λ (m : Member S). rules.covers m.state m.cost state cost ≡ false) same uncovers
      ]

  -- so none of them all does
  pub tested-all :
      (index : ℕ) → IsTestedBelow rules front state cost index → length front ≤ index → (one : Member S) →
      Contains front one → rules.covers one.state one.cost state cost ≡ false
  tested-all index tested whole one h =
      tested h.0 one (omega (arith, h.1, whole)) (slice_get-get_or front h.0 one h.1 ∙ ap Some h.2)

-- no label of the first blocks of a front, so many of them, covers the state at this cost
abbrev pub IsPassedBelow : {S : Type 0} → Rules S → List (Block S) → S → ℕ → ℕ → Type 0
IsPassedBelow {S} rules blocks state cost index =
    (place : ℕ) (block : Block S) → place < index → slice_get blocks place ≡ Some block →
    (one : Member S) → Contains block.members.items one → rules.covers one.state one.cost state cost ≡ false

module _ {S : Type 0} (rules : Rules S) (blocks : List (Block S)) (state : S) (cost : ℕ) where
  -- a block in whose turn none does
  pub passed-more :
      (index : ℕ) (last : Block S) → IsPassedBelow rules blocks state cost index → slice_get blocks index ≡ Some last →
      ((one : Member S) → Contains last.members.items one → rules.covers one.state one.cost state cost ≡ false) →
      IsPassedBelow rules blocks state cost (index + 1)
  passed-more index last passed there none place block below at =
      elim (below-next place index below) [
        | inl earlier ↦ passed place block earlier at
        | inr here ↦
            let same : last ≡ block =
            slice_get-same blocks index last block there (subst (λ n. slice_get blocks n ≡ Some block) here at) in
            subst (λ (b : Block S). (one : Member S) → Contains b.members.items one → rules.covers one.state one.cost state cost ≡ false)
            same none
      ]

  -- so none of all does
  pub passed-all :
      (index : ℕ) → IsPassedBelow rules blocks state cost index → length blocks ≤ index → (one : Member S) →
      Contains (members_of blocks) one → rules.covers one.state one.cost state cost ≡ false
  passed-all index passed whole one h =
      let s = of-blocks blocks one h in
      passed s.place s.block (omega (arith, whole, slice_get_within blocks s.place s.block s.at)) s.at one s.there

-- a block doesn't cover what its lower point doesn't lie under
pub passed-over :
    {S : Type 0} (rules : Rules S) (laws : IsSpace rules) (low : Point) (members : List (Member S)) (state : S) (cost : ℕ) →
    IsFloor rules low members → FitTest rules members → IsTrue (rules.is_valid state) →
    (IsUnder low (rules.point state cost) → ⊥) → (one : Member S) → Contains members one →
    rules.covers one.state one.cost state cost ≡ false
passed-over rules laws low members state cost floor fits valid apart one h =
    false-from_not (rules.covers one.state one.cost state cost)
    (λ covers.
    apart (under-under low (rules.point one.state one.cost) (rules.point state cost) (floor one h)
    (laws.covering.under one.state state one.cost cost (fits one h).valid valid covers)))

module _ {S : Type 0} (rules : Rules S) (laws : IsSpace rules) (kept : Books S) (search : IsSearch rules kept) where
  -- what a settled label costs is small enough to be compared
  pub settled-small : (place : ℕ) (label : Label S) → IsSettled kept place label → label.cost < LOW_BOUND
  settled-small place label s =
      let f = search.stands.reads.settled_follows place label s in
      omega (arith, f.bounded, settled-within kept place label s, search.stands.reads.few_settled)

  -- and its state is valid
  pub settled-valid : (place : ℕ) (label : Label S) → IsSettled kept place label → IsTrue (rules.is_valid label.state)
  settled-valid place label s = (search.stands.reads.settled_follows place label s).valid

  -- the space can be asked of what a slot is asked
  pub asked-fits : (slot : ℕ) (one : Member S) → IsAsked (asked_of kept) slot one → FitsTest rules one
  asked-fits slot one is =
      let s = search.index.inside slot one is in
      subst (λ (m : Member S). FitsTest rules m) s.is
      (record { valid = settled-valid s.place s.label s.settled; small = settled-small s.place s.label s.settled })

  module _ (state : S) (cost : ℕ) (later : IsLater rules kept state cost)
      (none : (one : Member S) → IsAsked (asked_of kept) (rules.slot state) one → rules.covers one.state one.cost state cost ≡ false) where
    -- where the front doesn't cover, no label does, since behind a needless one that did another would
    none-covers :
        (fuel place : ℕ) (label : Label S) → length kept.settled ≤ place + fuel → IsSettled kept place label →
        IsTrue (rules.covers label.state label.cost state cost) → ⊥
    none-covers zero place label enough s covers = omega (arith, settled-within kept place label s)
    none-covers (suc fuel) place label enough s covers =
        let same : rules.slot label.state ≡ rules.slot state =
        laws.covering.one_slot label.state state label.cost cost (settled-valid place label s) later.valid covers in
        elim (search.index.last place label s) [
          | inl is ↦
              let covered : rules.covers label.state label.cost state cost ≡ true = covers in
              let uncovered : rules.covers label.state label.cost state cost ≡ false =
              none (member_of label) (subst (λ n. IsAsked (asked_of kept) n (member_of label)) same is) in
              cc
          | inr needless ↦
              let c : IsCoveredAfter rules kept place state cost = needless state cost later covers in
              none-covers fuel c.place c.label (omega (arith, c.after)) c.settled c.covers
        ]

    -- so the state is uncovered at this cost
    pub uncovered-front : IsUncovered rules kept state cost
    uncovered-front place label s =
        false-from_not (rules.covers label.state label.cost state cost)
        (none-covers (length kept.settled) place label (omega arith) s)

module _ {S : Type 0} (rules : Rules S) (laws : IsSpace rules) (kept : Books S) (search : IsSearch rules kept) (state : S) (cost : ℕ)
    (later : IsLater rules kept state cost) (slot : ℕ) (is : slot ≡ rules.slot state) (read : Head)
    (reads : read ≡ get_or kept.heads slot read) where
  -- the slot is one of the space
  pub slot-within : slot < length kept.heads
  slot-within = omega (arith, is, laws.moves.slot state later.valid, search.index.slots)

  module _ (head : Head) (same : read ≡ head) where
    -- its head
    pub head-there : slice_get kept.heads slot ≡ Some head
    head-there = head-read kept.heads slot read head slot-within reads same

    -- its front
    pub head-is : IsHead (asked_of kept) head
    head-is = search.index.fronts.heads slot head head-there

    -- what stands in its front is asked
    front-asked : (one : Member S) → Contains (front_at (asked_of kept) head) one → IsAsked (asked_of kept) slot one
    front-asked one h = record { head = head; at = head-there; among = h }

    -- the space can be asked of that
    pub front-fits : (one : Member S) → Contains (front_at (asked_of kept) head) one → FitsTest rules one
    front-fits one h = asked-fits rules laws kept search slot one (front-asked one h)

    -- where one of the front covers, the state is covered
    pub front-covered :
        (one : Member S) → Contains (front_at (asked_of kept) head) one → IsTrue (rules.covers one.state one.cost state cost) →
        IsCovered rules kept state cost
    front-covered one h covers =
        let s = search.index.inside slot one (front-asked one h) in
        record {
          place = s.place;
          label = s.label;
          settled = s.settled;
          covers = subst (λ (m : Member S). IsTrue (rules.covers m.state m.cost state cost)) (sym s.is) covers;
        }

    -- where none of them does, it is uncovered
    pub front-uncovered :
        ((one : Member S) → Contains (front_at (asked_of kept) head) one → rules.covers one.state one.cost state cost ≡ false) →
        IsUncovered rules kept state cost
    front-uncovered none =
        uncovered-front rules laws kept search state cost later
        (λ one asked. none one
        (asked-at (asked_of kept) slot head one head-there (subst (λ n. IsAsked (asked_of kept) n one) (sym is) asked)))

  -- the only label of its front
  pub number-there :
      (number : ℕ) → read ≡ One number → (label : Label S) → label ≡ get_or kept.labels number label →
      slice_get kept.labels number ≡ Some label
  number-there number same label is =
      let h = head-is (One number) same in
      slice_get_read kept.labels (length kept.labels) number label refl (slice_get_within kept.labels number h.0 h.1) is
