-- What a search knows while steps are listed, and that what a list leaves out is taken care of.
use Rattle.std.proofs.Common.{◌≡◌, ℕ, ◌<◌, ◌+◌, ◌++◌, inl, inr, List, [], ◌∷◌, length, get_or, Option, Some, None, unwrap_or, arith, ap, sym, ◌∙◌, subst}
use Rattle.std.specs.Bool.{IsTrue}
use Rattle.std.specs.List.{Contains, slice_get}
use Rattle.std.proofs.lemmas.Option.{none-some, slice_get-get_or, slice_get_within, unwrap_or-slice_get}
use Rattle.std.proofs.lemmas.List.Elements.{Contains-get_or, Contains-append_left, Contains-append_right, Contains-append_cases}
use Rattle.item_list.proofs.ListLemmas.{slice_get-push_cases, Contains-none}
use Rattle.space_search.specs.Books.{Books, IsAccounted, by_label, HasSteps, IsSearch, asked_of}
use Rattle.space_search.specs.Fronts.{Asked, AreFronts, IsAsked}
use Rattle.space_search.specs.Known.{AreKnown, AreRising, IsKnown, LeavesKnown, known_fronts}
use Rattle.space_search.specs.Laws.{IsSpace}
use Rattle.space_search.specs.Listed.{listed, listed_below, steps_of}
use Rattle.space_search.specs.Rules.{Rules}
use Rattle.space_search.specs.declared.fronts.Member.{Member}
use Rattle.space_search.specs.declared.known.Known.{Known}
use Rattle.space_search.specs.declared.label.Label.{Label}
use Rattle.space_search.specs.declared.step.Step.{Step}
use Rattle.space_search.proofs.FrontLemmas.{asked-fits}
use Rattle.space_search.proofs.ListedLemmas.{has-step, is-step, listed-none, listed-next, of-listed}

-- what a search knows fits its space, and what that covers is taken care of
module _ {S : Type 0} (rules : Rules S) (kept : Books S) (search : IsSearch rules kept) (known : Known S)
    (same : known_fronts known ≡ asked_of kept) where
  pub known-fit : IsSpace rules → AreKnown rules known
  known-fit laws =
      record {
        fronts = subst (λ (f : Asked S). AreFronts f) (sym same) search.index.fronts;
        slots = ap (λ (f : Asked S). length f.heads) same ∙ search.index.slots;
        fits = λ one k.
            asked-fits rules laws kept search k.slot one (subst (λ (f : Asked S). IsAsked f k.slot one) same k.asked);
      }

  pub known-accounted : (state : S) (cost : ℕ) → IsKnown rules known state cost → IsAccounted rules kept state cost
  known-accounted state cost k =
      let s = search.index.inside k.is.slot k.one (subst (λ (f : Asked S). IsAsked f k.is.slot k.one) same k.is.asked) in
      by_label (
      record {
        place = s.place;
        label = s.label;
        settled = s.settled;
        covers = subst (λ (m : Member S). IsTrue (rules.covers m.state m.cost state cost)) (sym s.is) k.covers;
      }
      )

-- what stands at a place is one of the list
at-contains : {X : Type 0} (items : List X) (place : ℕ) (one : X) → slice_get items place ≡ Some one → Contains items one
at-contains items place one at =
    (place, slice_get_within items place one at, sym (unwrap_or-slice_get items place one) ∙ ap (λ o. unwrap_or o one) at)

-- no steps stand in order
none-rise : {S : Type 0} → AreRising {S = S} []
none-rise a b first second below is-first is-second = absurd (none-some first is-first)

-- steps stand in order still where one whose number is above theirs comes to the end
adds-rise :
    {S : Type 0} (before : List (Step S)) (last : Step S) → AreRising before →
    ((one : Step S) → Contains before one → one.choice < last.choice) → AreRising (before ++ last ∷ [])
adds-rise before last rise above a b first second below is-first is-second =
    elim (slice_get-push_cases before last b second is-second) [
      | inl b-there ↦
          elim (slice_get-push_cases before last a first is-first) [
            | inl a-there ↦ rise a b first second below a-there b-there
            | inr a-last ↦ absurd (omega (arith, a-last.0, below, slice_get_within before b second b-there))
          ]
      | inr b-last ↦
          elim (slice_get-push_cases before last a first is-first) [
            | inl a-there ↦ rw (← b-last.1) (above first (at-contains before a first a-there))
            | inr a-last ↦ absurd (omega (arith, a-last.0, b-last.0, below))
          ]
    ]

-- none is no item
none-is : {X : Type 0} (found : Option X) (x : X) → found ≡ None → found ≡ Some x → ⊥
none-is found x none some = cc

-- the list of steps below a number, and what of them is listed
module _ {S : Type 0} (rules : Rules S) (known : Known S) (cost : ℕ) (step : ℕ → Option (S × ℕ)) where
  -- nothing is listed of none
  pub leaves-none : (items : List (Step S)) → items ≡ [] → LeavesKnown rules known cost (listed_below step 0) items
  leaves-none items none =
      record {
        from = λ one there. absurd (Contains-none one (subst (λ (l : List (Step S)). Contains l one) none there));
        rising = subst (λ (l : List (Step S)). AreRising l) (sym none) none-rise;
        rest = λ one there. absurd (Contains-none one (subst (λ (l : List (Step S)). Contains l one) (listed-none step) there));
      }

  -- a step that is listed comes to the end
  pub leaves-adds :
      (number : ℕ) (before after : List (Step S)) (found : S × ℕ) →
      LeavesKnown rules known cost (listed_below step number) before → Some found ≡ step number →
      after ≡ before ++ listed number (Some found) → LeavesKnown rules known cost (listed_below step (number + 1)) after
  leaves-adds number before after found so_far is adds =
      let next = listed-next step number in
      let last : listed number (Some found) ≡ listed number (step number) = ap (listed number) is in
      let more : after ≡ before ++ listed number (step number) = adds ∙ ap (λ l. before ++ l) last in
      record {
        from = λ one there.
            subst (λ (l : List (Step S)). Contains l one) (sym next)
            (elim (Contains-append_cases before (listed number (step number)) one
            (subst (λ (l : List (Step S)). Contains l one) more there)) [
              | inl earlier ↦ Contains-append_left (listed_below step number) (listed number (step number)) one (so_far.from one earlier)
              | inr now ↦ Contains-append_right (listed_below step number) (listed number (step number)) one now
            ]);
        rising = subst (λ (l : List (Step S)). AreRising l) (sym adds)
            (adds-rise before (record { choice = number; state = found.0; cost = found.1 }) so_far.rising
            (λ one there. (is-step step number one (so_far.from one there)).0));
        rest = λ one there.
            elim (Contains-append_cases (listed_below step number) (listed number (step number)) one
            (subst (λ (l : List (Step S)). Contains l one) next there)) [
              | inl earlier ↦
                  elim (so_far.rest one earlier) [
                    | inl has ↦
                        inl (subst (λ (l : List (Step S)). Contains l one) (sym more)
                        (Contains-append_left before (listed number (step number)) one has))
                    | inr covered ↦ inr covered
                  ]
              | inr now ↦
                  inl (subst (λ (l : List (Step S)). Contains l one) (sym more)
                  (Contains-append_right before (listed number (step number)) one now))
            ];
      }

  -- one that a known label covers may be left out
  pub leaves-known :
      (number : ℕ) (before : List (Step S)) → LeavesKnown rules known cost (listed_below step number) before →
      ((state : S) (paid : ℕ) → step number ≡ Some (state, paid) → IsKnown rules known state (cost + paid)) →
      LeavesKnown rules known cost (listed_below step (number + 1)) before
  leaves-known number before so_far covered =
      let next = listed-next step number in
      record {
        from = λ one there.
            subst (λ (l : List (Step S)). Contains l one) (sym next)
            (Contains-append_left (listed_below step number) (listed number (step number)) one (so_far.from one there));
        rising = so_far.rising;
        rest = λ one there.
            elim (Contains-append_cases (listed_below step number) (listed number (step number)) one
            (subst (λ (l : List (Step S)). Contains l one) next there)) [
              | inl earlier ↦ so_far.rest one earlier
              | inr now ↦ inr (covered one.state one.cost (of-listed step number (step number) one now).1)
            ];
      }

  -- one that isn't permitted is no step
  pub leaves-skips :
      (number : ℕ) (before : List (Step S)) → LeavesKnown rules known cost (listed_below step number) before →
      step number ≡ None → LeavesKnown rules known cost (listed_below step (number + 1)) before
  leaves-skips number before so_far none =
      leaves-known number before so_far (λ state paid is. absurd (none-is (step number) (state, paid) none is))

-- what stands at a place of such a list is a permitted step
pub step-at :
    {S : Type 0} (rules : Rules S) (known : Known S) (state : S) (cost : ℕ) (items : List (Step S)) (place : ℕ) (one : Step S) →
    LeavesKnown rules known cost (steps_of rules state) items → place < length items → one ≡ get_or items place one →
    (one.choice < rules.steps state) × (rules.step state one.choice ≡ Some (one.state, one.cost))
step-at {S} rules known state cost items place one leaves within is =
    is-step (rules.step state) (rules.steps state) one
    (leaves.from one (subst (Contains items) (sym is) (Contains-get_or items place one within)))

-- once all that is listed was offered, all steps are taken care of
pub all-offered :
    {S : Type 0} (rules : Rules S) (known : Known S) (kept : Books S) (label : Label S) (items : List (Step S)) →
    LeavesKnown rules known label.cost (steps_of rules label.state) items →
    ((state : S) (cost : ℕ) → IsKnown rules known state cost → IsAccounted rules kept state cost) →
    ((place : ℕ) (one : Step S) → place < length items → slice_get items place ≡ Some one →
    IsAccounted rules kept one.state (label.cost + one.cost)) →
    HasSteps rules kept label (rules.steps label.state)
all-offered {S} rules known kept label items leaves covered offered number state cost below is =
    let one : Step S = record { choice = number; state = state; cost = cost } in
    elim (leaves.rest one (has-step (rules.step label.state) (rules.steps label.state) number state cost below is)) [
      | inl there ↦ offered there.0 one there.1 (slice_get-get_or items there.0 one there.1 ∙ ap Some there.2)
      | inr known_one ↦ covered state (label.cost + cost) known_one
    ]
