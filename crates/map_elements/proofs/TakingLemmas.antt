-- One more element behind those that were taken.
use Rattle.std.proofs.Common.{◌≡◌, ℕ, suc, ◌+◌, List, [], ◌∷◌, ◌++◌, length, Result, Ok, Err, refl, ap, arith, ◌∙◌}
use Rattle.item_list.specs.Answer.{and_then}
use Rattle.json_text.specs.Marks.{Step}
use Rattle.map_tables.specs.Draft.{Draft, empty}
use Rattle.map_tables.specs.declared.limits.Limits.{Limits}
use Rattle.map_tables.specs.declared.error.MapError.{MapError}
use Rattle.map_elements.specs.Elements.{Element, element_of}
use Rattle.map_elements.specs.Outcome.{take_element, take_values}
use Rattle.map_elements.specs.Reader.{IsRefused}

-- two stages that go on from one answer
then_both : {A B C E : Type 0} (r : Result A E) (all : A → Result C E) (first : A → Result B E) (later : B → Result C E)
    → ((a : A) → all a ≡ and_then (first a) later) → and_then r all ≡ and_then (and_then r first) later
then_both (Ok a) all first later same = same a
then_both (Err e) all first later same = refl

-- elements are taken one list behind the other
pub taken_on : (limits : Limits) (at : ℕ) (front back : List (List Step)) (draft : Draft)
    → take_values limits at (front ++ back) draft
    ≡ and_then (take_values limits at front draft) (λ more. take_values limits (at + length front) back more)
taken_on limits at [] back draft =
    let e : at ≡ at + 0 = omega arith in ap (λ n. take_values limits n back draft) e
taken_on limits at (value ∷ front) back draft =
    let e : suc at + length front ≡ at + suc (length front) = omega arith in
    then_both (element_of at value)
    (λ element. and_then (take_element limits element draft) (λ more. take_values limits (suc at) (front ++ back) more))
    (λ element. and_then (take_element limits element draft) (λ more. take_values limits (suc at) front more))
    (λ more. take_values limits (at + suc (length front)) back more)
    (λ element. then_both (take_element limits element draft)
    (λ more. take_values limits (suc at) (front ++ back) more)
    (λ more. take_values limits (suc at) front more)
    (λ more. take_values limits (at + suc (length front)) back more)
    (λ more. taken_on limits (suc at) front back more
    ∙ ap (λ n. and_then (take_values limits (suc at) front more) (λ later. take_values limits n back later)) e))

module _ (limits : Limits) (values : List (List Step)) (value : List Step) (at : ℕ) (draft : Draft)
    (here : at ≡ suc (length values)) (taken : take_values limits 1 values empty ≡ Ok draft) where
  -- what is taken behind them
  behind : (more : List (List Step)) → take_values limits 1 (values ++ value ∷ more) empty ≡ take_values limits at (value ∷ more) draft
  behind more =
      let e : 1 + length values ≡ at = omega (arith, here) in
      taken_on limits 1 values (value ∷ more) empty
      ∙ ap (λ r. and_then r (λ d. take_values limits (1 + length values) (value ∷ more) d)) taken
      ∙ ap (λ n. take_values limits n (value ∷ more) draft) e

  -- the next element goes into the draft
  pub next_taken : (element : Element) (next : Draft) → element_of at value ≡ Ok element → take_element limits element draft ≡ Ok next
      → take_values limits 1 (values ++ value ∷ []) empty ≡ Ok next
  next_taken element next is goes =
      behind []
      ∙ ap (λ r. and_then r (λ x. and_then (take_element limits x draft) (λ d. Ok d))) is
      ∙ ap (λ r. and_then r (λ d. Ok d)) goes

  -- the next value is no element
  pub shape_refused : (fault : MapError) → element_of at value ≡ Err fault → IsRefused limits values value fault
  shape_refused fault is more =
      behind more ∙ ap (λ r. and_then r (λ x. and_then (take_element limits x draft) (λ d. take_values limits (suc at) more d))) is

  -- the next element doesn't go into the draft
  pub element_is_refused : (element : Element) (fault : MapError) → element_of at value ≡ Ok element →
      take_element limits element draft ≡ Err fault
      → IsRefused limits values value fault
  element_is_refused element fault is refused more =
      behind more
      ∙ ap (λ r. and_then r (λ x. and_then (take_element limits x draft) (λ d. take_values limits (suc at) more d))) is
      ∙ ap (λ r. and_then r (λ d. take_values limits (suc at) more d)) refused
