-- A text that is read without a fault has no beginning with one.
use Rattle.std.proofs.Common.{◌≡◌, ℕ, suc, Bool, true, false, List, [], ◌∷◌, ◌++◌, Result, Ok, Err, refl, sym, ap, ◌∙◌, subst, is_some}
use mathlib.Core.Bool.{false≢true}
use Rattle.item_list.specs.Answer.{and_then}
use Rattle.json_text.specs.Marks.{Begins, Step}
use Rattle.json_text.specs.Reading.{Reads}
use Rattle.json_text.specs.declared.step.Verdict.{Verdict}
use Rattle.json_text.specs.declared.step.Verdict.TheVariants.{BadAt, More, Whole}
use Rattle.map_elements.specs.Elements.{Element, element_of}
use Rattle.map_elements.specs.Outcome.{ComesTo, draft_of, elements_list, outcome_of, take_element, take_values, verdict_on, whole_elements}
use Rattle.map_tables.specs.Draft.{Draft, empty}
use Rattle.map_tables.specs.declared.error.MapError.{MapError}
use Rattle.map_tables.specs.declared.limits.Limits.{Limits}
use Rattle.made_routes.proofs.EntryLemmas.{elements-grow}

-- the laws of readings
pub record ReadingLaws : Type 0 where
  pub found : (bytes : List ℕ) (ended : Bool) → (steps : List Step) × (verdict : Verdict) × Reads bytes ended steps verdict
  pub only : (bytes : List ℕ) (ended : Bool) (steps others : List Step) (verdict other : Verdict) →
      Reads bytes ended steps verdict → Reads bytes ended others other → (steps ≡ others) × (verdict ≡ other)
  pub grows : (bytes more : List ℕ) (ended : Bool) (steps all : List Step) (verdict last : Verdict) →
      Reads bytes false steps verdict → Reads (bytes ++ more) ended all last → Begins steps all
  pub stays : (bytes more : List ℕ) (ended : Bool) (steps : List Step) (at : ℕ) →
      Reads bytes false steps (BadAt at) → Reads (bytes ++ more) ended steps (BadAt at)

-- the fault of some values is that of more
take-fault : (limits : Limits) (at : ℕ) (values more : List (List Step)) (draft : Draft) (fault : MapError) →
    take_values limits at values draft ≡ Err fault → take_values limits at (values ++ more) draft ≡ Err fault
take-fault limits at [] more draft fault h = absurd (cc)
take-fault limits at (value ∷ values) more draft fault h =
    by_element (element_of at value) (λ next. take-fault limits (suc at) values more next fault) h
  where
    by_draft : (r : Result Draft MapError) →
        ((next : Draft) → take_values limits (suc at) values next ≡ Err fault →
        take_values limits (suc at) (values ++ more) next ≡ Err fault) →
        and_then r (λ next. take_values limits (suc at) values next) ≡ Err fault →
        and_then r (λ next. take_values limits (suc at) (values ++ more) next) ≡ Err fault
    by_draft (Ok next) rest h = rest next h
    by_draft (Err e) rest h = h

    by_element : (r : Result Element MapError) →
        ((next : Draft) → take_values limits (suc at) values next ≡ Err fault →
        take_values limits (suc at) (values ++ more) next ≡ Err fault) →
        and_then r (λ element. and_then (take_element limits element draft) (λ next. take_values limits (suc at) values next)) ≡ Err fault →
        and_then r (λ element. and_then (take_element limits element draft) (λ next. take_values limits (suc at) (values ++ more) next))
        ≡ Err fault
    by_element (Ok element) rest h = by_draft (take_element limits element draft) rest h
    by_element (Err e) rest h = h

-- the fault of the elements of some steps is that of more
draft-fault : (limits : Limits) (steps more : List Step) (fault : MapError) → draft_of limits steps ≡ Err fault →
    draft_of limits (steps ++ more) ≡ Err fault
draft-fault limits steps more fault h =
    let grown = elements-grow steps more in
    ap (λ vs. take_values limits 1 vs empty) grown.same
    ∙ take-fault limits 1 (whole_elements (elements_list steps)) grown.rest empty fault h

-- what a whole text comes to is what its elements come to
whole-draft : (limits : Limits) (steps : List Step) (draft : Draft) → outcome_of limits steps Whole ≡ Ok draft →
    draft_of limits steps ≡ Ok draft
whole-draft limits steps draft h = by_draft (draft_of limits steps) (is_some (elements_list steps)) h
  where
    by_draft : (r : Result Draft MapError) (b : Bool) → and_then r (λ d. verdict_on d b Whole) ≡ Ok draft → r ≡ Ok draft
    by_draft (Ok d) true h = h
    by_draft (Ok d) false h = absurd (cc)
    by_draft (Err e) b h = absurd (cc)

module _ (laws : ReadingLaws) (limits : Limits) (text : List ℕ) (steps : List Step) (draft : Draft)
    (reads : Reads text true steps Whole) (good : outcome_of limits steps Whole ≡ Ok draft) where
  -- no beginning of such a text has a fault
  pub no-fault-before : (front rest : List ℕ) (fault : MapError) → front ++ rest ≡ text → ComesTo limits front false (Err fault) → ⊥
  no-fault-before front rest fault whole comes =
      by_draft (draft_of limits comes.steps) refl comes.verdict comes.reads comes.same
    where
      all : Reads (front ++ rest) true steps Whole
      all = subst (λ (t : List ℕ). Reads t true steps Whole) (sym whole) reads

      by_draft : (r : Result Draft MapError) → draft_of limits comes.steps ≡ r → (verdict : Verdict) →
          Reads front false comes.steps verdict →
          and_then r (λ d. verdict_on d (is_some (elements_list comes.steps)) verdict) ≡ Err fault → ⊥
      by_draft (Err e) is verdict seen h =
          let begins = laws.grows front rest true comes.steps steps verdict Whole seen all in
          let same : draft_of limits steps ≡ Err e = ap (draft_of limits) begins.same ∙ draft-fault limits comes.steps begins.rest e is in
          let ok : draft_of limits steps ≡ Ok draft = whole-draft limits steps draft good in
          absurd (cc)
      by_draft (Ok d) is More seen h = absurd (cc)
      by_draft (Ok d) is Whole seen h = absurd (false≢true seen.fits.0)
      by_draft (Ok d) is (BadAt at) seen h =
          let bad = laws.stays front rest true comes.steps at seen in
          let same : Whole ≡ BadAt at = (laws.only (front ++ rest) true steps comes.steps Whole (BadAt at) all bad).1 in
          absurd (cc)

  -- whatever such a text comes to is this
  pub comes-once : (outcome : Result Draft MapError) → ComesTo limits text true outcome → outcome ≡ Ok draft
  comes-once outcome comes =
      let one = laws.only text true comes.steps steps comes.verdict Whole comes.reads reads in
      sym comes.same ∙ ap (λ s. outcome_of limits s comes.verdict) one.0 ∙ ap (λ v. outcome_of limits steps v) one.1 ∙ good
