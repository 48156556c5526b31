-- Where one more step leads within the list of elements, and behind it.
use Rattle.std.proofs.Common.{◌≡◌, ℕ, zero, suc, Bool, true, false, List, [], ◌∷◌, ◌++◌, append_assoc, Option, Some, None, refl, sym, ap, ◌∙◌}
use Rattle.std.proofs.lemmas.List.{append-nil}
use Rattle.std.specs.Prelude.{if◌then◌else◌, is_some}
use Rattle.json_text.specs.declared.mode.Bracket.{Bracket}
use Rattle.json_text.specs.Marks.{Step}
use Rattle.map_elements.specs.Entries.{Entry, entries_from, whole_entry, depth_after, by_depth, whole_values}
use Rattle.item_list.specs.Answer.{and_then}
use Rattle.map_tables.specs.Draft.{empty}
use Rattle.map_tables.specs.declared.limits.Limits.{Limits}
use Rattle.map_tables.specs.declared.error.MapError.{MapError}
use Rattle.map_elements.specs.Outcome.{elements_list, take_values, verdict_on, whole_elements}
use Rattle.map_elements.specs.Reader.{goes_on, IsInList, IsPast, IsNever, IsFault, IsRefused}
use Rattle.map_elements.proofs.PlaceLemmas.{onto, entries_on}

-- the values of whole entries, one list behind the other
pub whole_values-append : (front back : List Entry) → whole_values (front ++ back) ≡ whole_values front ++ whole_values back
whole_values-append [] back = refl
whole_values-append (entry ∷ front) back = by_whole entry.is_whole (whole_values-append front back)
  where
    by_whole : (b : Bool) → whole_values (front ++ back) ≡ whole_values front ++ whole_values back
        → (if b then entry.value ∷ whole_values (front ++ back) else whole_values (front ++ back))
        ≡ (if b then entry.value ∷ whole_values front else whole_values front) ++ whole_values back
    by_whole true same = ap (λ vs. entry.value ∷ vs) same
    by_whole false same = same

module _ (steps : List Step) (depth : ℕ) (value : List Step) (values : List (List Step)) (inside : IsInList steps depth value values) where
  -- what is known of the elements
  now : List Step → Option (List Entry)
  now rest = Some (inside.entries ++ entries_from inside.name value depth rest)

  -- a step within an element
  pub element_goes_on : (s : Step) (still : ℕ) → goes_on depth s ≡ true → depth_after depth s ≡ suc still
      → IsInList (steps ++ s ∷ []) (suc still) (value ++ s ∷ []) values
  unfolding now
  element_goes_on s still h e = record {
    name = inside.name;
    entries = inside.entries;
    from = onto steps now (λ rest. Some (inside.entries ++ entries_from inside.name (value ++ s ∷ []) (suc still) rest)) s inside.from
        (λ rest. ap (λ es. Some (inside.entries ++ es))
        (entries_on inside.name value depth s rest h
        ∙ ap (λ d. by_depth d (whole_entry inside.name (value ++ s ∷ []) ∷ entries_from None [] zero rest)
        (λ still. entries_from inside.name (value ++ s ∷ []) still rest)) e));
    whole = inside.whole;
  }

  -- what the elements are where this step ends one
  ended : (s : Step) → goes_on depth s ≡ true → depth_after depth s ≡ zero → (rest : List Step)
      → elements_list ((steps ++ s ∷ []) ++ rest) ≡
      Some (inside.entries ++ whole_entry inside.name (value ++ s ∷ []) ∷ entries_from None [] zero rest)
  unfolding now
  ended s h e = onto steps now (λ rest. Some (inside.entries ++ whole_entry inside.name (value ++ s ∷ []) ∷ entries_from None [] zero rest))
      s inside.from
      (λ rest. ap (λ es. Some (inside.entries ++ es))
      (entries_on inside.name value depth s rest h
      ∙ ap (λ d. by_depth d (whole_entry inside.name (value ++ s ∷ []) ∷ entries_from None [] zero rest)
      (λ still. entries_from inside.name (value ++ s ∷ []) still rest)) e))

  -- the last step of an element
  pub element_ends : (s : Step) → goes_on depth s ≡ true → depth_after depth s ≡ zero
      → IsInList (steps ++ s ∷ []) zero [] (values ++ (value ++ s ∷ []) ∷ [])
  element_ends s h e = record {
    name = None;
    entries = inside.entries ++ whole_entry inside.name (value ++ s ∷ []) ∷ [];
    from = λ rest. ended s h e rest
        ∙ ap Some (sym (append_assoc inside.entries (whole_entry inside.name (value ++ s ∷ []) ∷ []) (entries_from None [] zero rest)));
    whole = whole_values-append inside.entries (whole_entry inside.name (value ++ s ∷ []) ∷ [])
        ∙ ap (λ vs. vs ++ (value ++ s ∷ []) ∷ []) inside.whole;
  }

  -- an element that ends here and is refused is the fault of all that may follow
  pub element_refused : (limits : Limits) (s : Step) (fault : MapError) → goes_on depth s ≡ true → depth_after depth s ≡ zero
      → IsRefused limits values (value ++ s ∷ []) fault → IsFault limits (steps ++ s ∷ []) fault
  element_refused limits s fault h e refused rest verdict =
      let entries : List Entry = inside.entries ++ whole_entry inside.name (value ++ s ∷ []) ∷ entries_from None [] zero rest in
      let is : elements_list ((steps ++ s ∷ []) ++ rest) ≡ Some entries = ended s h e rest in
      let all : whole_values entries ≡ values ++ (value ++ s ∷ []) ∷ whole_values (entries_from None [] zero rest) =
      whole_values-append inside.entries (whole_entry inside.name (value ++ s ∷ []) ∷ entries_from None [] zero rest)
      ∙ ap (λ vs. vs ++ (value ++ s ∷ []) ∷ whole_values (entries_from None [] zero rest)) inside.whole in
      ap (λ o. and_then (take_values limits 1 (whole_elements o) empty)
      (λ draft. verdict_on draft (is_some (elements_list ((steps ++ s ∷ []) ++ rest))) verdict)) is
      ∙ ap (λ vs. and_then (take_values limits 1 vs empty)
      (λ draft. verdict_on draft (is_some (elements_list ((steps ++ s ∷ []) ++ rest))) verdict)) all
      ∙ ap (λ r. and_then r (λ draft. verdict_on draft (is_some (elements_list ((steps ++ s ∷ []) ++ rest))) verdict))
      (refused (whole_values (entries_from None [] zero rest)))

-- the list of elements ends
pub list_ends : (steps value : List Step) (values : List (List Step)) (bracket : Bracket) → IsInList steps zero value values
    → IsPast (steps ++ Step.Closes bracket ∷ []) values
list_ends steps value values bracket inside = record {
  entries = inside.entries;
  from = onto steps (λ rest. Some (inside.entries ++ entries_from inside.name value zero rest)) (λ rest. Some inside.entries)
      (Step.Closes bracket) inside.from
      (λ rest. ap Some (append-nil inside.entries));
  whole = inside.whole;
}

-- a name between elements, which no array has
pub list_names : (steps value : List Step) (values : List (List Step)) (text : List ℕ) → IsInList steps zero value values
    → IsInList (steps ++ Step.Key text ∷ []) zero [] values
list_names steps value values text inside = record {
  name = Some text;
  entries = inside.entries;
  from = onto steps (λ rest. Some (inside.entries ++ entries_from inside.name value zero rest))
      (λ rest. Some (inside.entries ++ entries_from (Some text) [] zero rest)) (Step.Key text) inside.from (λ rest. refl);
  whole = inside.whole;
}

-- ---- Behind all of that

-- behind the list nothing changes
pub past_stays : (steps : List Step) (values : List (List Step)) (s : Step) → IsPast steps values → IsPast (steps ++ s ∷ []) values
past_stays steps values s past = record {
  entries = past.entries;
  from = onto steps (λ rest. Some past.entries) (λ rest. Some past.entries) s past.from (λ rest. refl);
  whole = past.whole;
}

-- nor where there is none
pub never_stays : (steps : List Step) (s : Step) → IsNever steps → IsNever (steps ++ s ∷ [])
never_stays steps s never = onto steps (λ rest. None) (λ rest. None) s never (λ rest. refl)
