-- Where one more step leads, by what it does to the brackets.
use Rattle.std.proofs.Common.{◌≡◌, ℕ, zero, suc, Bool, true, false, not, List, [], ◌∷◌, ◌++◌, append_assoc, Option, Some, None, refl, sym, ap, subst, ◌∙◌}
use Rattle.std.proofs.lemmas.Slice.Eq.{bytes_eq-Decides}
use Rattle.std.specs.Prelude.{if◌then◌else◌}
use Rattle.std.specs.Str.{bytes_eq}
use mathlib.Core.Bool.{false≢true}
use lib.Chars.{codes}
use Rattle.json_text.specs.declared.mode.Bracket.{Bracket}
use Rattle.json_text.specs.declared.mode.Bracket.TheVariants as bracket_
use Rattle.json_text.specs.declared.step.JsonStep.{JsonStep}
use Rattle.json_text.specs.declared.step.JsonStep.TheVariants as step_
use Rattle.json_text.specs.Marks.{Step}
use Rattle.json_text.specs.Steps.{step_for}
use Rattle.map_elements.specs.Entries.{Entry, entries_from, whole_entry, items_of, member, is_named, depth_after, by_depth}
use Rattle.map_elements.specs.Fields.{with_some}
use Rattle.map_tables.specs.Draft.{empty}
use Rattle.map_elements.specs.Outcome.{elements_list}
use Rattle.map_elements.specs.Reader.{goes_on, is_other, IsAwaited, IsTop, IsInList, IsNever}
use Rattle.map_elements.proofs.EntryLemmas.{items_same}

-- the name of the member that has the elements
abbrev pub the_name : List ℕ
the_name = codes "elements"

-- what is known for all that may follow is known behind one more step
pub onto : (steps : List Step) (now later : List Step → Option (List Entry)) (s : Step)
    → ((rest : List Step) → elements_list (steps ++ rest) ≡ now rest)
    → ((rest : List Step) → now (s ∷ rest) ≡ later rest)
    → (rest : List Step) → elements_list ((steps ++ s ∷ []) ++ rest) ≡ later rest
onto steps now later s from goes rest = ap elements_list (append_assoc steps (s ∷ []) rest) ∙ from (s ∷ rest) ∙ goes rest

-- ---- The first step

-- the top object begins
pub top_begins : IsTop (Step.Opens bracket_.Curly ∷ []) 0 false
unfolding elements_list
top_begins = record { name = None; value = []; from = λ rest. refl; awaited = refl }

-- a text that begins in another way has no list of elements
pub no_object : (s : Step) → (s ≡ Step.Opens bracket_.Curly → ⊥) → IsNever (s ∷ [])
unfolding elements_list
no_object (Step.Opens bracket_.Curly) other rest = absurd (other refl)
no_object (Step.Opens bracket_.Square) other rest = refl
no_object (Step.Closes bracket) other rest = refl
no_object (Step.Key text) other rest = refl
no_object (Step.Text text) other rest = refl
no_object (Step.Number text) other rest = refl
no_object (Step.Word word) other rest = refl

-- ---- The value of `elements`

-- the list of elements begins
pub list_begins : (steps : List Step) → IsTop steps 0 true → IsInList (steps ++ Step.Opens bracket_.Square ∷ []) 0 [] []
list_begins steps top =
    let (named, empty, depth) = top.awaited in
    record {
      name = None;
      entries = [];
      from = onto steps (λ rest. with_some (member the_name (entries_from top.name top.value 0 rest)) items_of)
          (λ rest. Some (entries_from None [] zero rest)) (Step.Opens bracket_.Square) top.from
          (λ rest. subst (λ n. with_some (member the_name (entries_from n top.value 0 (Step.Opens bracket_.Square ∷ rest))) items_of
          ≡ Some (entries_from None [] zero rest)) (sym named)
          (subst (λ v. with_some (member the_name (entries_from (Some the_name) v 0 (Step.Opens bracket_.Square ∷ rest))) items_of
          ≡ Some (entries_from None [] zero rest)) (sym empty) (items_same the_name refl rest [] [] None [] zero (λ tail. refl))));
      whole = refl;
    }

-- the first step of a member's value stays
first_stays : (rest value : List Step) (first : Step) (depth : ℕ)
    → (more : List Step) × (member the_name (entries_from (Some the_name) (first ∷ value) (suc depth) rest) ≡ Some (first ∷ more))
first_stays [] value first depth = (value, refl)
first_stays (Step.Opens bracket ∷ rest) value first depth = first_stays rest (value ++ Step.Opens bracket ∷ []) first (suc depth)
first_stays (Step.Closes bracket ∷ rest) value first zero = (value ++ Step.Closes bracket ∷ [], refl)
first_stays (Step.Closes bracket ∷ rest) value first (suc depth) = first_stays rest (value ++ Step.Closes bracket ∷ []) first depth
first_stays (Step.Key text ∷ rest) value first depth = first_stays rest (value ++ Step.Key text ∷ []) first depth
first_stays (Step.Text text ∷ rest) value first depth = first_stays rest (value ++ Step.Text text ∷ []) first depth
first_stays (Step.Number text ∷ rest) value first depth = first_stays rest (value ++ Step.Number text ∷ []) first depth
first_stays (Step.Word word ∷ rest) value first depth = first_stays rest (value ++ Step.Word word ∷ []) first depth

-- what has come where the value of `elements` is awaited
awaited_from : (steps : List Step) → IsTop steps 0 true → (rest : List Step)
    → elements_list (steps ++ rest) ≡ with_some (member the_name (entries_from (Some the_name) [] 0 rest)) items_of
awaited_from steps top rest =
    let (named, empty, depth) = top.awaited in
    top.from rest
    ∙ ap (λ n. with_some (member the_name (entries_from n top.value 0 rest)) items_of) named
    ∙ ap (λ v. with_some (member the_name (entries_from (Some the_name) v 0 rest)) items_of) empty

-- the value of `elements` is no array
pub no_list : (steps : List Step) (s : Step) → (s ≡ Step.Opens bracket_.Square → ⊥) → goes_on 0 s ≡ true → IsTop steps 0 true →
    IsNever (steps ++ s ∷ [])
no_list steps s other goes top =
    onto steps (λ rest. with_some (member the_name (entries_from (Some the_name) [] 0 rest)) items_of) (λ rest. None) s
    (awaited_from steps top) (λ rest. by_step s rest other goes)
  where
    by_step : (s : Step) (rest : List Step) → (s ≡ Step.Opens bracket_.Square → ⊥) → goes_on 0 s ≡ true
        → with_some (member the_name (entries_from (Some the_name) [] 0 (s ∷ rest))) items_of ≡ None
    by_step (Step.Opens bracket_.Curly) rest other goes =
        let (more, is) = first_stays rest [] (Step.Opens bracket_.Curly) zero in ap (λ o. with_some o items_of) is
    by_step (Step.Opens bracket_.Square) rest other goes = absurd (other refl)
    by_step (Step.Text text) rest other goes = refl
    by_step (Step.Number text) rest other goes = refl
    by_step (Step.Word word) rest other goes = refl
    by_step (Step.Closes bracket) rest other goes = absurd (false≢true goes)
    by_step (Step.Key text) rest other goes = absurd (false≢true goes)

-- ---- The top object

-- the top object ends before any member `elements`
pub top_ends : (steps : List Step) (is_named : Bool) (bracket : Bracket) → IsTop steps 0 is_named →
    IsNever (steps ++ Step.Closes bracket ∷ [])
top_ends steps is_named bracket top =
    onto steps (λ rest. with_some (member the_name (entries_from top.name top.value 0 rest)) items_of) (λ rest. None) (Step.Closes bracket)
    top.from (λ rest. refl)

-- a name is the one that is waited for, or another
awaits : (text : List ℕ) (b : Bool) → bytes_eq text the_name ≡ b → IsAwaited b (Some text) [] zero
awaits text true same = (ap Some ((bytes_eq-Decides text the_name).0 same), refl, refl)
awaits text false same = by_other (bytes_eq the_name text) refl
  where
    by_other : (b : Bool) → bytes_eq the_name text ≡ b → not b ≡ true
    by_other false e = refl
    by_other true e =
        let is : text ≡ the_name = sym ((bytes_eq-Decides the_name text).0 e) in
        absurd (false≢true (sym same ∙ (bytes_eq-Decides text the_name).1 is))

-- a member of the top object is named
pub top_names : (steps : List Step) (is_named : Bool) (text : List ℕ) → IsTop steps 0 is_named →
    IsTop (steps ++ Step.Key text ∷ []) 0 (bytes_eq text the_name)
top_names steps is_named text top = record {
  name = Some text;
  value = [];
  from = onto steps (λ rest. with_some (member the_name (entries_from top.name top.value 0 rest)) items_of)
      (λ rest. with_some (member the_name (entries_from (Some text) [] 0 rest)) items_of) (Step.Key text) top.from (λ rest. refl);
  awaited = awaits text (bytes_eq text the_name) refl;
}

-- a member of another name is passed over
passes : (name : Option (List ℕ)) (value : List Step) (others : List Entry) → is_other name ≡ true
    → member the_name (whole_entry name value ∷ others) ≡ member the_name others
passes None value others other = refl
passes (Some name) value others other = by_same (bytes_eq the_name name) other
  where
    by_same : (b : Bool) → not b ≡ true → (if b then Some value else member the_name others) ≡ member the_name others
    by_same false h = refl
    by_same true h = absurd (false≢true h)

-- the entries where a value has come so far and brackets are open so deep: it is whole, or goes on
abbrev pub entries_at : (name : Option (List ℕ)) (value : List Step) (depth : ℕ) (rest : List Step) → List Entry
entries_at name value depth rest =
    by_depth depth (whole_entry name value ∷ entries_from None [] zero rest) (λ still. entries_from name value still rest)

-- what such a step does to the entries
pub entries_on : (name : Option (List ℕ)) (value : List Step) (depth : ℕ) (s : Step) (rest : List Step) → goes_on depth s ≡ true
    → entries_from name value depth (s ∷ rest) ≡ entries_at name (value ++ s ∷ []) (depth_after depth s) rest
entries_on name value zero (Step.Closes bracket) rest h = absurd (false≢true h)
entries_on name value zero (Step.Key text) rest h = absurd (false≢true h)
entries_on name value zero (Step.Opens bracket) rest h = refl
entries_on name value zero (Step.Text text) rest h = refl
entries_on name value zero (Step.Number text) rest h = refl
entries_on name value zero (Step.Word word) rest h = refl
entries_on name value (suc depth) s rest h = refl

-- a step within a value of another member
pub top_goes_on : (steps : List Step) (depth : ℕ) (s : Step) → goes_on depth s ≡ true → IsTop steps depth false
    → IsTop (steps ++ s ∷ []) (depth_after depth s) false
top_goes_on steps depth s h top = by_after (depth_after depth s) refl
  where
    by_after : (after : ℕ) → after ≡ depth_after depth s → IsTop (steps ++ s ∷ []) after false
    by_after zero e = record {
      name = None;
      value = [];
      from = onto steps (λ rest. with_some (member the_name (entries_from top.name top.value depth rest)) items_of)
          (λ rest. with_some (member the_name (entries_from None [] zero rest)) items_of) s top.from
          (λ rest. ap (λ es. with_some (member the_name es) items_of)
          (entries_on top.name top.value depth s rest h
          ∙ ap (λ d. by_depth d (whole_entry top.name (top.value ++ s ∷ []) ∷ entries_from None [] zero rest)
          (λ still. entries_from top.name (top.value ++ s ∷ []) still rest)) (sym e))
          ∙ ap (λ o. with_some o items_of) (passes top.name (top.value ++ s ∷ []) (entries_from None [] zero rest) top.awaited));
      awaited = refl;
    }
    by_after (suc after) e = record {
      name = top.name;
      value = top.value ++ s ∷ [];
      from = onto steps (λ rest. with_some (member the_name (entries_from top.name top.value depth rest)) items_of)
          (λ rest. with_some (member the_name (entries_from top.name (top.value ++ s ∷ []) (suc after) rest)) items_of) s top.from
          (λ rest. ap (λ es. with_some (member the_name es) items_of)
          (entries_on top.name top.value depth s rest h
          ∙ ap (λ d. by_depth d (whole_entry top.name (top.value ++ s ∷ []) ∷ entries_from None [] zero rest)
          (λ still. entries_from top.name (top.value ++ s ∷ []) still rest)) (sym e)));
      awaited = top.awaited;
    }

-- ---- Steps of the code

-- a step that is neither a name nor an end stands between entries alone
pub between : (depth : ℕ) (s : Step) → goes_on depth s ≡ false → depth ≡ 0
between zero s h = refl
between (suc depth) s h = absurd (false≢true (sym h))

-- a step between entries that is no name is an end
pub is_end : (step : JsonStep) (text : List ℕ) → (step ≡ step_.Key → ⊥) → goes_on 0 (step_for step text) ≡ false
    → (bracket : Bracket) × (step_for step text ≡ Step.Closes bracket)
is_end step_.Key text other h = absurd (other refl)
is_end step_.Close text other h = (bracket_.Curly, refl)
is_end step_.ListClose text other h = (bracket_.Square, refl)
is_end _ text other h = absurd (false≢true (sym h))

-- a step that begins no object begins none with its content
pub not_curly : (step : JsonStep) (text : List ℕ) → (step ≡ step_.Open → ⊥) → step_for step text ≡ Step.Opens bracket_.Curly → ⊥
not_curly step_.Open text other h = other refl
not_curly _ text other h = cc

-- nor does one that begins no array
pub not_square : (step : JsonStep) (text : List ℕ) → (step ≡ step_.ListOpen → ⊥) → step_for step text ≡ Step.Opens bracket_.Square → ⊥
not_square step_.ListOpen text other h = other refl
not_square _ text other h = cc
