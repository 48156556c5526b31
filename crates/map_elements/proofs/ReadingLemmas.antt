-- What the bytes come to where all their steps were read, or one of them is at fault.
use Rattle.std.proofs.Common.{◌≡◌, ℕ, Bool, true, false, not, List, [], ◌∷◌, ◌++◌, Option, Some, None, Result, Ok, Err, refl, ap, sym, subst, ◌∙◌}
use Rattle.std.proofs.lemmas.List.{append-nil}
use Rattle.std.specs.Prelude.{if◌then◌else◌, is_some}
use Rattle.std.specs.Str.{bytes_eq}
use mathlib.Core.Bool.{false≢true}
use Rattle.item_list.specs.Answer.{and_then}
use Rattle.json_text.specs.declared.step.Verdict.{Verdict}
use Rattle.json_text.specs.declared.step.Verdict.TheVariants as verdict_
use Rattle.json_text.specs.Marks.{Step, Begins}
use Rattle.json_text.specs.Reading.{Reads, AreFixed}
use Rattle.map_tables.specs.Draft.{Draft, empty}
use Rattle.map_tables.specs.declared.limits.Limits.{Limits}
use Rattle.map_tables.specs.declared.error.MapError.{MapError}
use Rattle.map_elements.specs.declared.place.Place.{Place}
use Rattle.map_elements.specs.declared.place.Place.TheVariants as place_
use Rattle.map_elements.specs.declared.progress.Progress.{Progress}
use Rattle.map_elements.specs.Entries.{Entry, begun_entry, items_of, member, whole_values}
use Rattle.map_elements.specs.Fields.{with_some}
use Rattle.map_elements.specs.Outcome.{elements_list, whole_elements, take_values, verdict_on, outcome_of, ComesTo}
use Rattle.map_tables.specs.declared.error.MapError.TheVariants.{NotJson, Shape}
use Rattle.map_elements.specs.declared.reading.Reading.{Reading}
use Rattle.map_elements.specs.Reader.{IsAwaited, IsAt, Holds, IsFault, IsRead, StandsWith, has_list, refusal_of}
use Rattle.map_elements.proofs.InsideLemmas.{whole_values-append}
use Rattle.map_elements.proofs.PlaceLemmas.{the_name}

-- what is known for all that may follow is known where nothing follows
here : (steps : List Step) (now : List Step → Option (List Entry)) → ((rest : List Step) → elements_list (steps ++ rest) ≡ now rest)
    → elements_list steps ≡ now []
here steps now from = ap elements_list (sym (append-nil steps)) ∙ from []

-- a member that has begun isn't the list of elements
not_begun : (name : Option (List ℕ)) (value : List Step) (depth : ℕ) (b : Bool) → IsAwaited b name value depth
    → with_some (member the_name (begun_entry name value)) items_of ≡ None
not_begun None [] depth b awaited = refl
not_begun None (step ∷ value) depth b awaited = refl
not_begun (Some name) value depth true (named, none, zero_) =
    subst (λ v. with_some (member the_name (begun_entry (Some name) v)) items_of ≡ None) (sym none) (by_same (bytes_eq the_name name))
  where
    by_same : (b : Bool) → with_some (if b then Some [] else None) items_of ≡ None
    by_same true = refl
    by_same false = refl
not_begun (Some name) value depth false awaited = by_same (bytes_eq the_name name) awaited
  where
    by_same : (b : Bool) → not b ≡ true → with_some (if b then Some value else None) items_of ≡ None
    by_same true h = absurd (false≢true h)
    by_same false h = refl

-- an entry that has begun isn't whole
begun_values : (name : Option (List ℕ)) (value : List Step) → whole_values (begun_entry name value) ≡ []
begun_values None [] = refl
begun_values None (step ∷ value) = refl
begun_values (Some name) value = refl

-- the whole elements are those that were counted, and the list of elements is there where it was found
list_is : (place : Place) (value steps : List Step) (values : List (List Step)) → IsAt place value steps values
    → (whole_elements (elements_list steps) ≡ values) × (is_some (elements_list steps) ≡ has_list place)
unfolding elements_list
list_is place_.Start value steps values (first, none, empty_) =
    subst (λ s. (whole_elements (elements_list s) ≡ values) × (is_some (elements_list s) ≡ false)) (sym first) (sym none, refl)
list_is (place_.Top depth is_named) value steps values (top, none, empty_) =
    let is : elements_list steps ≡ None = here steps _ top.from ∙ not_begun top.name top.value depth is_named top.awaited in
    (ap whole_elements is ∙ sym none, ap is_some is)
list_is (place_.Elements depth) value steps values inside =
    let is : elements_list steps ≡ Some (inside.entries ++ begun_entry inside.name value) = here steps _ inside.from in (
      ap whole_elements is ∙ whole_values-append inside.entries (begun_entry inside.name value)
          ∙ ap (λ vs. whole_values inside.entries ++ vs) (begun_values inside.name value)
          ∙ append-nil (whole_values inside.entries) ∙ inside.whole,
      ap is_some is,
    )
list_is place_.Past value steps values past =
    let is : elements_list steps ≡ Some past.entries = here steps _ past.from in
    (ap whole_elements is ∙ past.whole, ap is_some is)
list_is place_.Never value steps values (never, none) =
    let is : elements_list steps ≡ None = here steps (λ rest. None) never in
    (ap whole_elements is ∙ sym none, ap is_some is)

-- so much do the steps come to
pub outcome_is : (limits : Limits) (progress : Progress) (steps : List Step) (verdict : Verdict) → Holds limits progress steps
    → outcome_of limits steps verdict ≡ verdict_on progress.tables.draft (has_list progress.place) verdict
outcome_is limits progress steps verdict holds =
    let (whole, list) = list_is progress.place progress.steps steps holds.values holds.at in
    ap (λ b. and_then (take_values limits 1 (whole_elements (elements_list steps)) empty) (λ draft. verdict_on draft b verdict)) list
    ∙ ap (λ vs. and_then (take_values limits 1 vs empty) (λ draft. verdict_on draft (has_list progress.place) verdict)) whole
    ∙ ap (λ r. and_then r (λ draft. verdict_on draft (has_list progress.place) verdict)) holds.taken.draft

-- a fault of fixed steps is the fault of the bytes
pub fault_comes : (limits : Limits) (bytes : List ℕ) (ended : Bool) (steps all : List Step) (verdict : Verdict) (fault : MapError)
    → AreFixed bytes ended steps → Reads bytes ended all verdict → IsFault limits steps fault → ComesTo limits bytes ended (Err fault)
fault_comes limits bytes ended steps all verdict fault fixed reads is =
    let begins : Begins steps all = fixed all verdict reads in
    record {
      steps = all;
      verdict = verdict;
      reads = reads;
      same = ap (λ s. outcome_of limits s verdict) begins.same ∙ is begins.rest verdict;
    }

-- a text that has ended was read to its end
ended_whole : (bytes : List ℕ) (steps : List Step) (verdict : Verdict) → Reads bytes true steps verdict → refusal_of verdict ≡ None →
    verdict ≡ verdict_.Whole
ended_whole bytes steps verdict_.More reads good = absurd (false≢true (sym reads.fits.0))
ended_whole bytes steps verdict_.Whole reads good = refl
ended_whole bytes steps (verdict_.BadAt at) reads good = cc

-- and one that hasn't may go on
open_more : (bytes : List ℕ) (steps : List Step) (verdict : Verdict) → Reads bytes false steps verdict → refusal_of verdict ≡ None →
    verdict ≡ verdict_.More
open_more bytes steps verdict_.More reads good = refl
open_more bytes steps verdict_.Whole reads good = absurd (false≢true reads.fits.0)
open_more bytes steps (verdict_.BadAt at) reads good = cc

-- a text that has ended comes to its tables where there is a list of elements
pub ended_tables : (limits : Limits) (reading : Reading) (bytes : List ℕ) → IsRead limits reading bytes true →
    has_list reading.progress.place ≡ true
    → (reading.progress.tables.limits ≡ limits) × ComesTo limits bytes true (Ok reading.progress.tables.draft)
ended_tables limits reading bytes read list =
    let whole : read.verdict ≡ verdict_.Whole = ended_whole bytes read.stands.steps read.verdict read.reads read.good in (
      read.stands.holds.taken.limits_are,
      record {
        steps = read.stands.steps;
        verdict = read.verdict;
        reads = read.reads;
        same = outcome_is limits reading.progress read.stands.steps read.verdict read.stands.holds
            ∙ ap (λ v. verdict_on reading.progress.tables.draft (has_list reading.progress.place) v) whole
            ∙ ap (λ b. verdict_on reading.progress.tables.draft b verdict_.Whole) list;
      },
    )

-- and has the wrong shape where there is none
pub ended_shape : (limits : Limits) (reading : Reading) (bytes : List ℕ) → IsRead limits reading bytes true →
    has_list reading.progress.place ≡ false
    → ComesTo limits bytes true (Err (Shape 0))
ended_shape limits reading bytes read list =
    let whole : read.verdict ≡ verdict_.Whole = ended_whole bytes read.stands.steps read.verdict read.reads read.good in
    record {
      steps = read.stands.steps;
      verdict = read.verdict;
      reads = read.reads;
      same = outcome_is limits reading.progress read.stands.steps read.verdict read.stands.holds
          ∙ ap (λ v. verdict_on reading.progress.tables.draft (has_list reading.progress.place) v) whole
          ∙ ap (λ b. verdict_on reading.progress.tables.draft b verdict_.Whole) list;
    }

-- the bytes of a text that may go on come to the draft in the tables
pub open_draft : (limits : Limits) (reading : Reading) (bytes : List ℕ) → IsRead limits reading bytes false
    → ComesTo limits bytes false (Ok reading.progress.tables.draft)
open_draft limits reading bytes read =
    let more : read.verdict ≡ verdict_.More = open_more bytes read.stands.steps read.verdict read.reads read.good in
    record {
      steps = read.stands.steps;
      verdict = read.verdict;
      reads = read.reads;
      same = outcome_is limits reading.progress read.stands.steps read.verdict read.stands.holds
          ∙ ap (λ v. verdict_on reading.progress.tables.draft (has_list reading.progress.place) v) more;
    }

-- a byte at fault is the fault of the bytes
pub bad_comes : (limits : Limits) (reading : Reading) (bytes : List ℕ) (ended : Bool) (verdict : Verdict) (fault : MapError)
    → (stands : StandsWith limits reading bytes ended) → Reads bytes ended stands.steps verdict → refusal_of verdict ≡ Some fault
    → ComesTo limits bytes ended (Err fault)
bad_comes limits reading bytes ended verdict_.More fault stands reads bad = cc
bad_comes limits reading bytes ended verdict_.Whole fault stands reads bad = cc
bad_comes limits reading bytes ended (verdict_.BadAt at) fault stands reads bad = record {
  steps = stands.steps;
  verdict = verdict_.BadAt at;
  reads = reads;
  same = outcome_is limits reading.progress stands.steps (verdict_.BadAt at) stands.holds ∙ by_some bad;
}
  where
    by_some : Some (NotJson at) ≡ Some fault → ◌≡◌ {A = Result Draft MapError} (Err (NotJson at)) (Err fault)
    by_some e = cc
