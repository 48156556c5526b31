-- The whole elements of the beginning of a text's steps begin those of the text.
use Rattle.std.proofs.Common.{◌≡◌, ℕ, zero, suc, Bool, true, false, List, [], ◌∷◌, ◌++◌, append_assoc, Option, Some, None, refl, sym, ap, ◌∙◌, subst}
use Rattle.std.specs.Prelude.{if◌then◌else◌}
use Rattle.std.proofs.lemmas.List.{append-nil}
use mathlib.Core.Bool.{false≢true}
use lib.Chars.{codes}
use Rattle.json_text.specs.declared.mode.Bracket.TheVariants as bracket_
use Rattle.json_text.specs.Marks.{Begins, Step}
use Rattle.map_elements.specs.Entries.{Entry, begun_entry, by_depth, depth_after, entries_from, is_named, items_of, member, whole_entry, whole_values}
use Rattle.map_elements.specs.Fields.{with_some}
use Rattle.map_elements.specs.Outcome.{elements_list, whole_elements}

-- an entry that has begun goes on: its name stays, and its value begins what it becomes
pub record GoesOn (one other : Entry) : Type 0 where
  pub unfinished : one.is_whole ≡ false
  pub name_is : other.name ≡ one.name
  pub more : List Step
  pub value_is : other.value ≡ one.value ++ more

-- an entry whose value hasn't begun
pub record HasNoValue (entry : Entry) : Type 0 where
  pub unfinished : entry.is_whole ≡ false
  pub empty : entry.value ≡ []

-- entries that become others where more steps come: the whole ones stay, and the last may go on
pub data Grow : List Entry → List Entry → Type 0 where
  ends : (later : List Entry) → Grow [] later
  waits : (entry : Entry) (later : List Entry) → HasNoValue entry → Grow (entry ∷ []) later
  goes : (one other : Entry) (later : List Entry) → GoesOn one other → Grow (one ∷ []) (other ∷ later)
  keeps : (entry : Entry) (front later : List Entry) → Grow front later → Grow (entry ∷ front) (entry ∷ later)

-- what becomes of an entry whose value has begun
record Becomes (name : Option (List ℕ)) (value : List Step) (entries : List Entry) : Type 0 where
  entry : Entry
  later : List Entry
  is : entries ≡ entry ∷ later
  name_is : entry.name ≡ name
  more : List Step
  value_is : entry.value ≡ value ++ more

-- an entry whose value has begun goes on, whatever comes
becomes : (name : Option (List ℕ)) (x : Step) (xs : List Step) (depth : ℕ) (steps : List Step) →
    Becomes name (x ∷ xs) (entries_from name (x ∷ xs) (suc depth) steps)
becomes None x xs depth [] =
    record { entry = _; later = []; is = refl; name_is = refl; more = []; value_is = sym (append-nil (x ∷ xs)) }
becomes (Some name) x xs depth [] =
    record { entry = _; later = []; is = refl; name_is = refl; more = []; value_is = sym (append-nil (x ∷ xs)) }
becomes name x xs depth (s ∷ steps) = by_after (depth_after (suc depth) s) (λ still. becomes name x (xs ++ s ∷ []) still steps)
  where
    by_after : (after : ℕ) → ((still : ℕ) → Becomes name (x ∷ (xs ++ s ∷ [])) (entries_from name (x ∷ (xs ++ s ∷ [])) (suc still) steps)) →
        Becomes name (x ∷ xs) (by_depth after (whole_entry name (x ∷ (xs ++ s ∷ [])) ∷ entries_from None [] zero steps)
        (λ still. entries_from name (x ∷ (xs ++ s ∷ [])) still steps))
    by_after zero later = record { entry = _; later = _; is = refl; name_is = refl; more = s ∷ []; value_is = refl }
    by_after (suc still) later =
        let next = later still in
        record {
          entry = next.entry;
          later = next.later;
          is = next.is;
          name_is = next.name_is;
          more = s ∷ next.more;
          value_is = next.value_is ∙ ap (λ (l : List Step). x ∷ l) (append_assoc xs (s ∷ []) next.more);
        }

-- where the steps end within a value, its entry goes on
stops : (name : Option (List ℕ)) (x : Step) (xs : List Step) (entries : List Entry) → Becomes name (x ∷ xs) entries →
    Grow (begun_entry name (x ∷ xs)) entries
stops None x xs entries next =
    subst (λ (es : List Entry). Grow (begun_entry None (x ∷ xs)) es) (sym next.is)
    (goes _ _ _ (record { unfinished = refl; name_is = next.name_is; more = next.more; value_is = next.value_is }))
stops (Some name) x xs entries next =
    subst (λ (es : List Entry). Grow (begun_entry (Some name) (x ∷ xs)) es) (sym next.is)
    (goes _ _ _ (record { unfinished = refl; name_is = next.name_is; more = next.more; value_is = next.value_is }))

-- entries behind one more step within the last one
after : (name : Option (List ℕ)) (x : Step) (xs steps more : List Step) (depth : ℕ) →
    Grow (entries_from None [] zero steps) (entries_from None [] zero (steps ++ more)) →
    ((still : ℕ) → Grow (entries_from name (x ∷ xs) (suc still) steps) (entries_from name (x ∷ xs) (suc still) (steps ++ more))) →
    Grow (by_depth depth (whole_entry name (x ∷ xs) ∷ entries_from None [] zero steps) (λ still. entries_from name (x ∷ xs) still steps))
    (by_depth depth (whole_entry name (x ∷ xs) ∷ entries_from None [] zero (steps ++ more))
    (λ still. entries_from name (x ∷ xs) still (steps ++ more)))
after name x xs steps more zero closed within = keeps _ _ _ closed
after name x xs steps more (suc depth) closed within = within depth

mutual
  -- entries between which the steps stand
  pub grow : (name : Option (List ℕ)) (steps more : List Step) →
      Grow (entries_from name [] zero steps) (entries_from name [] zero (steps ++ more))
  grow None [] more = ends _
  grow (Some name) [] more = waits _ _ (record { unfinished = refl; empty = refl })
  grow name (Step.Opens bracket ∷ steps) more = grow_within name (Step.Opens bracket) [] zero steps more
  grow name (Step.Closes bracket ∷ steps) more = ends _
  grow name (Step.Key text ∷ steps) more = grow (Some text) steps more
  grow name (Step.Text text ∷ steps) more = keeps _ _ _ (grow None steps more)
  grow name (Step.Number text ∷ steps) more = keeps _ _ _ (grow None steps more)
  grow name (Step.Word word ∷ steps) more = keeps _ _ _ (grow None steps more)

  -- entries within whose last one the steps stand
  grow_within : (name : Option (List ℕ)) (x : Step) (xs : List Step) (depth : ℕ) (steps more : List Step) →
      Grow (entries_from name (x ∷ xs) (suc depth) steps) (entries_from name (x ∷ xs) (suc depth) (steps ++ more))
  grow_within name x xs depth [] more = stops name x xs _ (becomes name x xs depth more)
  grow_within name x xs depth (s ∷ steps) more =
      after name x (xs ++ s ∷ []) steps more (depth_after (suc depth) s) (grow None steps more)
      (λ still. grow_within name x (xs ++ s ∷ []) still steps more)

-- ---- Whole values

-- the whole values begin the later ones
pub whole-grow : {front later : List Entry} → Grow front later → Begins (whole_values front) (whole_values later)
whole-grow (ends later) = record { rest = whole_values later; same = refl }
whole-grow (waits entry later none) = record { rest = whole_values later; same = by_whole entry.is_whole none.unfinished }
  where
    by_whole : (b : Bool) → b ≡ false → whole_values later ≡ (if b then entry.value ∷ [] else []) ++ whole_values later
    by_whole false h = refl
    by_whole true h = absurd (false≢true (sym h))
whole-grow (goes one other later on) = record { rest = whole_values (other ∷ later); same = by_whole one.is_whole on.unfinished }
  where
    by_whole : (b : Bool) → b ≡ false → whole_values (other ∷ later) ≡ (if b then one.value ∷ [] else []) ++ whole_values (other ∷ later)
    by_whole false h = refl
    by_whole true h = absurd (false≢true (sym h))
whole-grow (keeps entry front later rest) =
    let begins = whole-grow rest in
    record { rest = begins.rest; same = by_whole entry.is_whole begins.rest begins.same }
  where
    by_whole : (b : Bool) (more : List (List Step)) → whole_values later ≡ whole_values front ++ more →
        (if b then entry.value ∷ whole_values later else whole_values later)
        ≡ (if b then entry.value ∷ whole_values front else whole_values front) ++ more
    by_whole false more same = same
    by_whole true more same = ap (λ (vs : List (List Step)). entry.value ∷ vs) same

-- ---- The list of elements

-- a value that isn't there, hasn't begun, or begins what it becomes
pub data GrowsTo (now later : Option (List Step)) : Type 0 where
  missing : now ≡ None → GrowsTo now later
  awaited : now ≡ Some [] → GrowsTo now later
  begun : (value more : List Step) → now ≡ Some value → later ≡ Some (value ++ more) → GrowsTo now later

-- the value of a member among entries that grow
member-grows : (name : List ℕ) {front later : List Entry} → Grow front later → GrowsTo (member name front) (member name later)
member-grows name (ends later) = missing refl
member-grows name (waits entry later none) = by_name (is_named name entry)
  where
    by_name : (b : Bool) → GrowsTo (if b then Some entry.value else None) (member name later)
    by_name true = awaited (ap Some none.empty)
    by_name false = missing refl
member-grows name (goes one other later on) =
    subst (λ (n : Option (List ℕ)). GrowsTo (member name (one ∷ []))
    (if is_named name (record other { name = n }) then Some other.value else member name later))
    (sym on.name_is) (by_name (is_named name one))
  where
    by_name : (b : Bool) → GrowsTo (if b then Some one.value else None) (if b then Some other.value else member name later)
    by_name true = begun one.value on.more refl (ap Some on.value_is)
    by_name false = missing refl
member-grows name (keeps entry front later rest) = by_name (is_named name entry) (member-grows name rest)
  where
    by_name : (b : Bool) → GrowsTo (member name front) (member name later) →
        GrowsTo (if b then Some entry.value else member name front) (if b then Some entry.value else member name later)
    by_name true later = begun entry.value [] refl (ap Some (sym (append-nil entry.value)))
    by_name false later = later

-- no list begins each
nothing-begins : {A : Type 0} (later : List A) → Begins [] later
nothing-begins later = record { rest = later; same = refl }

-- the elements of a value begin those of what it becomes
items-grow : (value more : List Step) → Begins (whole_elements (items_of value)) (whole_elements (items_of (value ++ more)))
items-grow [] more = nothing-begins _
items-grow (Step.Opens bracket_.Square ∷ steps) more = whole-grow (grow None steps more)
items-grow (Step.Opens bracket_.Curly ∷ steps) more = nothing-begins _
items-grow (Step.Closes bracket ∷ steps) more = nothing-begins _
items-grow (Step.Key text ∷ steps) more = nothing-begins _
items-grow (Step.Text text ∷ steps) more = nothing-begins _
items-grow (Step.Number text ∷ steps) more = nothing-begins _
items-grow (Step.Word word ∷ steps) more = nothing-begins _

-- the elements of a member begin those of what it becomes
list-grows : (now later : Option (List Step)) → GrowsTo now later →
    Begins (whole_elements (with_some now items_of)) (whole_elements (with_some later items_of))
list-grows now later (missing none) =
    subst (λ o. Begins (whole_elements (with_some o items_of)) (whole_elements (with_some later items_of))) (sym none) (nothing-begins _)
list-grows now later (awaited empty) =
    subst (λ o. Begins (whole_elements (with_some o items_of)) (whole_elements (with_some later items_of))) (sym empty) (nothing-begins _)
list-grows now later (begun value more is becomes) =
    subst (λ o. Begins (whole_elements (with_some o items_of)) (whole_elements (with_some later items_of))) (sym is)
    (subst (λ o. Begins (whole_elements (items_of value)) (whole_elements (with_some o items_of))) (sym becomes) (items-grow value more))

-- the whole elements of the beginning of steps begin those of the steps
pub elements-grow : (steps more : List Step) →
    Begins (whole_elements (elements_list steps)) (whole_elements (elements_list (steps ++ more)))
unfolding elements_list
elements-grow [] more = nothing-begins _
elements-grow (Step.Opens bracket_.Curly ∷ steps) more = list-grows _ _ (member-grows (codes "elements") (grow None steps more))
elements-grow (Step.Opens bracket_.Square ∷ steps) more = nothing-begins _
elements-grow (Step.Closes bracket ∷ steps) more = nothing-begins _
elements-grow (Step.Key text ∷ steps) more = nothing-begins _
elements-grow (Step.Text text ∷ steps) more = nothing-begins _
elements-grow (Step.Number text ∷ steps) more = nothing-begins _
elements-grow (Step.Word word ∷ steps) more = nothing-begins _
