-- Elements of one kind that are kept, each id once (this project's own rule for repeated elements).
use Rattle.std.specs.Prelude.{◌≡◌, ◌+◌, ℤ, Bool, List, [], ◌∷◌, ◌++◌, Option, Some, None, option_map, slice_get, Result, Ok, Err, ℕ, suc, if◌then◌else◌}
use Rattle.std.specs.Ordering.{int_eq}

-- a tag: its name and its value
abbrev pub Tag : Type 0
Tag = List ℕ × List ℕ

-- an element: its id, what it consists of, and its tags
pub record Kept (C : Type 0) : Type 0 where
  pub id : ℤ
  pub content : C
  pub tags : List Tag

-- the kept element of this id
abbrev pub kept_with : {C : Type 0} → ℤ → List (Kept C) → Option (Kept C)
kept_with id [] = None
kept_with id (k ∷ ks) = if int_eq k.id id then Some k else kept_with id ks

-- the first of two lists of tags that isn't empty
abbrev pub first_tags : List Tag → List Tag → List Tag
first_tags [] later = later
first_tags (tag ∷ tags) later = tag ∷ tags

-- an element that is given again with these tags
abbrev pub given_again : {C : Type 0} → List Tag → Kept C → Kept C
given_again tags k = record { id = k.id; content = k.content; tags = first_tags k.tags tags }

-- an element with one more tag, behind its own
abbrev pub with_tag : {C : Type 0} → Tag → Kept C → Kept C
with_tag tag k = record { id = k.id; content = k.content; tags = k.tags ++ tag ∷ [] }

-- the kept elements where the one of this id is given again
abbrev pub with_tags : {C : Type 0} → ℤ → List Tag → List (Kept C) → List (Kept C)
with_tags id tags [] = []
with_tags id tags (k ∷ ks) = (if int_eq k.id id then given_again tags k else k) ∷ with_tags id tags ks

-- no fault, or this one
abbrev pub unless : {A E : Type 0} → Option E → A → Result A E
unless None a = Ok a
unless (Some e) a = Err e

-- the kept elements where an element comes whose id is kept already, or isn't: with another content it is a
-- double, and a new one goes last unless there are too many
abbrev pub keep_beside : {C E : Type 0} → (C → C → Bool) → E → Option E → Kept C → List (Kept C) →
    Option (Kept C) → Result (List (Kept C)) E
keep_beside same double beyond new kept None = unless beyond (kept ++ new ∷ [])
keep_beside same double beyond new kept (Some old) =
    if same old.content new.content then Ok (with_tags new.id new.tags kept) else Err double

-- the kept elements where one more comes
abbrev pub keep : {C E : Type 0} → (C → C → Bool) → E → Option E → Kept C → List (Kept C) →
    Result (List (Kept C)) E
keep same double beyond new kept = keep_beside same double beyond new kept (kept_with new.id kept)

-- ---- Places of ids

-- the place of the first of these ids that is this one
abbrev pub place_in : ℤ → List ℤ → Option ℕ
place_in id [] = None
place_in id (x ∷ xs) = if int_eq x id then Some 0 else option_map suc (place_in id xs)

-- no id comes twice
abbrev pub AreDifferent : List ℤ → Type 0
AreDifferent [] = Unit {0}
AreDifferent (x ∷ xs) = (place_in x xs ≡ None) × AreDifferent xs

-- the ids of kept elements
abbrev pub ids_of : {C : Type 0} → List (Kept C) → List ℤ
ids_of [] = []
ids_of (k ∷ ks) = k.id ∷ ids_of ks

-- the place of the first kept element of this id
abbrev pub place_of_id : {C : Type 0} → ℤ → List (Kept C) → Option ℕ
place_of_id id kept = place_in id (ids_of kept)

-- each id is kept once
abbrev pub AreDistinct : {C : Type 0} → List (Kept C) → Type 0
AreDistinct kept = AreDifferent (ids_of kept)

-- a fact of the kept element at a place
abbrev pub HoldsAt : {C : Type 0} → List (Kept C) → ℕ → (Kept C → Type 0) → Type 0
HoldsAt {C} kept place P = (k : Kept C) → slice_get kept place ≡ Some k → P k

-- ---- Counts

-- how many parts kept elements have, each of which has so many
abbrev pub total_of : {C : Type 0} → (C → ℕ) → List (Kept C) → ℕ
total_of size [] = 0
total_of size (k ∷ ks) = size k.content + total_of size ks

-- what a list becomes where more is put at its end
pub record Extends {A : Type 0} (old new : List A) : Type 0 where
  pub more : List A
  pub is : new ≡ old ++ more
