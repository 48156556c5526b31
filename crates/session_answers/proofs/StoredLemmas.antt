-- The profiles that are stored: the name of the next upload is new, and those that are found are found again.
use Rattle.std.proofs.Common.{◌≡◌, ◌≢◌, ℕ, zero, suc, ◌+◌, ◌-◌, ◌<◌, ◌^◌, Bool, true, false, List, [], ◌∷◌, ◌++◌, length, take, get_or, refl, sym, ap, ◌∙◌, subst, arith, length-append, inl, inr, Option, Some, None}
use Rattle.std.specs.Prelude.{bytes_eq, codes, decimal, if◌then◌else◌, option_map, slice_get}
use Rattle.std.proofs.lemmas.Bool.{cases_lt}
use Rattle.std.proofs.lemmas.Fmt.{decimal_injective}
use Rattle.std.proofs.lemmas.List.{append_cancel_left, get_or_append_left, length-map, take-append-le, take_all}
use Rattle.std.proofs.Math.Seq.{get_or-append_seam}
use Rattle.lookup_table.specs.Tag.{name_place}
use Rattle.profile_text.specs.Tree.{Sections}
use Rattle.route_ready.specs.Entries.{names_of, profiles_of}
use Rattle.session_answers.specs.Stored.{AreGiven, AreStored, Stored, find_stored, most_uploads, upload_name}
use Rattle.item_list.proofs.TestLemmas.{bytes_eq-other, option_map-none, option_map-some}

-- ---- Names of uploads

-- the names of two uploads differ where their numbers do
name-same : (m n : ℕ) → m < 2 ^ 64 → n < 2 ^ 64 → upload_name m ≡ upload_name n → m ≡ n
name-same m n few other same =
    decimal_injective m n few other (append_cancel_left (codes "custom_") (decimal m) (decimal n) same)

-- ---- Lists of names

-- by the test of the first name: where a name is neither the first nor among the others
none_by : (test : Bool) (rest : Option ℕ) → test ≡ false → rest ≡ None →
    ◌≡◌ {A = Option ℕ} (if test then Some 0 else option_map suc rest) None
none_by true rest other none = absurd (cc)
none_by false rest other none = ap (λ (o : Option ℕ). option_map suc o) none

-- a name that is none of these has no place among them
place_none : (names : List (List ℕ)) (name : List ℕ) → ((k : ℕ) → k < length names → get_or names k [] ≢ name) →
    name_place names name ≡ None
place_none [] name differ = refl
place_none (x ∷ names) name differ =
    none_by (bytes_eq name x) (name_place names name) (bytes_eq-other name x (λ same. differ 0 (omega arith) (sym same)))
    (place_none names name (λ k inside same. differ (suc k) (omega arith) same))

-- ---- What is stored

-- the names of a front
names_front : (n : ℕ) (stored : List Stored) → names_of (take n stored) ≡ take n (names_of stored)
names_front zero stored = refl
names_front (suc n) [] = refl
names_front (suc n) (s ∷ stored) = ap (λ (l : List (List ℕ)). s.0 ∷ l) (names_front n stored)

-- the names of two lists one behind the other
names-append : (stored more : List Stored) → names_of (stored ++ more) ≡ names_of stored ++ names_of more
names-append [] more = refl
names-append (s ∷ stored) more = ap (λ (l : List (List ℕ)). s.0 ∷ l) (names-append stored more)

-- there is a name for each
names_long : (stored : List Stored) → length (names_of stored) ≡ length stored
names_long stored = length-map stored (λ (s : Stored). s.0)

-- an element of a front is that of the whole
get_or_front : (n k : ℕ) (xs : List (List ℕ)) → k < n → get_or (take n xs) k [] ≡ get_or xs k []
get_or_front zero k xs below = absurd (omega arith)
get_or_front (suc n) k [] below = refl
get_or_front (suc n) zero (x ∷ xs) below = refl
get_or_front (suc n) (suc k) (x ∷ xs) below = get_or_front n k xs (omega arith)

module _ (given : ℕ) (stored : List Stored) (are : AreStored given stored) where
  -- the number of the next upload
  abbrev next : ℕ
  next = length stored - given + 1

  -- the name of the next upload is that of no given profile, and of no upload before
  pub next_new : name_place (names_of stored) (upload_name next) ≡ None
  next_new =
      place_none (names_of stored) (upload_name next) (λ k inside same.
      elim (cases_lt k given) [
        | inl below ↦
            are.names k (decimal next)
            (ap (λ (l : List (List ℕ)). get_or l k []) (names_front given stored) ∙ get_or_front given k (names_of stored) below ∙ same)
        | inr past ↦
            let long = names_long stored in
            let few = are.few in
            let k_is : given + (k - given) ≡ k = omega arith in
            let within : given + (k - given) < length stored = omega arith in
            let named : get_or (names_of stored) k [] ≡ upload_name (k - given + 1) =
            ap (λ (j : ℕ). get_or (names_of stored) j []) (sym k_is) ∙ are.uploads (k - given) within in
            let numbers : k - given + 1 ≡ next = name-same (k - given + 1) next (omega arith) (omega arith) (sym named ∙ same) in
            absurd (omega arith)
      ])

  -- it may be stored behind the others
  pub stored_more : (sections : Sections) → length stored < given + most_uploads →
      AreStored given (stored ++ (upload_name next, sections) ∷ [])
  stored_more sections room =
      let more : List Stored = (upload_name next, sections) ∷ [] in
      let long : length (stored ++ more) ≡ length stored + 1 = omega (arith, length-append stored more) in
      let names_are : names_of (stored ++ more) ≡ names_of stored ++ upload_name next ∷ [] = names-append stored more in
      let names_count = names_long stored in
      let front : take given (stored ++ more) ≡ take given stored = take-append-le given stored more are.within in
      let fits = are.within in
      record {
        within = omega arith;
        few = omega arith;
        names = subst (λ (l : List Stored). AreGiven (names_of l)) (sym front) are.names;
        uploads = λ k inside.
            ap (λ (l : List (List ℕ)). get_or l (given + k) []) names_are
            ∙ elim (cases_lt (given + k) (length stored)) [
              | inl below ↦
                  get_or_append_left (names_of stored) (upload_name next ∷ []) [] (given + k) (omega arith) ∙ are.uploads k below
              | inr past ↦
                  let here : given + k ≡ length (names_of stored) = omega arith in
                  let number : next ≡ k + 1 = omega arith in
                  ap (λ (j : ℕ). get_or (names_of stored ++ upload_name next ∷ []) j []) here
                  ∙ get_or-append_seam (names_of stored) (upload_name next) [] []
                  ∙ ap upload_name number
            ];
      }

-- given profiles are all that is stored at first
pub stored_given : (stored : List Stored) → AreGiven (names_of stored) → AreStored (length stored) stored
stored_given stored given = record {
  within = omega arith;
  few = omega arith;
  names = subst (λ (l : List Stored). AreGiven (names_of l)) (sym (take_all (length stored) stored (omega arith))) given;
  uploads = λ k inside. absurd (omega arith);
}

-- ---- What is found

-- where the profile of a name among further ones is that at its place
module _ (s : Stored) (rest : List Stored) (sections : Sections) (found : Option ℕ) (answer : Option Sections)
    (later : (n : ℕ) → found ≡ Some n → slice_get (profiles_of rest) n ≡ Some sections → answer ≡ Some sections) where
  -- by the test of the first name, as the place of a name goes
  found_by : (test : Bool) (place : ℕ) → ◌≡◌ {A = Option ℕ} (if test then Some 0 else option_map suc found) (Some place) →
      slice_get (profiles_of (s ∷ rest)) place ≡ Some sections → (if test then Some s.1 else answer) ≡ Some sections
  found_by true place is there =
      let first : ◌≡◌ {A = ℕ} 0 place = cc in
      ap (λ (k : ℕ). slice_get (profiles_of (s ∷ rest)) k) first ∙ there
  found_by false place is there =
      let at = option_map-some suc place found is in
      later at.0 at.1 (ap (λ (k : ℕ). slice_get (profiles_of (s ∷ rest)) k) at.2 ∙ there)

-- the profile of a name is that at its place
pub found_at : (stored : List Stored) (name : List ℕ) (place : ℕ) (sections : Sections) → name_place (names_of stored) name ≡ Some place →
    slice_get (profiles_of stored) place ≡ Some sections → find_stored stored name ≡ Some sections
found_at [] name place sections is there = absurd (cc)
found_at (s ∷ rest) name place sections is there =
    found_by s rest sections (name_place (names_of rest) name) (find_stored rest name)
    (λ n found here. found_at rest name n sections found here) (bytes_eq name s.0) place is there

-- by the test of the first name, where a name has no place
unknown_by : (test : Bool) (s : Stored) (rest : List Stored) (name : List ℕ) →
    (name_place (names_of rest) name ≡ None → find_stored rest name ≡ None) →
    ◌≡◌ {A = Option ℕ} (if test then Some 0 else option_map suc (name_place (names_of rest) name)) None →
    (if test then Some s.1 else find_stored rest name) ≡ None
unknown_by true s rest name later is = absurd (cc)
unknown_by false s rest name later is = later (option_map-none suc (name_place (names_of rest) name) is)

-- a name that has no place is none that is stored
pub unknown_at : (stored : List Stored) (name : List ℕ) → name_place (names_of stored) name ≡ None → find_stored stored name ≡ None
unknown_at [] name is = refl
unknown_at (s ∷ rest) name is = unknown_by (bytes_eq name s.0) s rest name (λ none. unknown_at rest name none) is
