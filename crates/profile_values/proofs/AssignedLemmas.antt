-- Values that are assigned one after the other, and the look-ups that find them.
use Rattle.std.proofs.Common.{◌≡◌, ℕ, zero, suc, ◌<◌, Bool, true, false, ◌||◌, List, [], ◌∷◌, ◌++◌, length, get_or, slice_get, ℤ, Option, Some, None, refl, sym, ap, ◌∙◌, arith}
use Rattle.std.specs.List.{zip}
use Rattle.std.specs.Option.{option_map}
use Rattle.std.specs.Str.{bytes_eq}
use Rattle.lookup_table.specs.Tag.{TagRow}
use Rattle.profile_text.specs.Meaning.{is_listed, last_value, later_value, value_numbers}
use Rattle.profile_text.specs.Names.{last_place, later_place}

-- ---- Names beside their values

-- a pair goes last where its parts do
pub zip-push : (names : List (List ℕ)) (numbers : List ℤ) (name : List ℕ) (n : ℤ) → length names ≡ length numbers
    → zip (names ++ name ∷ []) (numbers ++ n ∷ []) ≡ zip names numbers ++ (name, n) ∷ []
zip-push [] [] name n same = refl
zip-push [] (v ∷ vs) name n same = cc
zip-push (k ∷ ks) [] name n same = cc
zip-push (k ∷ ks) (v ∷ vs) name n same = ap (λ rest. (k, v) ∷ rest) (zip-push ks vs name n cc)

-- there are as many pairs as names
pub zip-length : (names : List (List ℕ)) (numbers : List ℤ) → length names ≡ length numbers → length (zip names numbers) ≡ length names
zip-length [] numbers same = refl
zip-length (k ∷ ks) [] same = cc
zip-length (k ∷ ks) (v ∷ vs) same = ap suc (zip-length ks vs cc)

-- a pair's parts stand at its place
pub zip-get : (names : List (List ℕ)) (numbers : List ℤ) (place : ℕ) (name : List ℕ) (n : ℤ) → slice_get names place ≡ Some name
    → place < length numbers → n ≡ get_or numbers place n → slice_get (zip names numbers) place ≡ Some (name, n)
zip-get [] numbers place name n found fits is = cc
zip-get (k ∷ ks) [] place name n found fits is = absurd (omega arith)
zip-get (k ∷ ks) (v ∷ vs) zero name n found fits is = let same : k ≡ name = cc in let number : n ≡ v = is in cc
zip-get (k ∷ ks) (v ∷ vs) (suc place) name n found fits is = zip-get ks vs place name n found (omega arith) is

-- the value that a name was given last is that at its last place
last_value-zip : (names : List (List ℕ)) (numbers : List ℤ) (name : List ℕ) (d : ℤ) → length names ≡ length numbers
    → last_value (zip names numbers) name ≡ option_map (λ place. get_or numbers place d) (last_place names name)
last_value-zip [] numbers name d same = refl
last_value-zip (k ∷ ks) [] name d same = cc
last_value-zip (k ∷ ks) (v ∷ vs) name d same =
    ap (later_value (bytes_eq name k) v) (last_value-zip ks vs name d cc) ∙ by_rest (bytes_eq name k) (last_place ks name)
  where
    by_rest : (b : Bool) (o : Option ℕ)
        → later_value b v (option_map (λ place. get_or vs place d) o) ≡ option_map (λ place. get_or (v ∷ vs) place d) (later_place b o)
    by_rest b (Some place) = refl
    by_rest true None = refl
    by_rest false None = refl

-- a name with a last place has the value there
pub last_found : (names : List (List ℕ)) (numbers : List ℤ) (all : List (List ℕ × ℤ)) (name : List ℕ) (place : ℕ) (n : ℤ)
    → zip names numbers ≡ all → length names ≡ length numbers → Some place ≡ last_place names name → n ≡ get_or numbers place n
    → Some n ≡ last_value all name
last_found names numbers all name place n all_is same found is =
    ap Some is
    ∙ ap (option_map (λ p. get_or numbers p n)) found
    ∙ sym (last_value-zip names numbers name n same)
    ∙ ap (λ a. last_value a name) all_is

-- a name without one has no value
pub last_none : (names : List (List ℕ)) (numbers : List ℤ) (all : List (List ℕ × ℤ)) (name : List ℕ) (d : ℤ) → zip names numbers ≡ all
    → length names ≡ length numbers → None ≡ last_place names name → None ≡ last_value all name
last_none names numbers all name d all_is same found =
    ap (option_map (λ p. get_or numbers p d)) found
    ∙ sym (last_value-zip names numbers name d same)
    ∙ ap (λ a. last_value a name) all_is

-- ---- Looks

-- whether a number is found among those of values that are left, or was found before
abbrev pub found_in : TagRow → ℕ → Bool → List (List ℕ) → Option Bool
found_in row n found values = option_map (λ ns. found || is_listed n ns) (value_numbers row values)
