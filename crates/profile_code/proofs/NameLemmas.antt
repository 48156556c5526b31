-- The names of values, and where they stand.
use Rattle.std.proofs.Common.{◌≡◌, ◌∙◌, ℕ, suc, ◌<◌, Bool, true, false, List, [], ◌∷◌, length, map, ℤ, Option, Some, None, refl, sym, ap, IfSome, get_or, unwrap_or, subst, is_some}
use Rattle.std.proofs.Math.Path.{fun_ext}
use Rattle.std.proofs.lemmas.Option.{slice_get-get_or}
use Rattle.std.specs.Str.{bytes_eq}
use Rattle.context_check.proofs.CallerLemmas.{names_of}
use Rattle.profile_code.specs.Effects.{value_at, last_or, placed_or}
use Rattle.profile_text.specs.Meaning.{later_value, last_value}
use Rattle.profile_text.specs.Names.{last_place, later_place}
use Rattle.profile_text.proofs.CallerLemmas.{last_place-lt}

-- the numbers of values
abbrev pub numbers_of : List (List ℕ × ℤ) → List ℤ
numbers_of values = map (λ v. v.1) values

-- the value at a place of a list that has one more number at the front
value_later : (b : Bool) (n : ℤ) (ns : List ℤ) (place : Option ℕ) → IfSome place (λ p. p < length ns) →
    later_value b n (value_at ns place) ≡ value_at (n ∷ ns) (later_place b place)
value_later b n ns (Some p) below =
    ap (later_value b n) (slice_get-get_or ns p n below) ∙ by_test b ∙ sym (slice_get-get_or ns p n below)
  where
    by_test : (b : Bool) → later_value b n (Some (get_or ns p n)) ≡ Some (get_or ns p n)
    by_test true = refl
    by_test false = refl
value_later true n ns None below = refl
value_later false n ns None below = refl

-- the numbers of values are as many as their names
same_length : (values : List (List ℕ × ℤ)) → length (names_of values) ≡ length (numbers_of values)
same_length [] = refl
same_length (v ∷ vs) = ap suc (same_length vs)

-- the last value of a name is the number at the place where the name stands last
pub value_placed : (values : List (List ℕ × ℤ)) (name : List ℕ) →
    last_value values name ≡ value_at (numbers_of values) (last_place (names_of values) name)
value_placed [] name = refl
value_placed (v ∷ vs) name =
    let P : ℕ → Type 0 = λ n. IfSome (last_place (names_of vs) name) (λ place. place < n) in
    ap (later_value (bytes_eq name v.0) v.1) (value_placed vs name)
    ∙ value_later (bytes_eq name v.0) v.1 (numbers_of vs) (last_place (names_of vs) name)
    (subst P (same_length vs) (last_place-lt (names_of vs) name))

-- so a name comes to the same by either
pub number_placed : (values : List (List ℕ × ℤ)) → placed_or (names_of values) (numbers_of values) ≡ last_or values
number_placed values =
    fun_ext (λ name. fun_ext (λ default. ap (λ (o : Option ℤ). unwrap_or o default) (sym (value_placed values name))))

-- a name has a value where it is among the names
pub value_some : (values : List (List ℕ × ℤ)) (name : List ℕ) →
    is_some (last_value values name) ≡ is_some (last_place (names_of values) name)
value_some [] name = refl
value_some (v ∷ vs) name =
    by_rest (bytes_eq name v.0) (last_value vs name) (last_place (names_of vs) name) (value_some vs name)
  where
    by_rest : (b : Bool) (n : Option ℤ) (place : Option ℕ) → is_some n ≡ is_some place →
        is_some (later_value b v.1 n) ≡ is_some (later_place b place)
    by_rest true (Some n) (Some p) same = refl
    by_rest false (Some n) (Some p) same = refl
    by_rest true None None same = refl
    by_rest false None None same = refl
    by_rest b (Some n) None same = cc
    by_rest b None (Some p) same = cc
