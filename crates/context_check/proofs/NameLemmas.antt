-- The names of values and of assignments, which overrides leave.
use Rattle.std.proofs.Common.{◌≡◌, ◌∙◌, ℕ, Bool, List, [], ◌∷◌, ◌++◌, map, ℤ, Option, Some, None, Result, Ok, Err, refl, sym, ap, append_assoc, append-nil}
use Rattle.std.proofs.lemmas.List.{map-append}
use Rattle.std.specs.Map.{lookup}
use Rattle.std.specs.Str.{bytes_eq}
use Rattle.context_check.specs.Refusal.{names_in}
use Rattle.profile_text.specs.Meaning.{Fault, SectionFault, and_then, no_looks, variable_in, with_value, value_of, values_from, replaced_by, overridden, global_values}
use Rattle.profile_text.specs.Tree.{Assignment, Sections}

-- the names of values
abbrev pub names_of : List (List ℕ × ℤ) → List (List ℕ)
names_of values = map (λ v. v.0) values

-- the names of values with one more
pub names_more : (own : List (List ℕ × ℤ)) (name : List ℕ) (n : ℤ) → names_of (own ++ (name, n) ∷ []) ≡ names_of own ++ name ∷ []
names_more own name n = map-append (λ v. v.0) own ((name, n) ∷ [])

-- an assignment whose value may be replaced keeps its name
pub replaced_name : (o : Option ℤ) (a : Assignment) → (replaced_by o a).name ≡ a.name
replaced_name None a = refl
replaced_name (Some n) a = refl

-- an override leaves the name
pub overridden_name : (overrides : List (List ℕ × ℤ)) (a : Assignment) → (overridden overrides a).name ≡ a.name
overridden_name overrides a = replaced_name (lookup (bytes_eq a.name) overrides) a

-- overrides leave the names of a section
pub overridden_names : (overrides : List (List ℕ × ℤ)) (assigned : List Assignment) →
    names_in (map (overridden overrides) assigned) ≡ names_in assigned
overridden_names overrides [] = refl
overridden_names overrides (a ∷ rest) =
    ap (λ name. name ∷ names_in (map (overridden overrides) rest)) (overridden_name overrides a)
    ∙ ap (λ names. a.name ∷ names) (overridden_names overrides rest)

-- the values of a section, or others where there are none
value_in : List (List ℕ × ℤ) → Result (List (List ℕ × ℤ)) SectionFault → List (List ℕ × ℤ)
value_in other (Ok values) = values
value_in other (Err fault) = other

module _ (looks : List ℕ → List (List ℕ) → Option Bool) (global : List (List ℕ × ℤ)) where
  -- the names of the values are those that one more value and the rest have
  names_further : (own values : List (List ℕ × ℤ)) (a : Assignment) (rest : List Assignment) (r : Result ℤ Fault) →
      ((n : ℤ) → values_from looks global (own ++ (a.name, n) ∷ []) rest ≡ Ok values →
      names_of values ≡ names_of (own ++ (a.name, n) ∷ []) ++ names_in rest) →
      and_then (with_value own a.name r) (λ values. values_from looks global values rest) ≡ Ok values →
      names_of values ≡ names_of own ++ a.name ∷ names_in rest
  names_further own values a rest (Ok n) next is =
      next n is
      ∙ ap (λ names. names ++ names_in rest) (names_more own a.name n)
      ∙ append_assoc (names_of own) (a.name ∷ []) (names_in rest)
  names_further own values a rest (Err fault) next is = cc

  -- the values of a section are those of its names
  pub values_names : (own values : List (List ℕ × ℤ)) (assigned : List Assignment) → values_from looks global own assigned ≡ Ok values →
      names_of values ≡ names_of own ++ names_in assigned
  unfolding value_in
  values_names own values [] is = sym (ap (λ r. names_of (value_in own r)) is) ∙ sym (append-nil (names_of own))
  values_names own values (a ∷ rest) is =
      names_further own values a rest (value_of (variable_in global own) looks a.value)
      (λ n. values_names (own ++ (a.name, n) ∷ []) values rest)
      is

-- the values of the global section are those of its names, under any overrides
pub global_values_names : (overrides : List (List ℕ × ℤ)) (s : Sections) (values : List (List ℕ × ℤ)) →
    global_values overrides s ≡ Ok values → names_of values ≡ names_in s.global
unfolding global_values
global_values_names overrides s values there =
    values_names no_looks [] [] values (map (overridden overrides) s.global) there ∙ overridden_names overrides s.global
