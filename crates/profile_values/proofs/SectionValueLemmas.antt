-- The global section and then a part's own: their values, or the first fault.
use Rattle.std.proofs.Common.{◌≡◌, ℕ, List, [], ◌∷◌, ◌++◌, map, ℤ, Result, Ok, Err, refl, sym, ap, ◌∙◌, subst, ◌⊎◌, inl, inr}
use Rattle.lookup_table.specs.First.{TagTable, rows_of}
use Rattle.lookup_table.specs.declared.part.Part.{Part}
use Rattle.profile_values.specs.declared.value_error.ValueError.{ValueError}
use Rattle.profile_values.specs.declared.value_error.ValueError.TheVariants.{NoMemory}
use Rattle.profile_text.specs.Meaning.{SectionFault, and_then, assignments_of, global_values, looks_in, no_looks, overridden, own_values, values_from}
use Rattle.profile_values.specs.Scope.{TagNumbers}
use Rattle.profile_text.specs.Tree.{Assignment, Sections}
use Rattle.profile_values.specs.Vars.{AreVars, AreVarsOf, IsRefusedBy, both_values}

-- without overrides assignments are what they were
pub no_overrides : (assignments : List Assignment) → map (overridden []) assignments ≡ assignments
no_overrides [] = refl
no_overrides (a ∷ rest) = ap (λ r. a ∷ r) (no_overrides rest)

-- a fault of the first step is the fault of both
refused_then : (first : Result (List (List ℕ × ℤ)) SectionFault) (go : List (List ℕ × ℤ) → Result (List (List ℕ × ℤ)) SectionFault)
    (error : ValueError) → IsRefusedBy first error → IsRefusedBy (and_then first go) error
refused_then (Ok values) go error refused = absurd refused
refused_then (Err fault) go error refused = refused

module _ (table : TagTable) (s : Sections) (part : Part) (numbers : List ℕ) where
  -- the values of the global section
  abbrev pub global_part : Result (List (List ℕ × ℤ)) SectionFault
  global_part = values_from no_looks [] [] s.global

  -- the values of the own section after those
  abbrev pub own_part : List (List ℕ × ℤ) → Result (List (List ℕ × ℤ)) SectionFault
  own_part global = values_from (looks_in (rows_of table part) numbers) global [] (assignments_of s part)

  -- so the code's evaluation of the global section gives the values of its assignments
  pub global_is : (none : List (List ℕ × ℤ)) (assignments : List Assignment) → none ≡ [] → assignments ≡ s.global
      → values_from no_looks none [] assignments ≡ global_part
  global_is none assignments none_is assignments_are =
      ap (λ values. values_from no_looks values [] assignments) none_is ∙ ap (values_from no_looks [] []) assignments_are

  -- and that of the own section those of its own
  pub own_is : (tagged : TagNumbers) (global : List (List ℕ × ℤ)) (assignments : List Assignment)
      → tagged ≡ record { rows = rows_of table part; numbers = numbers } → assignments ≡ assignments_of s part
      → values_from (looks_in tagged.rows tagged.numbers) global [] assignments ≡ own_part global
  own_is tagged global assignments tagged_is assignments_are =
      ap (λ (t : TagNumbers). values_from (looks_in t.rows t.numbers) global [] assignments) tagged_is
      ∙ ap (values_from (looks_in (rows_of table part) numbers) global []) assignments_are

  -- both sections, by their parts
  both_parts : both_values table s part numbers ≡ and_then global_part (λ global. and_then (own_part global) (λ own. Ok (global ++ own)))
  unfolding both_values global_values own_values
  both_parts =
      ap (λ assignments. and_then (values_from no_looks [] [] assignments)
      (λ global. and_then (own_part global) (λ own. Ok (global ++ own)))) (no_overrides s.global)

  -- a fault of the global section is the first
  pub refused_global : (error : ValueError) → IsRefusedBy global_part error → IsRefusedBy (both_values table s part numbers) error
  refused_global error refused = subst (λ r. IsRefusedBy r error) (sym both_parts) (refused_then global_part _ error refused)

  -- where it has none, a fault of the own section is
  pub refused_own : (error : ValueError) (global : List (List ℕ × ℤ)) → global_part ≡ Ok global → IsRefusedBy (own_part global) error
      → IsRefusedBy (both_values table s part numbers) error
  refused_own error global global_is refused =
      subst (λ r. IsRefusedBy r error)
      (sym (both_parts ∙ ap (λ g. and_then g (λ values. and_then (own_part values) (λ own. Ok (values ++ own)))) global_is))
      (refused_then (own_part global) _ error refused)

  -- where neither has one, the variables are those of the values of both
  pub vars_both : (global own vars : List (List ℕ × ℤ)) → global_part ≡ Ok global → own_part global ≡ Ok own → AreVars (global ++ own) vars
      → AreVarsOf (both_values table s part numbers) vars
  vars_both global own vars global_is own_is are =
      subst (λ r. AreVarsOf r vars)
      (sym (both_parts ∙ ap (λ g. and_then g (λ values. and_then (own_part values) (λ own. Ok (values ++ own)))) global_is
      ∙ ap (λ o. and_then o (λ own. Ok (global ++ own))) own_is))
      are

-- what is said of the fault of one outcome is said of that of another, or memory ran out
pub refused_or : (first second : Result (List (List ℕ × ℤ)) SectionFault) (error : ValueError)
    → (IsRefusedBy first error → IsRefusedBy second error) → (error ≡ NoMemory) ⊎ IsRefusedBy first error
    → (error ≡ NoMemory) ⊎ IsRefusedBy second error
refused_or first second error goes (inl memory) = inl memory
refused_or first second error goes (inr refused) = inr (goes refused)
