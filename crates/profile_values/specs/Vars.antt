-- The variables of a profile for a way or a node. This project's own rule.
use Rattle.std.specs.Prelude.{◌≡◌, ℕ, not, List, [], ◌∷◌, ◌++◌, filter, map, ℤ, Result, Ok, Err, Vec}
use Rattle.std.specs.Map.{lookup}
use Rattle.std.specs.Str.{bytes_eq}
use Rattle.std.specs.declared.alloc.Global.{Global}
use Rattle.lookup_table.specs.First.{TagTable}
use Rattle.lookup_table.specs.declared.part.Part.{Part}
use Rattle.profile_values.specs.declared.value_error.ValueError.{ValueError}
use Rattle.profile_values.specs.declared.value_error.ValueError.TheVariants.{Unbound, Arith}
use Rattle.profile_text.specs.Meaning.{Fault, Unknown, Faulty, SectionFault, and_then, global_values, last_value, own_values}
use Rattle.profile_text.specs.Tree.{Sections}

-- the names, each once, at the place where it stands first
abbrev pub first_names : List (List ℕ) → List (List ℕ)
first_names [] = []
first_names (n ∷ ns) = n ∷ filter (λ m. not (bytes_eq n m)) (first_names ns)

-- the variables of values that were assigned one after the other: each name at the place of its first
-- assignment, with its last value
pub record AreVars (values vars : List (List ℕ × ℤ)) : Type 0 where
  pub names : map (λ v. v.0) vars ≡ first_names (map (λ v. v.0) values)
  pub numbers : (name : List ℕ) → lookup (bytes_eq name) vars ≡ last_value values name

-- the values of the global section without overrides and then those of a part's own section, or the first
-- fault
unfoldable pub both_values : TagTable → Sections → Part → List ℕ → Result (List (List ℕ × ℤ)) SectionFault
both_values table s part numbers =
    and_then (global_values [] s)
    (λ global. and_then (own_values table s part numbers global) (λ own. Ok (global ++ own)))

-- there are values, and these are their variables
abbrev pub AreVarsOf : Result (List (List ℕ × ℤ)) SectionFault → List (List ℕ × ℤ) → Type 0
AreVarsOf (Ok values) vars = AreVars values vars
AreVarsOf (Err fault) vars = ⊥

-- what is said of a fault in the assignment of a name
abbrev pub fault_error : List ℕ → Fault → ValueError
fault_error name (Unknown line) = Unbound line
fault_error name (Faulty kind) = Arith name kind

-- there is a first fault, and this is said of it
abbrev pub IsRefusedBy : Result (List (List ℕ × ℤ)) SectionFault → ValueError → Type 0
IsRefusedBy (Ok values) error = ⊥
IsRefusedBy (Err fault) error = error ≡ fault_error fault.name fault.fault

-- the value of an assignment of a name has a fault, and this is said of it
abbrev pub IsSaidOf : List ℕ → Result ℤ Fault → ValueError → Type 0
IsSaidOf name (Ok n) error = ⊥
IsSaidOf name (Err fault) error = error ≡ fault_error name fault

-- ---- The index that the variables are gathered in

-- the entries of an index, by the bytes of their keys
abbrev pub by_bytes : List (Vec ℕ Global × ℤ) → List (List ℕ × ℤ)
by_bytes entries = map (λ e. (e.0.items, e.1)) entries
