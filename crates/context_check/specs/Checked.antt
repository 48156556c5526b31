-- What a profile that was checked is, and that it never meets what isn't known. This project's own rule.
use Rattle.std.specs.Prelude.{◌≡◌, ℕ, List, ℤ, None, Ok, Err}
use Rattle.context_check.specs.Refusal.{names_in, override_refusal, refusal_of}
use Rattle.lookup_table.specs.First.{TagTable}
use Rattle.lookup_table.specs.declared.part.Part.{Part}
use Rattle.profile_text.specs.Meaning.{Fault, Unknown, Faulty, SectionFault, global_values, own_values}
use Rattle.profile_text.specs.Tree.{Sections}

-- a profile with the tag table and the overrides that it was checked with
pub record Subject : Type 0 where
  pub table : TagTable
  pub sections : Sections
  pub overrides : List (List ℕ × ℤ)

-- nothing is at fault in it
abbrev pub IsAccepted : Subject → Type 0
IsAccepted subject = refusal_of subject.table subject.sections subject.overrides ≡ None

-- a fault of arithmetic, and not of a name, tag or value that isn't known
abbrev pub IsArithmetic : Fault → Type 0
IsArithmetic (Unknown line) = ⊥
IsArithmetic (Faulty kind) = Unit {0}

-- the overrides have names that the global section assigns
abbrev pub HaveKnownNames : List (List ℕ × ℤ) → Sections → Type 0
HaveKnownNames overrides s = override_refusal 0 overrides (names_in s.global) ≡ None

-- under all overrides of known names, and for all tag numbers, no value is missing but for a fault of
-- arithmetic
pub record IsDefined (table : TagTable) (s : Sections) : Type 0 where
  pub global :
      (overrides : List (List ℕ × ℤ)) (fault : SectionFault) →
      HaveKnownNames overrides s →
      global_values overrides s ≡ Err fault →
      IsArithmetic fault.fault
  pub own :
      (overrides : List (List ℕ × ℤ)) (part : Part) (numbers : List ℕ)
      (values : List (List ℕ × ℤ)) (fault : SectionFault) →
      HaveKnownNames overrides s →
      global_values overrides s ≡ Ok values →
      own_values table s part numbers values ≡ Err fault →
      IsArithmetic fault.fault
