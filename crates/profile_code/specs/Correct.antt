-- That flat code does what its profile says. This project's own rule.
use Rattle.std.specs.Prelude.{◌≡◌, ℕ, List, ℤ, map, length, Result, Ok, Err}
use Rattle.context_check.specs.Checked.{Subject}
use Rattle.lookup_table.specs.First.{rows_of}
use Rattle.lookup_table.specs.declared.part.Part.{Part}
use Rattle.profile_code.specs.Flat.{Flat, flat_of, global_run, own_run}
use Rattle.profile_code.specs.Machine.{Ended, Finished, Faulted, Stuck}
use Rattle.profile_text.specs.Meaning.{Fault, Unknown, Faulty, SectionFault, global_values, own_values}

-- the end of a run that meets a fault after so many values
abbrev pub fault_end : ℕ → Fault → Ended
fault_end place (Faulty kind) = Faulted place kind
fault_end place (Unknown line) = Stuck

-- the end of a run that gives these values
abbrev pub end_of : Result (List (List ℕ × ℤ)) SectionFault → Ended
end_of (Ok values) = Finished (map (λ v. v.1) values)
end_of (Err fault) = fault_end fault.place fault.fault

-- the code gives the values of the profile's sections, or their first fault, for all tag numbers
pub record Behaves (subject : Subject) (flat : Flat) : Type 0 where
  pub global : global_run flat ≡ end_of (global_values subject.overrides subject.sections)
  pub own :
      (part : Part) (numbers : List ℕ) (values : List (List ℕ × ℤ)) →
      length numbers ≡ length (rows_of subject.table part) →
      global_values subject.overrides subject.sections ≡ Ok values →
      own_run flat part numbers (map (λ v. v.1) values)
      ≡ end_of (own_values subject.table subject.sections part numbers values)

-- the code is that of a checked profile, and does what the profile says
pub record IsCodeOf (subject : Subject) (flat : Flat) : Type 0 where
  pub is : flat ≡ flat_of subject
  pub behaves : Behaves subject flat
