-- The code of a checked profile does what the profile says, and is never stuck.
use Rattle.std.proofs.Common.{◌≡◌, ◌≢◌, ℕ, ◌+◌, ◌≤◌, List, [], length, ℤ, Some, None, Result, Ok, Err, refl, sym, ap, ◌∙◌, arith, subst, zero-add}
use Rattle.std.proofs.lemmas.List.{length-map}
use Rattle.context_check.proofs.CallerLemmas.{names_of, overridden_refusal, global_values_names, SectionsPass, accepted_sections}
use Rattle.context_check.specs.Checked.{Subject, IsAccepted, IsArithmetic}
use Rattle.context_check.specs.Context.{Context}
use Rattle.context_check.specs.Refusal.{names_in, section_refusal}
use Rattle.lookup_table.specs.First.{rows_of}
use Rattle.lookup_table.specs.declared.part.Part.{Part}
use Rattle.lookup_table.specs.declared.part.Part.TheVariants.{Way, Node}
use Rattle.profile_code.proofs.AssignmentLemmas.{AreKnown, Ends, ends}
use Rattle.profile_code.proofs.KnownLemmas.{gives_look}
use Rattle.profile_code.proofs.NameLemmas.{numbers_of}
use Rattle.profile_code.proofs.TreeLemmas.{Setting}
use Rattle.profile_code.specs.Correct.{Behaves, IsCodeOf, end_of, fault_end}
use Rattle.profile_code.specs.Emit.{section_code, section_height}
use Rattle.profile_code.specs.Flat.{IsSafe, flat_of, global_assignments, global_run, own_run, own_section, tags_of}
use Rattle.profile_code.specs.Machine.{Given, Ended, Finished, Stuck}
use Rattle.profile_text.specs.Meaning.{Fault, Unknown, Faulty, SectionFault, no_looks, looks_in, overridden, global_values, own_values, assignments_of}
use Rattle.profile_text.specs.Tree.{Assignment}
use Rattle.profile_text.specs.declared.kind.Section.{Section}
use Rattle.profile_text.specs.declared.kind.Section.TheVariants as section

-- the section of a part
abbrev section_of_part : Part → Section
section_of_part Way = section.Way
section_of_part Node = section.Node

module _ (subject : Subject) (accepted : IsAccepted subject) where
  -- nothing is at fault in the sections
  pass : SectionsPass subject.table subject.sections
  pass = accepted_sections subject accepted

  -- ---- The global section

  -- what its run is given
  abbrev given_global : Given
  given_global = record { room = (flat_of subject).room; most = length (flat_of subject).global.names; numbers = []; global = [] }

  -- what its code runs in: it has no looks
  abbrev in_global : Setting
  in_global = record { given = given_global; section = section.Global; known_rows = None; rows = []; looks = no_looks; global = [] }

  -- its code ends as its values do
  global_ends : Ends given_global [] (flat_of subject).global.instrs (global_values subject.overrides subject.sections)
  unfolding flat_of global_values
  global_ends =
      ends in_global [] (global_assignments subject) (record { is = refl; gives = λ own tag values line none. cc })
      (overridden_refusal subject.overrides subject.table [] [] subject.sections.global pass.global)
      (omega arith)
      (length-map subject.sections.global (λ (a : Assignment). a.name)
      ∙ sym (length-map subject.sections.global (overridden subject.overrides))
      ∙ sym (zero-add (length (global_assignments subject))))

  -- ---- The section of a part

  -- its assignments
  abbrev assigned : Part → List Assignment
  assigned part = assignments_of subject.sections part

  -- what its run is given
  abbrev given_own : Part → List ℕ → List (List ℕ × ℤ) → Given
  given_own part numbers values = record {
    room = (flat_of subject).room;
    most = length (own_section (flat_of subject) part).names;
    numbers = numbers;
    global = numbers_of values;
  }

  -- what its expressions may name, after these names of the global section
  abbrev own_context : Part → List (List ℕ) → Context
  own_context part names = record { section = section_of_part part; rows = Some (rows_of subject.table part); global = names }

  -- what its code runs in
  abbrev in_own : Part → List ℕ → List (List ℕ × ℤ) → Setting
  in_own part numbers values = record {
    given = given_own part numbers values;
    section = section_of_part part;
    known_rows = Some (rows_of subject.table part);
    rows = rows_of subject.table part;
    looks = looks_in (rows_of subject.table part) numbers;
    global = values;
  }

  -- nothing is at fault in it
  own_none : (part : Part) → section_refusal (own_context part (names_in subject.sections.global)) [] (assigned part) ≡ None
  own_none Way = pass.way
  own_none Node = pass.node

  -- it has the code of its assignments
  own_code : (part : Part) →
      section_code (rows_of subject.table part) (names_in subject.sections.global) [] (assigned part)
      ≡ (own_section (flat_of subject) part).instrs
  unfolding flat_of
  own_code Way = refl
  own_code Node = refl

  -- there is room for its deepest stack
  own_fits : (part : Part) → section_height (assigned part) ≤ (flat_of subject).room
  unfolding flat_of
  own_fits Way = omega arith
  own_fits Node = omega arith

  -- it has as many names as assignments
  own_many : (part : Part) → length (own_section (flat_of subject) part).names ≡ 0 + length (assigned part)
  unfolding flat_of
  own_many Way = length-map subject.sections.way (λ (a : Assignment). a.name) ∙ sym (zero-add (length subject.sections.way))
  own_many Node = length-map subject.sections.node (λ (a : Assignment). a.name) ∙ sym (zero-add (length subject.sections.node))

  -- its code ends as its values do, after those of the global section
  own_ends : (part : Part) (numbers : List ℕ) (values : List (List ℕ × ℤ)) → length numbers ≡ length (rows_of subject.table part) →
      names_of values ≡ names_in subject.sections.global →
      Ends (given_own part numbers values) [] (own_section (flat_of subject) part).instrs
      (own_values subject.table subject.sections part numbers values)
  unfolding own_values
  own_ends part numbers values as_many names =
      let rows = rows_of subject.table part in
      let r = own_values subject.table subject.sections part numbers values in
      subst (λ code. Ends (given_own part numbers values) [] code r)
      (ap (λ l. section_code rows l [] (assigned part)) names ∙ own_code part)
      (ends (in_own part numbers values) [] (assigned part)
      (record {
        is = refl;
        gives = λ own tag asked line none. gives_look (given_own part numbers values) own rows tag asked line as_many none;
      })
      (ap (λ l. section_refusal (own_context part l) [] (assigned part)) names ∙ own_none part)
      (own_fits part)
      (own_many part))

  -- ---- Both

  -- the code of a checked profile does what the profile says
  pub behaves : Behaves subject (flat_of subject)
  behaves = record {
    global = global_ends.runs;
    own =
        λ part numbers values as_many is.
        (own_ends part numbers values as_many (global_values_names subject.overrides subject.sections values is)).runs;
  }

  -- it is the code of that profile
  pub is_code : IsCodeOf subject (flat_of subject)
  is_code = record { is = refl; behaves = behaves }

  -- values, or a fault that is no want of a name, are no end in want of anything
  not_stuck : (r : Result (List (List ℕ × ℤ)) SectionFault) (e : Ended) → AreKnown r → e ≡ end_of r → e ≢ Stuck
  not_stuck (Ok values) e known is = λ stuck. cc
  not_stuck (Err fault) e known is = λ stuck. by_fault fault.fault known (sym is ∙ stuck)
    where
      by_fault : (f : Fault) → IsArithmetic f → fault_end fault.place f ≡ Stuck → ⊥
      by_fault (Unknown line) known same = known
      by_fault (Faulty kind) known same = cc

  -- the values with which the global section's run finished
  finished : (r : Result (List (List ℕ × ℤ)) SectionFault) (values : List ℤ) → AreKnown r → end_of r ≡ Finished values →
      (named : List (List ℕ × ℤ)) × (r ≡ Ok named) × (numbers_of named ≡ values)
  finished (Ok named) values known is = (named, refl, cc)
  finished (Err fault) values known is = absurd (by_fault fault.fault known is)
    where
      by_fault : (f : Fault) → IsArithmetic f → fault_end fault.place f ≡ Finished values → ⊥
      by_fault (Unknown line) known same = known
      by_fault (Faulty kind) known same = cc

  -- the code has as many tags as the table
  tags_are : (part : Part) → tags_of (flat_of subject) part ≡ length (rows_of subject.table part)
  unfolding flat_of
  tags_are Way = refl
  tags_are Node = refl

  -- the code of a checked profile is never stuck
  pub is_safe : IsSafe (flat_of subject)
  is_safe = record {
    global = not_stuck (global_values subject.overrides subject.sections) (global_run (flat_of subject)) global_ends.known global_ends.runs;
    own = λ part numbers values as_many is.
        let found = finished (global_values subject.overrides subject.sections) values global_ends.known (sym global_ends.runs ∙ is) in
        let e =
        own_ends part numbers found.0 (as_many ∙ tags_are part) (global_values_names subject.overrides subject.sections found.0 found.1) in
        subst (λ l. own_run (flat_of subject) part numbers l ≢ Stuck) found.2
        (not_stuck (own_values subject.table subject.sections part numbers found.0)
        (own_run (flat_of subject) part numbers (numbers_of found.0)) e.known e.runs);
  }
