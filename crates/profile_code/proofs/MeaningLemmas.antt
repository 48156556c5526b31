-- What the runs of a profile's code come to by the profile's meaning.
use Rattle.std.proofs.Common.{◌≡◌, ◌∙◌, ℕ, List, [], length, ℤ, Result, Ok, Err, Option, IsSome, IsTrue, is_some, ◌↔◌, refl, sym, ap, subst}
use Rattle.context_check.proofs.CallerLemmas.{names_of, values_names, global_values_names}
use Rattle.context_check.specs.Checked.{Subject}
use Rattle.context_check.specs.Refusal.{names_in}
use Rattle.fixed_num.specs.declared.arithmetic.Arith.{Arith}
use Rattle.lookup_table.specs.First.{rows_of}
use Rattle.lookup_table.specs.declared.part.Part.{Part}
use Rattle.lookup_table.specs.declared.part.Part.TheVariants.{Way, Node}
use Rattle.profile_code.specs.Correct.{IsCodeOf, end_of, fault_end}
use Rattle.profile_code.specs.Effects.{placed_or, value_at}
use Rattle.profile_code.specs.Flat.{Flat, flat_of, global_run, own_run, own_section, tags_of}
use Rattle.profile_code.specs.Machine.{Ended, Finished}
use Rattle.profile_code.specs.Runs.{AnswersGlobal, AnswersOwn, AnswersPart, AnswersRun, AnswersSection, Effects, IsValueOf, PartRun}
use Rattle.profile_code.specs.declared.fault.Fault.{Fault as RunFault}
use Rattle.profile_text.specs.Meaning.{Fault, Unknown, Faulty, SectionFault, assignments_of, global_values, own_values, looks_in}
use Rattle.profile_text.specs.Names.{last_place, is_among}
use Rattle.profile_code.proofs.NameLemmas.{numbers_of, number_placed, value_placed, value_some}

-- ---- The names of the sections

-- the values of a part's section have its names
own_named : (subject : Subject) (part : Part) (numbers : List ℕ) (global values : List (List ℕ × ℤ)) →
    own_values subject.table subject.sections part numbers global ≡ Ok values →
    names_of values ≡ names_in (assignments_of subject.sections part)
unfolding own_values
own_named subject part numbers global values is =
    values_names (looks_in (rows_of subject.table part) numbers) global [] values (assignments_of subject.sections part) is

-- the code has the names of the global section
global_coded : (subject : Subject) (flat : Flat) → flat ≡ flat_of subject → flat.global.names ≡ names_in subject.sections.global
unfolding flat_of
global_coded subject flat is = ap (λ (f : Flat). f.global.names) is

-- the code has the names of a part's section
own_coded : (subject : Subject) (flat : Flat) (part : Part) → flat ≡ flat_of subject →
    (own_section flat part).names ≡ names_in (assignments_of subject.sections part)
unfolding flat_of
own_coded subject flat Way is = ap (λ (f : Flat). f.way.names) is
own_coded subject flat Node is = ap (λ (f : Flat). f.node.names) is

-- the code knows how many tags a part has
tags_coded : (subject : Subject) (flat : Flat) (part : Part) → flat ≡ flat_of subject →
    tags_of flat part ≡ length (rows_of subject.table part)
unfolding flat_of
tags_coded subject flat Way is = ap (λ (f : Flat). f.way_tags) is
tags_coded subject flat Node is = ap (λ (f : Flat). f.node_tags) is

-- ---- The answers

-- an answer that is that of a run which ends as a section does is the section's
section_answered : {A : Type 0} (effects : Effects A) (names : List (List ℕ)) (values : Result (List (List ℕ × ℤ)) SectionFault)
    (answer : Result A RunFault) → ((own : List (List ℕ × ℤ)) → values ≡ Ok own → names_of own ≡ names) →
    AnswersRun effects names (end_of values) answer → AnswersSection effects values answer
section_answered {A} effects names (Ok own) answer named is =
    is
    ∙ ap (λ (ns : List (List ℕ)). Ok (effects (placed_or ns (numbers_of own)))) (sym (named own refl))
    ∙ ap (λ (number : List ℕ → ℤ → ℤ). Ok (effects number)) (number_placed own)
section_answered {A} effects names (Err fault) answer named is = by_fault fault.fault is
  where
    by_fault : (f : Fault) → AnswersRun effects names (fault_end fault.place f) answer →
        (kind : Arith) × (f ≡ Faulty kind) × (answer ≡ Err (record { variable = fault.place; kind = kind }))
    by_fault (Faulty kind) is = (kind, refl, is)
    by_fault (Unknown line) is = absurd is

-- the answer of the global section's run is that of the section
pub global_answered : {A : Type 0} (effects : Effects A) (flat : Flat) (answer : Result A RunFault) → AnswersGlobal effects flat answer →
    (subject : Subject) → IsCodeOf subject flat → AnswersSection effects (global_values subject.overrides subject.sections) answer
global_answered {A} effects flat answer run subject code =
    let P : Ended → Type 0 = λ e. AnswersRun effects flat.global.names e answer in
    section_answered effects flat.global.names (global_values subject.overrides subject.sections) answer
    (λ own is. global_values_names subject.overrides subject.sections own is ∙ sym (global_coded subject flat code.is))
    (subst P code.behaves.global run)

-- where the global section's run meets no fault, its values are those of the section
pub global_held : (flat : Flat) (held : List ℤ) (subject : Subject) → IsCodeOf subject flat → global_run flat ≡ Finished held →
    (values : List (List ℕ × ℤ)) × (global_values subject.overrides subject.sections ≡ Ok values) × (numbers_of values ≡ held)
global_held flat held subject code run =
    by_values (global_values subject.overrides subject.sections) refl (sym code.behaves.global ∙ run)
  where
    by_fault : (place : ℕ) (f : Fault) → fault_end place f ≡ Finished held → ⊥
    by_fault place (Faulty kind) is = cc
    by_fault place (Unknown line) is = cc

    by_values : (r : Result (List (List ℕ × ℤ)) SectionFault) → global_values subject.overrides subject.sections ≡ r →
        end_of r ≡ Finished held →
        (values : List (List ℕ × ℤ)) × (global_values subject.overrides subject.sections ≡ Ok values) × (numbers_of values ≡ held)
    by_values (Ok values) is ends = (values, is, cc)
    by_values (Err fault) is ends = absurd (by_fault fault.place fault.fault ends)

module _ (run : PartRun) (ran : global_run run.flat ≡ Finished run.global) (fits : length run.numbers ≡ tags_of run.flat run.part) where
  -- the answer of a part's run is that of its section
  pub own_answered : {A : Type 0} (effects : Effects A) (answer : Result A RunFault) → AnswersPart effects run answer →
      (subject : Subject) → IsCodeOf subject run.flat → AnswersOwn effects subject run.part run.numbers answer
  own_answered {A} effects answer is subject code =
      let flat = run.flat in
      let part = run.part in
      let numbers = run.numbers in
      let names = (own_section flat part).names in
      let found = global_held flat run.global subject code ran in
      let P : Ended → Type 0 = λ e. AnswersRun effects names e answer in
      record {
        values = found.0;
        global = found.1;
        answer_is =
            section_answered effects names (own_values subject.table subject.sections part numbers found.0) answer
            (λ own is. own_named subject part numbers found.0 own is ∙ sym (own_coded subject flat part code.is))
            (subst P
            (ap (own_run flat part numbers) (sym found.2)
            ∙ code.behaves.own part numbers found.0 (fits ∙ tags_coded subject flat part code.is) found.1)
            is);
      }

-- the value of a name in the values that are held is that of the section
pub value_held : (flat : Flat) (held : List ℤ) (name : List ℕ) (number : Option ℤ) → global_run flat ≡ Finished held →
    number ≡ value_at held (last_place flat.global.names name) → (subject : Subject) → IsCodeOf subject flat →
    IsValueOf subject name number
value_held flat held name number run is subject code =
    let found = global_held flat held subject code run in
    record {
      values = found.0;
      global = found.1;
      value_is =
          is
          ∙ ap (λ (ns : List ℤ). value_at ns (last_place flat.global.names name)) (sym found.2)
          ∙ ap (λ (ns : List (List ℕ)). value_at (numbers_of found.0) (last_place ns name))
          (global_coded subject flat code.is ∙ sym (global_values_names subject.overrides subject.sections found.0 found.1))
          ∙ sym (value_placed found.0 name);
    }

-- a name has a value where the global section assigns it
pub value_assigned : (subject : Subject) (name : List ℕ) (number : Option ℤ) → IsValueOf subject name number →
    IsSome number ↔ IsTrue (is_among (names_in subject.sections.global) name)
value_assigned subject name number value =
    let same : is_some number ≡ is_among (names_in subject.sections.global) name =
    ap is_some value.value_is
    ∙ value_some value.values name
    ∙ ap (λ (ns : List (List ℕ)). is_among ns name) (global_values_names subject.overrides subject.sections value.values value.global) in
    (λ some. sym same ∙ some, λ among. same ∙ among)
