-- The answer of a run. This project's own rule.
use Rattle.std.specs.Prelude.{◌≡◌, ℕ, List, ℤ, Option, Result, Ok, Err}
use Rattle.context_check.specs.Checked.{Subject}
use Rattle.fixed_num.specs.declared.arithmetic.Arith.{Arith}
use Rattle.lookup_table.specs.declared.part.Part.{Part}
use Rattle.profile_code.specs.Effects.{last_or, placed_or}
use Rattle.profile_code.specs.Flat.{Flat, global_run, own_run, own_section}
use Rattle.profile_code.specs.Machine.{Ended, Finished, Faulted, Stuck}
use Rattle.profile_code.specs.Scratch.{held_values}
use Rattle.profile_code.specs.declared.fault.Fault.{Fault}
use Rattle.profile_code.specs.declared.scratch.Scratch.{Scratch}
use Rattle.profile_text.specs.Meaning.{SectionFault, Faulty, global_values, last_value, own_values}

-- the end of a run that answers so and leaves these values
abbrev pub ended : Result (Unit {0}) Fault → List ℤ → Ended
ended (Ok done) own = Finished own
ended (Err fault) own = Faulted fault.variable fault.kind

-- what an answer makes of the values that names come to, each its own or a default
abbrev pub Effects : Type 0 → Type 0
Effects A = (List ℕ → ℤ → ℤ) → A

-- ---- By the machine

-- the answer is that of a run of the machine over assignments of these names: what their values come to, or
-- its fault
abbrev pub AnswersRun : {A : Type 0} → Effects A → List (List ℕ) → Ended → Result A Fault → Type 0
AnswersRun effects names (Finished values) answer = answer ≡ Ok (effects (placed_or names values))
AnswersRun effects names (Faulted place kind) answer = answer ≡ Err (record { variable = place; kind = kind })
AnswersRun effects names Stuck answer = ⊥

-- the answer is that of the global section's run
abbrev pub AnswersGlobal : {A : Type 0} → Effects A → Flat → Result A Fault → Type 0
AnswersGlobal effects flat answer = AnswersRun effects flat.global.names (global_run flat) answer

-- the run of a part's section: its code, its tag numbers, and the values of the global section
pub record PartRun : Type 0 where
  pub flat : Flat
  pub part : Part
  pub numbers : List ℕ
  pub global : List ℤ

-- the run of a part's section in a scratch
abbrev pub part_run : Flat → Part → List ℕ → Scratch → PartRun
part_run flat part numbers scratch =
    record { flat = flat; part = part; numbers = numbers; global = held_values scratch }

-- the answer is that of this run
abbrev pub AnswersPart : {A : Type 0} → Effects A → PartRun → Result A Fault → Type 0
AnswersPart effects run answer =
    let names = (own_section run.flat run.part).names in
    AnswersRun effects names (own_run run.flat run.part run.numbers run.global) answer

-- ---- By the meaning of the profile

-- the answer is that of a section of the profile: what its values come to, or its first fault, which is one
-- of arithmetic
abbrev pub AnswersSection :
    {A : Type 0} → Effects A → Result (List (List ℕ × ℤ)) SectionFault → Result A Fault → Type 0
AnswersSection effects (Ok values) answer = answer ≡ Ok (effects (last_or values))
AnswersSection effects (Err fault) answer =
    (kind : Arith) × (fault.fault ≡ Faulty kind)
    × (answer ≡ Err (record { variable = fault.place; kind = kind }))

-- the answer is that of a part's section on these tag numbers, after the values of the global section, which
-- meets no fault
pub record AnswersOwn {A : Type 0} (effects : Effects A) (subject : Subject) (part : Part) (numbers : List ℕ)
    (answer : Result A Fault) : Type 0 where
  pub values : List (List ℕ × ℤ)
  pub global : global_values subject.overrides subject.sections ≡ Ok values
  pub answer_is :
      AnswersSection effects (own_values subject.table subject.sections part numbers values) answer

-- the number is the value that the global section, which meets no fault, gave the name last
pub record IsValueOf (subject : Subject) (name : List ℕ) (number : Option ℤ) : Type 0 where
  pub values : List (List ℕ × ℤ)
  pub global : global_values subject.overrides subject.sections ≡ Ok values
  pub value_is : number ≡ last_value values name
