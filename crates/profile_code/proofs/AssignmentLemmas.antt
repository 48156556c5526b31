-- The code of assignments gives their values in order, or ends at the first fault.
use Rattle.std.proofs.Common.{◌≡◌, ℕ, ◌+◌, ◌<◌, ◌≤◌, List, [], ◌∷◌, ◌++◌, length, ℤ, None, Result, Ok, Err, refl, sym, ap, ◌∙◌, arith, length-append}
use Rattle.std.specs.Prelude.{if◌then◌else◌}
use Rattle.std.proofs.lemmas.Bool.{lt-ltb}
use Rattle.std.proofs.lemmas.List.{map-append, length-map}
use Rattle.context_check.proofs.CallerLemmas.{names_of, names_more, option_or-none}
use Rattle.context_check.specs.Checked.{IsArithmetic}
use Rattle.context_check.specs.Refusal.{name_refusal, expr_refusal, section_refusal}
use Rattle.profile_code.proofs.NameLemmas.{numbers_of}
use Rattle.profile_code.proofs.OperatorLemmas.{Gives}
use Rattle.profile_code.proofs.TreeLemmas.{Setting, IsSetting, context, code_in, value_in, gives_tree}
use Rattle.profile_code.specs.Correct.{end_of, fault_end}
use Rattle.profile_code.specs.Emit.{section_code, height_of, section_height}
use Rattle.profile_code.specs.Machine.{Given, Stuck, exec}
use Rattle.profile_code.specs.declared.instr.Instr.{Instr}
use Rattle.profile_code.specs.declared.instr.Instr.TheVariants.{Set}
use Rattle.profile_text.specs.Meaning.{Fault, SectionFault, and_then, with_value, values_from}
use Rattle.profile_text.specs.Tree.{Assignment}

-- the values of a section, or a fault that is no want of a name
abbrev pub AreKnown : Result (List (List ℕ × ℤ)) SectionFault → Type 0
AreKnown (Ok values) = Unit {0}
AreKnown (Err fault) = IsArithmetic fault.fault

-- the code of assignments ends as they do
pub record Ends (given : Given) (own : List ℤ) (code : List Instr) (r : Result (List (List ℕ × ℤ)) SectionFault) : Type 0 where
  pub runs : exec given code 0 [] own ≡ end_of r
  pub known : AreKnown r

-- the numbers of values with one more
numbers_more : (own : List (List ℕ × ℤ)) (name : List ℕ) (n : ℤ) → numbers_of (own ++ (name, n) ∷ []) ≡ numbers_of own ++ n ∷ []
numbers_more own name n = map-append (λ v. v.1) own ((name, n) ∷ [])

module _ (s : Setting) where
  -- the code of assignments, after those with these values
  abbrev pub codes_in : List (List ℕ × ℤ) → List Assignment → List Instr
  codes_in own assignments = section_code s.rows (names_of s.global) (names_of own) assignments

  -- their code ends as their values do
  abbrev pub EndsIn : List (List ℕ × ℤ) → List Assignment → Type 0
  EndsIn own assignments = Ends s.given (numbers_of own) (codes_in own assignments) (values_from s.looks s.global own assignments)

  -- a value is set, and the rest goes on after it
  sets : (own : List (List ℕ × ℤ)) (a : Assignment) (rest : List Assignment) (r : Result ℤ Fault) →
      Gives s.given (numbers_of own) (height_of a.value) (code_in s own a.value) r → height_of a.value ≤ s.given.room →
      length own < s.given.most → ((n : ℤ) → EndsIn (own ++ (a.name, n) ∷ []) rest) →
      Ends s.given (numbers_of own) (codes_in own (a ∷ rest))
      (and_then (with_value own a.name r) (λ values. values_from s.looks s.global values rest))
  sets own a rest (Ok n) gives fits below further =
      let later = section_code s.rows (names_of s.global) (names_of own ++ a.name ∷ []) rest in
      record {
        runs =
            gives.runs [] (Set ∷ later) (omega arith)
            ∙ ap (λ b. if b then exec s.given later 0 [] (numbers_of own ++ n ∷ []) else Stuck)
            (lt-ltb (length (numbers_of own)) s.given.most (omega (arith, length-map own (λ (v : List ℕ × ℤ). v.1))))
            ∙ ap (λ l. exec s.given (section_code s.rows (names_of s.global) l rest) 0 [] (numbers_of own ++ n ∷ []))
            (sym (names_more own a.name n))
            ∙ ap (λ l. exec s.given (codes_in (own ++ (a.name, n) ∷ []) rest) 0 [] l) (sym (numbers_more own a.name n))
            ∙ (further n).runs;
        known = (further n).known;
      }
  sets own a rest (Err f) gives fits below further = record {
    runs =
        gives.runs [] (Set ∷ section_code s.rows (names_of s.global) (names_of own ++ a.name ∷ []) rest) (omega arith)
        ∙ ap (λ k. fault_end k f) (length-map own (λ (v : List ℕ × ℤ). v.1));
    known = gives.known;
  }

  -- assignments in which nothing is at fault, after those with these values
  pub ends : (own : List (List ℕ × ℤ)) (assignments : List Assignment) → IsSetting s →
      section_refusal (context s) (names_of own) assignments ≡ None → section_height assignments ≤ s.given.room →
      s.given.most ≡ length own + length assignments → EndsIn own assignments
  ends own [] is none fits most = record { runs = refl; known = tt }
  ends own (a ∷ rest) is none fits most =
      let later = (option_or-none (name_refusal s.section a) _ none).1 in
      let parts = option_or-none (expr_refusal (context s) (names_of own) a.value) _ later in
      sets own a rest (value_in s own a.value) (gives_tree s own a.value is parts.0) (omega arith) (omega arith) (λ n.
      ends (own ++ (a.name, n) ∷ []) rest is
      (ap (λ l. section_refusal (context s) l rest) (names_more own a.name n) ∙ parts.1)
      (omega arith)
      (omega (arith, length-append own ((a.name, n) ∷ []))))
