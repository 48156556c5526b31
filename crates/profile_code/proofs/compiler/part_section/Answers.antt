use Rattle.std.proofs.Common.{List, ℕ, ℤ, [], subst}
use Rattle.std.specs.Prelude.{◌≡◌, IfOk}
use Rattle.lookup_table.specs.First.{rows_of}
use Rattle.profile_code.specs.Emit.{section_code, section_height}
use Rattle.profile_code.proofs.SectionLemmas.{under}
use Rattle.profile_code.proofs.compiler.part_section.Goals as goal

pub returns-clause-value : goal.returns-clause-value
returns-clause-value c =
    let rows = rows_of c.args.table.now c.args.part in
    subst (λ (none : List (List ℕ × ℤ)). IfOk c.section.result (λ s.
    s.0.instrs ≡ section_code rows c.args.global.now [] (under none c.args.assigns.now))) c.new-overrides.ensures.value
    c.section.ensures.value

pub returns-clause-exact : goal.returns-clause-exact
returns-clause-exact c =
    subst (λ (none : List (List ℕ × ℤ)). IfOk c.section.result (λ s. s.1 ≡ section_height (under none c.args.assigns.now)))
    c.new-overrides.ensures.value c.section.ensures.exact
