use Rattle.std.proofs.Common.{List, ℕ, [], subst}
use Rattle.std.specs.Prelude.{◌≡◌, IfOk}
use Rattle.profile_code.specs.Emit.{section_code}
use Rattle.profile_code.proofs.SectionLemmas.{under}
use Rattle.profile_code.proofs.compiler.global_section.Goals as goal

pub returns-clause-value : goal.returns-clause-value
returns-clause-value c =
    let all = under c.args.overrides.now c.args.assigns.now in
    subst (λ (names : List (List ℕ)). IfOk c.section.result (λ s. s.0.instrs ≡ section_code [] names [] all)) c.new-names.ensures.value
    c.section.ensures.value
