use Rattle.std.proofs.Common.{◌∙◌, sym, ap, subst, map, List, ℕ, ℤ, Result}
use Rattle.std.proofs.lemmas.Result.{err_from_is_err_and}
use Rattle.profile_text.specs.declared.profile.Assign.{Assign}
use Rattle.profile_text.specs.Expr.{assignment_in, sections_in}
use Rattle.profile_text.specs.Meaning.{SectionFault}
use Rattle.profile_values.specs.Vars.{IsRefusedBy, both_values}
use Rattle.profile_values.proofs.SectionValueLemmas.{global_is, own_is, refused_global, refused_own, refused_or, vars_both}
use Rattle.profile_values.proofs.values.section_values.Goals as goal

pub returns-in_err-global-clause-refused : goal.returns-in_err-global-clause-refused
returns-in_err-global-clause-refused c =
    let p = err_from_is_err_and c.from_residual.result c.from_residual.ensures.1 in
    let error = c.in_err-global.field-0.0 in
    let s = sections_in c.args.profile.now in
    let table = c.args.table.now in
    let numbers = c.args.numbers.now in
    let assignments_are = ap (λ (xs : List Assign). map assignment_in xs) c.as_slice.ensures.value in
    let is =
    global_is table s c.args.part numbers c.new-none.result
    (map assignment_in c.as_slice.result.now) c.new-none.ensures.value assignments_are in
    rw (p.1, p.2)
    (refused_or _ (both_values table s c.args.part numbers) error
    (λ refused. refused_global table s c.args.part numbers error
    (subst (λ (r : Result (List (List ℕ × ℤ)) SectionFault). IsRefusedBy r error) is refused))
    c.in_err-global.ensures.exact)

pub returns-in_err-own-clause-refused : goal.returns-in_err-own-clause-refused
returns-in_err-own-clause-refused c =
    let p = err_from_is_err_and c.from_residual-in_err-own.result c.from_residual-in_err-own.ensures.1 in
    let error = c.in_err-own.field-0.0 in
    let s = sections_in c.args.profile.now in
    let table = c.args.table.now in
    let numbers = c.args.numbers.now in
    let global = c.in_ok-global.global in
    let assignments_are = ap (λ (xs : List Assign). map assignment_in xs) c.as_slice.ensures.value in
    let first_is =
    global_is table s c.args.part numbers c.new-none.result
    (map assignment_in c.as_slice.result.now) c.new-none.ensures.value assignments_are in
    let second_is =
    own_is table s c.args.part numbers c.new-tagged.result global
    (map assignment_in c.assignments.result.now) c.new-tagged.ensures.value c.assignments.ensures.value in
    rw (p.1, p.2)
    (refused_or _ (both_values table s c.args.part numbers) error
    (λ refused. refused_own table s c.args.part numbers error global (sym first_is ∙ c.in_ok-global.ensures.exact)
    (subst (λ (r : Result (List (List ℕ × ℤ)) SectionFault). IsRefusedBy r error) second_is refused))
    c.in_err-own.ensures.exact)

pub returns-clause-value : goal.returns-clause-value
returns-clause-value c =
    let s = sections_in c.args.profile.now in
    let table = c.args.table.now in
    let numbers = c.args.numbers.now in
    let global = c.in_ok-global.global in
    let assignments_are = ap (λ (xs : List Assign). map assignment_in xs) c.as_slice.ensures.value in
    let first_is =
    global_is table s c.args.part numbers c.new-none.result
    (map assignment_in c.as_slice.result.now) c.new-none.ensures.value assignments_are in
    let second_is =
    own_is table s c.args.part numbers c.new-tagged.result global
    (map assignment_in c.assignments.result.now) c.new-tagged.ensures.value c.assignments.ensures.value in
    vars_both table s c.args.part numbers global c.in_ok-own.own c.in_ok-vars.vars (sym first_is ∙ c.in_ok-global.ensures.exact)
    (sym second_is ∙ c.in_ok-own.ensures.exact) c.in_ok-vars.ensures.value
