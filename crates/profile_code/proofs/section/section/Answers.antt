use Rattle.std.proofs.Common.{◌++◌, ◌∷◌, [], ◌∙◌, ap, refl, sym, max}
use Rattle.context_check.proofs.CallerLemmas.{overridden_name}
use Rattle.profile_code.specs.Scope.{rows_in}
use Rattle.profile_code.proofs.SectionLemmas.{Built, EmittedUpTo-code, EmittedUpTo-high, EmittedUpTo-more, EmittedUpTo-names, EmittedUpTo-none}
use Rattle.profile_text.specs.Expr.{assignment_in}
use Rattle.profile_code.proofs.section.section.Goals as goal

pub assigns-preserved : goal.assigns-preserved
assigns-preserved c =
    let rows = rows_in c.args.scope.now.tags in
    let global = c.args.scope.now.global.now in
    let assign = c.assign-item.result in
    let before : Built = record { instrs = c.assigns.instrs.items; names = c.assigns.names; height = c.assigns.height } in
    let after : Built = record { instrs = c.emit_assignment.new.code.items; names = c.push.new.self; height = c.max-height.result } in
    EmittedUpTo-more c.args.overrides.now rows global c.args.assigns.now c.assigns.assign-index before after assign c.assigns.invariant
    c.assigns-test.true c.assign-item.is
    (record {
      code = c.in_ok-one.ensures.exact.value;
      named = c.in_ok-push.ensures.value
          ∙ ap (λ n. c.assigns.names ++ n ∷ [])
          (c.as_slice.ensures.value ∙ sym (overridden_name c.args.overrides.now (assignment_in assign)));
      high = c.max-height.ensures ∙ ap (max c.assigns.height) c.in_ok-one.ensures.exact.exact;
    })

pub returns-clause-same : goal.returns-clause-same
returns-clause-same c =
    let built : Built = record { instrs = c.assigns.instrs.items; names = c.assigns.names; height = c.assigns.height } in
    EmittedUpTo-names c.args.overrides.now (rows_in c.args.scope.now.tags) c.args.scope.now.global.now c.args.assigns.now
    c.assigns.assign-index built c.assigns.invariant c.assigns-test.false

pub assigns-init : goal.assigns-init
assigns-init c =
    EmittedUpTo-none c.args.overrides.now (rows_in c.args.scope.now.tags) c.args.scope.now.global.now c.args.assigns.now
    (record { instrs = c.new-instrs.result.items; names = c.new-names.result; height = 0 }) c.new-instrs.ensures.items
    c.new-names.ensures.value refl

pub returns-clause-exact : goal.returns-clause-exact
returns-clause-exact c =
    let built : Built = record { instrs = c.assigns.instrs.items; names = c.assigns.names; height = c.assigns.height } in
    EmittedUpTo-high c.args.overrides.now (rows_in c.args.scope.now.tags) c.args.scope.now.global.now c.args.assigns.now
    c.assigns.assign-index built c.assigns.invariant c.assigns-test.false

pub returns-clause-value : goal.returns-clause-value
returns-clause-value c =
    let built : Built = record { instrs = c.assigns.instrs.items; names = c.assigns.names; height = c.assigns.height } in
    c.from_vec-instrs.ensures.value
    ∙ EmittedUpTo-code c.args.overrides.now (rows_in c.args.scope.now.tags) c.args.scope.now.global.now c.args.assigns.now
    c.assigns.assign-index built c.assigns.invariant c.assigns-test.false
