use Rattle.std.proofs.Common.{◌∙◌, ◌-◌, sym, ap, subst, Result}
use Rattle.std.proofs.lemmas.Result.{err_from_is_err_and}
use Rattle.profile_text.specs.declared.error.TextError.{TextError}
use Rattle.profile_text.specs.declared.expected.Expected.TheVariants.{Closing, ThenWord, ElseWord}
use Rattle.profile_text.specs.Expr.{tree_of}
use Rattle.profile_text.specs.Read.{Read, and_then, read, taken, form_of, expr_of}
use Rattle.profile_text.specs.Source.{Reads, token_of}
use Rattle.profile_text.specs.Tree.{Tree, Negation, Operation, Choice}
use Rattle.profile_text.proofs.ReadLemmas.{after, expr_more, made, refused_as, stopped}
use Rattle.profile_text.proofs.ReadLemmas.{if_second, if_third, if_whole, switch_second, switch_third, switch_whole, two_second, two_whole}
use Rattle.profile_text.proofs.read_expr.+expression.Goals as goal

pub read_expr-returns : goal.read_expr-returns
read_expr-returns t c =
    let token = token_of c.in_ok-token.token in
    let P : Result (Read Tree) TextError → Type 0 = λ x. Reads tree_of x c.read_form.new.reader c.read_form.result in
    record {
      exact = subst P
          (sym (expr_more c.args.room c.args.reader.now c.taken.new.reader token c.if-room-eq0.false c.in_ok-token.ensures.exact
          ∙ ap (λ k. form_of (expr_of (c.args.room - 1)) token k c.taken.new.reader) (sym c.kind_of.ensures.value)))
          c.read_form.ensures.exact;
    }

pub read_not-returns-in_err-operand : goal.read_not-returns-in_err-operand
read_not-returns-in_err-operand t c =
    let p = err_from_is_err_and c.from_residual.result c.from_residual.ensures.1 in
    record {
      exact = rw (p.1, p.2)
          (stopped (expr_of c.args.room c.args.reader.now) (λ a q. read (Negation a) q) _ c.in_err-operand.ensures.exact);
    }

pub read_not-returns : goal.read_not-returns
read_not-returns t c = record {
  exact = made (Negation (tree_of c.in_ok-operand.operand)) c.read_expr.new.reader _ c.negation_of.result
      (ap (λ r. and_then r (λ a p. read (Negation a) p)) c.in_ok-operand.ensures.exact) c.negation_of.ensures.exact;
}

pub read_two-returns-in_err-first : goal.read_two-returns-in_err-first
read_two-returns-in_err-first t c =
    let p = err_from_is_err_and c.from_residual.result c.from_residual.ensures.1 in
    record {
      exact = rw (p.1, p.2)
          (stopped (expr_of c.args.room c.args.reader.now)
          (λ a q. and_then (expr_of c.args.room q) (λ b r. read (Operation c.args.op a b) r)) _ c.in_err-first.ensures.exact);
    }

pub read_two-returns-in_err-second : goal.read_two-returns-in_err-second
read_two-returns-in_err-second t c =
    let p = err_from_is_err_and c.from_residual-in_err-second.result c.from_residual-in_err-second.ensures.1 in
    let a = tree_of c.in_ok-first.first in
    let q = c.read_expr.new.reader in
    record {
      exact = rw (p.1, p.2)
          (refused_as _ _ _ (two_second (expr_of c.args.room) a c.args.reader.now q c.args.op c.in_ok-first.ensures.exact)
          (stopped (expr_of c.args.room q) (λ b r. read (Operation c.args.op a b) r) _ c.in_err-second.ensures.exact));
    }

pub read_two-returns : goal.read_two-returns
read_two-returns t c =
    let a = tree_of c.in_ok-first.first in
    let b = tree_of c.in_ok-second.second in
    record {
      exact = made (Operation c.args.op a b) c.read_expr-2.new.reader _ c.operation_of.result
          (two_whole (expr_of c.args.room) a b c.args.reader.now c.read_expr.new.reader c.read_expr-2.new.reader c.args.op
          c.in_ok-first.ensures.exact c.in_ok-second.ensures.exact)
          c.operation_of.ensures.exact;
    }

pub read_switch-returns-in_err-test : goal.read_switch-returns-in_err-test
read_switch-returns-in_err-test t c =
    let p = err_from_is_err_and c.from_residual.result c.from_residual.ensures.1 in
    record {
      exact = rw (p.1, p.2)
          (stopped (expr_of c.args.room c.args.reader.now)
          (λ a q. and_then (expr_of c.args.room q) (λ b r. and_then (expr_of c.args.room r) (λ c s. read (Choice a b c) s)))
          _ c.in_err-test.ensures.exact);
    }

pub read_switch-returns-in_err-chosen : goal.read_switch-returns-in_err-chosen
read_switch-returns-in_err-chosen t c =
    let p = err_from_is_err_and c.from_residual-in_err-chosen.result c.from_residual-in_err-chosen.ensures.1 in
    let a = tree_of c.in_ok-test.test in
    let q = c.read_expr.new.reader in
    record {
      exact = rw (p.1, p.2)
          (refused_as _ _ _ (switch_second (expr_of c.args.room) a c.args.reader.now q c.in_ok-test.ensures.exact)
          (stopped (expr_of c.args.room q)
          (λ b r. and_then (expr_of c.args.room r) (λ c s. read (Choice a b c) s))
          _ c.in_err-chosen.ensures.exact));
    }

pub read_switch-returns-in_err-other : goal.read_switch-returns-in_err-other
read_switch-returns-in_err-other t c =
    let p = err_from_is_err_and c.from_residual-in_err-other.result c.from_residual-in_err-other.ensures.1 in
    let a = tree_of c.in_ok-test.test in
    let b = tree_of c.in_ok-chosen.chosen in
    let r = c.read_expr-2.new.reader in
    record {
      exact = rw (p.1, p.2)
          (refused_as _ _ _
          (switch_third (expr_of c.args.room) a b c.args.reader.now c.read_expr.new.reader r c.in_ok-test.ensures.exact
          c.in_ok-chosen.ensures.exact)
          (stopped (expr_of c.args.room r) (λ c s. read (Choice a b c) s) _ c.in_err-other.ensures.exact));
    }

pub read_switch-returns : goal.read_switch-returns
read_switch-returns t c =
    let a = tree_of c.in_ok-test.test in
    let b = tree_of c.in_ok-chosen.chosen in
    let other = tree_of c.in_ok-other.other in
    record {
      exact = made (Choice a b other) c.read_expr-3.new.reader _ c.choice_of.result
          (switch_whole (expr_of c.args.room) a b other c.args.reader.now c.read_expr.new.reader c.read_expr-2.new.reader
          c.read_expr-3.new.reader
          c.in_ok-test.ensures.exact c.in_ok-chosen.ensures.exact c.in_ok-other.ensures.exact)
          c.choice_of.ensures.exact;
    }

pub read_if-returns-in_err-test : goal.read_if-returns-in_err-test
read_if-returns-in_err-test t c =
    let p = err_from_is_err_and c.from_residual.result c.from_residual.ensures.1 in
    record {
      exact = rw (p.1, p.2)
          (stopped (expr_of c.args.room c.args.reader.now)
          (λ a q. and_then (taken ThenWord q) (λ t q2. and_then (expr_of c.args.room q2)
          (λ b r. and_then (taken ElseWord r) (λ u r2. and_then (expr_of c.args.room r2) (λ c s. read (Choice a b c) s)))))
          _ c.in_err-test.ensures.exact);
    }

pub read_if-returns-in_err-chosen : goal.read_if-returns-in_err-chosen
read_if-returns-in_err-chosen t c =
    let p = err_from_is_err_and c.from_residual-in_err-chosen.result c.from_residual-in_err-chosen.ensures.1 in
    let a = tree_of c.in_ok-test.test in
    let q = c.read_expr.new.reader in
    record {
      exact = rw (p.1, p.2)
          (refused_as _ _ _ (if_second (expr_of c.args.room) a c.args.reader.now q c.in_ok-test.ensures.exact)
          (stopped (after (expr_of c.args.room) ThenWord q)
          (λ b r. and_then (taken ElseWord r) (λ u r2. and_then (expr_of c.args.room r2) (λ c s. read (Choice a b c) s)))
          _ c.in_err-chosen.ensures.exact));
    }

pub read_if-returns-in_err-other : goal.read_if-returns-in_err-other
read_if-returns-in_err-other t c =
    let p = err_from_is_err_and c.from_residual-in_err-other.result c.from_residual-in_err-other.ensures.1 in
    let a = tree_of c.in_ok-test.test in
    let b = tree_of c.in_ok-chosen.chosen in
    let r = c.read_after.new.reader in
    record {
      exact = rw (p.1, p.2)
          (refused_as _ _ _
          (if_third (expr_of c.args.room) a b c.args.reader.now c.read_expr.new.reader r c.in_ok-test.ensures.exact
          c.in_ok-chosen.ensures.exact)
          (stopped (after (expr_of c.args.room) ElseWord r) (λ c s. read (Choice a b c) s) _ c.in_err-other.ensures.exact));
    }

pub read_if-returns : goal.read_if-returns
read_if-returns t c =
    let a = tree_of c.in_ok-test.test in
    let b = tree_of c.in_ok-chosen.chosen in
    let other = tree_of c.in_ok-other.other in
    record {
      exact = made (Choice a b other) c.read_after-2.new.reader _ c.choice_of.result
          (if_whole (expr_of c.args.room) a b other c.args.reader.now c.read_expr.new.reader c.read_after.new.reader
          c.read_after-2.new.reader
          c.in_ok-test.ensures.exact c.in_ok-chosen.ensures.exact c.in_ok-other.ensures.exact)
          c.choice_of.ensures.exact;
    }

pub read_bracket-returns-in_err-value : goal.read_bracket-returns-in_err-value
read_bracket-returns-in_err-value t c =
    let p = err_from_is_err_and c.from_residual.result c.from_residual.ensures.1 in
    record {
      exact = rw (p.1, p.2)
          (stopped (expr_of c.args.room c.args.reader.now) (λ a q. and_then (taken Closing q) (λ t r. read a r)) _
          c.in_err-value.ensures.exact);
    }

pub read_bracket-returns : goal.read_bracket-returns
read_bracket-returns t c = record {
  exact =
      ap (λ x. and_then x (λ a q. and_then (taken Closing q) (λ t r. read a r))) c.in_ok-value.ensures.exact
      ∙ ap (λ x. and_then x (λ t r. read (tree_of c.in_ok-value.value) r)) c.in_ok-taken.ensures.exact;
}

pub read_after-returns : goal.read_after-returns
read_after-returns t c =
    let P : Result (Read Tree) TextError → Type 0 = λ x. Reads tree_of x c.read_expr.new.reader c.read_expr.result in
    record {
      exact = subst P (sym (ap (λ x. and_then x (λ t q. expr_of c.args.room q)) c.in_ok-taken.ensures.exact)) c.read_expr.ensures.exact;
    }
