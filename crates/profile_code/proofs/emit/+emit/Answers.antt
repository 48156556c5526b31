use Rattle.std.proofs.Common.{◌≡◌, ◌++◌, ◌∷◌, [], ◌∙◌, ℕ, suc, max, length, refl, sym, ap, append_assoc, List}
use Rattle.std.specs.Prelude.{Result, Ok, Err, IfOk, OnOk}
use Rattle.std.specs.declared.alloc.AllocError.{AllocError}
use Rattle.lookup_table.specs.Tag.{place_of}
use Rattle.profile_code.specs.declared.instr.Instr.{Instr}
use Rattle.profile_code.specs.declared.instr.Instr.TheVariants.{Not}
use Rattle.profile_code.specs.Emit.{Emits, Piece, choice_code, look_instr, operation_code, piece_of, variable_instr}
use Rattle.profile_code.specs.Operands.{between}
use Rattle.profile_code.specs.Scope.{rows_in}
use Rattle.profile_text.specs.Expr.{tree_of}
use Rattle.profile_text.specs.Meaning.{look_at}
use Rattle.profile_text.specs.Names.{last_place}
use Rattle.profile_text.specs.declared.expr.Expr.{Expr}
use Rattle.profile_code.proofs.PatchLemmas.{append_choice, operation_is}
use Rattle.profile_code.proofs.emit.+emit.Goals as goal

-- a call appends the operations of a piece
emits : (piece : Piece) (old new ops : List Instr) (height : ℕ) (result : Result ℕ AllocError) → OnOk result (new ≡ old ++ ops) →
    IfOk result (λ h. h ≡ height) → piece.ops ≡ ops → piece.height ≡ height → Emits piece old new result
emits piece old new ops height (Ok h) v e o p = record { value = v ∙ ap (λ l. old ++ l) (sym o); exact = e ∙ sym p }
emits piece old new ops height (Err fault) v e o p = tt

-- a call appends the last operations of a piece, behind its first ones
emits_more : (piece : Piece) (old mid new ops more : List Instr) (height : ℕ) (result : Result ℕ AllocError) → mid ≡ old ++ ops →
    OnOk result (new ≡ mid ++ more) → IfOk result (λ h. h ≡ height) → piece.ops ≡ ops ++ more → piece.height ≡ height →
    Emits piece old new result
emits_more piece old mid new ops more height (Ok h) m v e o p = record {
  value = v ∙ ap (λ l. l ++ more) m ∙ append_assoc old ops more ∙ ap (λ l. old ++ l) (sym o);
  exact = e ∙ sym p;
}
emits_more piece old mid new ops more height (Err fault) m v e o p = tt

pub returns-in-Number : goal.returns-in-Number
returns-in-Number t c =
    let piece : Expr → Piece = λ e. piece_of (rows_in c.args.scope.now.tags) c.args.scope.now.global.now c.args.own.now (tree_of e) in
    record {
      exact =
          emits (piece c.args.expr.now) c.args.code.now.items c.put_behind.new.code.items _ 1 c.put_behind.result
          c.put_behind.ensures.value c.put_behind.ensures.exact (ap (λ e. (piece e).ops) c.in-Number.is)
          (ap (λ e. (piece e).height) c.in-Number.is);
    }

pub returns-in-Var : goal.returns-in-Var
returns-in-Var t c =
    let global = c.args.scope.now.global.now in
    let own = c.args.own.now in
    let piece : Expr → Piece = λ e. piece_of (rows_in c.args.scope.now.tags) global own (tree_of e) in
    record {
      exact =
          emits (piece c.args.expr.now) c.args.code.now.items c.put_behind-in-Var.new.code.items _ 1 c.put_behind-in-Var.result
          c.put_behind-in-Var.ensures.value c.put_behind-in-Var.ensures.exact
          (ap (λ e. (piece e).ops) c.in-Var.is
          ∙ ap (λ n. variable_instr (last_place own n) (last_place global n) ∷ []) (sym c.as_slice.ensures.value)
          ∙ ap (λ i. i ∷ []) (sym c.variable.ensures.exact))
          (ap (λ e. (piece e).height) c.in-Var.is);
    }

pub returns-in_ok-look-in-Look : goal.returns-in_ok-look-in-Look
returns-in_ok-look-in-Look t c =
    let rows = rows_in c.args.scope.now.tags in
    let tag = c.in-Look.tag in
    let piece : Expr → Piece = λ e. piece_of rows c.args.scope.now.global.now c.args.own.now (tree_of e) in
    record {
      exact =
          emits (piece c.args.expr.now) c.args.code.now.items c.put_behind-in-Look.new.code.items _ 1 c.put_behind-in-Look.result
          c.put_behind-in-Look.ensures.value c.put_behind-in-Look.ensures.exact
          (ap (λ e. (piece e).ops) c.in-Look.is
          ∙ ap (λ vs. look_instr tag (look_at rows (place_of rows tag) vs) ∷ []) (sym c.as_slice-in-Look.ensures.value)
          ∙ ap (λ i. i ∷ []) (sym c.in_ok-look-in-Look.ensures.exact))
          (ap (λ e. (piece e).height) c.in-Look.is);
    }

pub returns-in_ok-height-in-Not : goal.returns-in_ok-height-in-Not
returns-in_ok-height-in-Not t c =
    let piece : Expr → Piece = λ e. piece_of (rows_in c.args.scope.now.tags) c.args.scope.now.global.now c.args.own.now (tree_of e) in
    let first = c.in_ok-height-in-Not.ensures.exact in
    let there = sym c.deref.ensures in
    record {
      exact =
          emits_more (piece c.args.expr.now) c.args.code.now.items c.emit.new.code.items c.put_behind-in-Not.new.code.items
          (piece c.deref.result.now).ops _ _ c.put_behind-in-Not.result first.value c.put_behind-in-Not.ensures.value
          c.put_behind-in-Not.ensures.exact
          (ap (λ e. (piece e).ops) c.in-Not.is ∙ ap (λ e. (piece e).ops ++ Not ∷ []) there)
          (ap (λ e. (piece e).height) c.in-Not.is ∙ ap (λ e. (piece e).height) there ∙ sym first.exact);
    }

pub returns-in_ok-second-in-Two : goal.returns-in_ok-second-in-Two
returns-in_ok-second-in-Two t c =
    let piece : Expr → Piece = λ e. piece_of (rows_in c.args.scope.now.tags) c.args.scope.now.global.now c.args.own.now (tree_of e) in
    let old = c.args.code.now.items in
    let op = c.in-Two.op in
    let a = c.deref-in-Two.result.now in
    let b = c.deref-in-Two-2.result.now in
    let first = c.in_ok-first-in-Two.ensures.exact in
    let second = c.in_ok-second-in-Two.ensures.exact in
    let a_is = sym c.deref-in-Two.ensures in
    let b_is = sym c.deref-in-Two-2.ensures in
    let begun = c.in_ok-start-in-Two.ensures.value ∙ ap (λ l. l ++ between op 0) first.value in
    record {
      exact =
          emits_more (piece c.args.expr.now) old (old ++ (piece a).ops) c.end_two.new.code.items (piece a).ops _ _ c.end_two.result
          refl
          (c.end_two.ensures.value (old ++ (piece a).ops) (piece b).ops (second.value ∙ ap (λ l. l ++ (piece b).ops) begun)
          (c.in_ok-start-in-Two.ensures.fits ∙ ap length begun))
          c.end_two.ensures.exact
          (ap (λ e. (piece e).ops) c.in-Two.is
          ∙ ap (λ e. operation_code op (piece e).ops (piece c.in-Two.b.value).ops) a_is
          ∙ ap (λ e. operation_code op (piece a).ops (piece e).ops) b_is
          ∙ operation_is op (piece a).ops (piece b).ops)
          (ap (λ e. (piece e).height) c.in-Two.is
          ∙ ap (λ e. max (piece e).height (suc (piece c.in-Two.b.value).height)) a_is
          ∙ ap (λ e. max (piece a).height (suc (piece e).height)) b_is
          ∙ ap (λ n. max n (suc (piece b).height)) (sym first.exact)
          ∙ ap (λ n. max c.in_ok-first-in-Two.first (suc n)) (sym second.exact));
    }

pub returns-in_ok-third-in-Pick : goal.returns-in_ok-third-in-Pick
returns-in_ok-third-in-Pick t c =
    let piece : Expr → Piece = λ e. piece_of (rows_in c.args.scope.now.tags) c.args.scope.now.global.now c.args.own.now (tree_of e) in
    let ops : Expr → List Instr = λ e. (piece e).ops in
    let high : Expr → ℕ = λ e. (piece e).height in
    let old = c.args.code.now.items in
    let a = c.deref-in-Pick.result.now in
    let b = c.deref-in-Pick-2.result.now in
    let d = c.deref-in-Pick-3.result.now in
    let one = c.in_ok-first-in-Pick.ensures.exact in
    let two = c.in_ok-second-in-Pick.ensures.exact in
    let three = c.in_ok-third-in-Pick.ensures.exact in
    let first = c.in_ok-first-in-Pick.first in
    let second = c.in_ok-second-in-Pick.second in
    record {
      exact =
          record {
            value =
                c.close_choice.ensures.value
                ∙ append_choice old (ops a) (ops b) (ops d) _ _ _ _ _ _ _ _ _ _ one.value
                (c.len-test.ensures ∙ c.emit-in-Pick.new.code.ok.0) c.in_ok-put-in-Pick.ensures.value two.value
                (c.len-jump.ensures ∙ c.emit-in-Pick-2.new.code.ok.0) c.in_ok-put-in-Pick-2.ensures.value three.value refl
                ∙ ap (λ e. old ++ choice_code (ops e) (ops b) (ops d)) c.deref-in-Pick.ensures
                ∙ ap (λ e. old ++ choice_code (ops c.in-Pick.a.value) (ops e) (ops d)) c.deref-in-Pick-2.ensures
                ∙ ap (λ e. old ++ choice_code (ops c.in-Pick.a.value) (ops c.in-Pick.b.value) (ops e)) c.deref-in-Pick-3.ensures
                ∙ ap (λ e. old ++ ops e) (sym c.in-Pick.is);
            exact =
                c.max-in-Pick.ensures
                ∙ ap (max first) c.max.ensures
                ∙ ap (λ n. max n (max second c.in_ok-third-in-Pick.third)) one.exact
                ∙ ap (λ n. max (high a) (max n c.in_ok-third-in-Pick.third)) two.exact
                ∙ ap (λ n. max (high a) (max (high b) n)) three.exact
                ∙ ap (λ e. max (high e) (max (high b) (high d))) c.deref-in-Pick.ensures
                ∙ ap (λ e. max (high c.in-Pick.a.value) (max (high e) (high d))) c.deref-in-Pick-2.ensures
                ∙ ap (λ e. max (high c.in-Pick.a.value) (max (high c.in-Pick.b.value) (high e))) c.deref-in-Pick-3.ensures
                ∙ ap high (sym c.in-Pick.is);
          };
    }
