-- Expressions that are refused: what stands before the fault begins one that may be one deeper.
use Rattle.std.proofs.Common.{◌≡◌, ℕ, zero, suc, List, [], ◌∷◌, refl, sym, ap, ◌∙◌, Option, Some, None, Result, Err}
use lib.Chars.{codes}
use Rattle.profile_text.specs.declared.error.TextError.{TextError}
use Rattle.profile_text.specs.declared.error.TextError.TheVariants.{At}
use Rattle.profile_text.specs.declared.error.TextKind.{TextKind}
use Rattle.profile_text.specs.declared.error.TextKind.TheVariants.{End, Deep}
use Rattle.profile_text.specs.declared.expected.Expected.TheVariants.{Expression, Closing, ThenWord, ElseWord}
use Rattle.profile_text.specs.declared.expr.Op.{Op}
use Rattle.profile_text.specs.declared.kind.Kind.{Kind}
use Rattle.profile_text.specs.declared.kind.Kind.TheVariants.{Open, Not, Switch, If, Two}
use Rattle.profile_text.specs.Grammar.{a_not, a_two, a_switch, an_if, a_bracket}
use Rattle.profile_text.specs.Kind.{kind_of}
use Rattle.profile_text.specs.Read.{Read, read, and_then, expression_fault, taken, form_of, expr_of}
use Rattle.profile_text.specs.Token.{Token, Place}
use Rattle.profile_text.specs.Tree.{Tree, Negation, Operation, Choice}
use Rattle.profile_text.proofs.FoundLemmas.{then_word, else_word}
use Rattle.profile_text.proofs.FrontLemmas.{nothing, deeper}
use Rattle.profile_text.proofs.GrammarLemmas.{before}
use Rattle.profile_text.proofs.StopLemmas.{token, with_true, some_expr, then_is, else_is, close_is, Stops, taken_by, taken_none, same_error, token_then}
use Rattle.profile_text.proofs.OperandLemmas.{not_err, Viable, viable_none, ExprStops, operand_then, number, with_else, with_then}

-- a token that begins a form whose operands stop so
module _ (room : ℕ) (stops : ExprStops room) (t : Token) (last : ℕ) (ts : List Token) (e : TextError) where
  -- the token and the front begin an expression
  abbrev WithToken : (List Token → List Token) → Type 0
  WithToken fill = Viable (suc (suc room)) (λ tail. t ∷ fill tail)

  -- a reading after the token that stops so
  abbrev FormStops : (Place → Result (Read Tree) TextError) → Type 0
  FormStops R = R (before last ts) ≡ Err e → Stops R WithToken ts e

  -- the operand of `not`
  not_stops : kind_of t.text ≡ Not → FormStops (λ p. and_then (expr_of room p) (λ a p. read (Negation a) p))
  not_stops k h = operand_then room (λ a p. read (Negation a) p) WithToken last ts e stops
      (λ fill v. record {
        more = v.more;
        tree = Negation v.tree;
        spells = λ tail. a_not (suc room) t (fill (v.more tail)) v.tree tail k (v.spells tail);
      })
      (λ a used l us spells h. absurd (not_err _ _ h))
      h

  -- two operands
  two_stops : (op : Op) → kind_of t.text ≡ Two op
      → FormStops (λ p. and_then (expr_of room p) (λ a p. and_then (expr_of room p) (λ b q. read (Operation op a b) q)))
  two_stops op k h = operand_then room (λ a p. and_then (expr_of room p) (λ b q. read (Operation op a b) q)) WithToken last ts e stops
      (λ fill v. record {
        more = λ tail. v.more (with_true tail);
        tree = Operation op v.tree number;
        spells =
            λ tail. a_two (suc room) t op (fill (v.more (with_true tail))) (with_true tail) v.tree number tail k (v.spells (with_true tail))
            (some_expr room tail);
      })
      (λ a used l us first h. operand_then room (λ b q. read (Operation op a b) q)
      (λ fill. WithToken (λ tail. used.fill (fill tail))) l us e stops
      (λ fill v. record {
        more = v.more;
        tree = Operation op a v.tree;
        spells =
            λ tail. a_two (suc room) t op (used.fill (fill (v.more tail))) (fill (v.more tail)) a v.tree tail k
            (deeper room _ _ _ (first (fill (v.more tail)))) (v.spells tail);
      })
      (λ b used2 l us spells h. absurd (not_err _ _ h))
      h)
      h

  -- the three operands of `switch`
  switch_stops : kind_of t.text ≡ Switch
      → FormStops (λ p. and_then (expr_of room p)
      (λ a p. and_then (expr_of room p) (λ b q. and_then (expr_of room q) (λ c r. read (Choice a b c) r))))
  switch_stops k h =
      operand_then room (λ a p. and_then (expr_of room p) (λ b q. and_then (expr_of room q) (λ c r. read (Choice a b c) r))) WithToken last
      ts e stops
      (λ fill v. record {
        more = λ tail. v.more (with_true (with_true tail));
        tree = Choice v.tree number number;
        spells =
            λ tail. a_switch (suc room) t (fill (v.more (with_true (with_true tail)))) (with_true (with_true tail))
            (with_true tail) v.tree number number tail k
            (v.spells (with_true (with_true tail))) (some_expr room (with_true tail)) (some_expr room tail);
      })
      (λ a used l us first h. operand_then room (λ b q. and_then (expr_of room q) (λ c r. read (Choice a b c) r))
      (λ fill. WithToken (λ tail. used.fill (fill tail))) l us e stops
      (λ fill v. record {
        more = λ tail. v.more (with_true tail);
        tree = Choice a v.tree number;
        spells =
            λ tail. a_switch (suc room) t (used.fill (fill (v.more (with_true tail)))) (fill (v.more (with_true tail)))
            (with_true tail) a v.tree number tail k
            (deeper room _ _ _ (first (fill (v.more (with_true tail))))) (v.spells (with_true tail)) (some_expr room tail);
      })
      (λ b used2 l us second h. operand_then room (λ c r. read (Choice a b c) r)
      (λ fill. WithToken (λ tail. used.fill (used2.fill (fill tail)))) l us e stops
      (λ fill v. record {
        more = v.more;
        tree = Choice a b v.tree;
        spells =
            λ tail. a_switch (suc room) t (used.fill (used2.fill (fill (v.more tail)))) (used2.fill (fill (v.more tail)))
            (fill (v.more tail)) a b v.tree tail k
            (deeper room _ _ _ (first (used2.fill (fill (v.more tail))))) (deeper room _ _ _ (second (fill (v.more tail)))) (v.spells tail);
      })
      (λ c used3 l us spells h. absurd (not_err _ _ h))
      h)
      h)
      h

  -- an expression and its closing bracket
  bracket_stops : kind_of t.text ≡ Open → FormStops (λ p. and_then (expr_of room p) (λ a p. and_then (taken Closing p) (λ t q. read a q)))
  bracket_stops k h = operand_then room (λ a p. and_then (taken Closing p) (λ t q. read a q)) WithToken last ts e stops
      (λ fill v. record {
        more = λ tail. v.more (token (codes ")") ∷ tail);
        tree = v.tree;
        spells =
            λ tail. a_bracket (suc room) t (token (codes ")")) (fill (v.more (token (codes ")") ∷ tail))) v.tree tail k
            (v.spells (token (codes ")") ∷ tail)) close_is;
      })
      (λ a used l us first h. token_then Closing (λ t q. read a q) (λ fill. WithToken (λ tail. used.fill (fill tail))) l us e
      (record {
        more = λ tail. token (codes ")") ∷ tail;
        tree = a;
        spells =
            λ tail. a_bracket (suc room) t (token (codes ")")) (used.fill (token (codes ")") ∷ tail)) a tail k
            (deeper room _ _ _ (first (token (codes ")") ∷ tail))) close_is;
      })
      (λ u us fits h. absurd (not_err _ _ h))
      h)
      h

  -- the three operands of `if`, parted by `then` and `else`
  if_stops : kind_of t.text ≡ If
      → FormStops (λ p. and_then (expr_of room p)
      (λ a p. and_then (taken ThenWord p)
      (λ t p2. and_then (expr_of room p2)
      (λ b q. and_then (taken ElseWord q) (λ u q2. and_then (expr_of room q2) (λ c r. read (Choice a b c) r))))))
  if_stops k h =
      operand_then room (λ a p. and_then (taken ThenWord p)
      (λ t p2. and_then (expr_of room p2)
      (λ b q. and_then (taken ElseWord q) (λ u q2. and_then (expr_of room q2) (λ c r. read (Choice a b c) r))))) WithToken last ts e
      stops
      (λ fill v. record {
        more = λ tail. v.more (with_then tail);
        tree = Choice v.tree number number;
        spells =
            λ tail. an_if (suc room) t (token (codes "then")) (token (codes "else")) (fill (v.more (with_then tail)))
            (with_true (with_else tail)) (with_true tail) v.tree number number tail k
            (v.spells (with_then tail)) then_is (some_expr room (with_else tail)) else_is (some_expr room tail);
      })
      (λ a used l us first h. token_then ThenWord
      (λ t p2. and_then (expr_of room p2)
      (λ b q. and_then (taken ElseWord q) (λ u q2. and_then (expr_of room q2) (λ c r. read (Choice a b c) r))))
      (λ fill. WithToken (λ tail. used.fill (fill tail))) l us e
      (record {
        more = with_then;
        tree = Choice a number number;
        spells =
            λ tail. an_if (suc room) t (token (codes "then")) (token (codes "else")) (used.fill (with_then tail))
            (with_true (with_else tail)) (with_true tail) a number number tail k
            (deeper room _ _ _ (first (with_then tail))) then_is (some_expr room (with_else tail)) else_is (some_expr room tail);
      })
      (λ u us u_fits h. operand_then room
      (λ b q. and_then (taken ElseWord q) (λ u q2. and_then (expr_of room q2) (λ c r. read (Choice a b c) r)))
      (λ fill. WithToken (λ tail. used.fill (u ∷ fill tail))) u.line us e stops
      (λ fill v. record {
        more = λ tail. v.more (with_else tail);
        tree = Choice a v.tree number;
        spells =
            λ tail. an_if (suc room) t u (token (codes "else")) (used.fill (u ∷ fill (v.more (with_else tail))))
            (fill (v.more (with_else tail))) (with_true tail) a v.tree number tail k
            (deeper room _ _ _ (first (u ∷ fill (v.more (with_else tail))))) (then_word (kind_of u.text) u_fits)
            (v.spells (with_else tail)) else_is (some_expr room tail);
      })
      (λ b used2 l us second h. token_then ElseWord (λ u q2. and_then (expr_of room q2) (λ c r. read (Choice a b c) r))
      (λ fill. WithToken (λ tail. used.fill (u ∷ used2.fill (fill tail)))) l us e
      (record {
        more = with_else;
        tree = Choice a b number;
        spells =
            λ tail. an_if (suc room) t u (token (codes "else")) (used.fill (u ∷ used2.fill (with_else tail))) (used2.fill (with_else tail))
            (with_true tail) a b number tail k
            (deeper room _ _ _ (first (u ∷ used2.fill (with_else tail)))) (then_word (kind_of u.text) u_fits)
            (deeper room _ _ _ (second (with_else tail))) else_is (some_expr room tail);
      })
      (λ v us v_fits h. operand_then room (λ c r. read (Choice a b c) r)
      (λ fill. WithToken (λ tail. used.fill (u ∷ used2.fill (v ∷ fill tail)))) v.line us e stops
      (λ fill w. record {
        more = w.more;
        tree = Choice a b w.tree;
        spells =
            λ tail. an_if (suc room) t u v (used.fill (u ∷ used2.fill (v ∷ fill (w.more tail)))) (used2.fill (v ∷ fill (w.more tail)))
            (fill (w.more tail)) a b w.tree tail k
            (deeper room _ _ _ (first (u ∷ used2.fill (v ∷ fill (w.more tail))))) (then_word (kind_of u.text) u_fits)
            (deeper room _ _ _ (second (v ∷ fill (w.more tail)))) (else_word (kind_of v.text) v_fits) (w.spells tail);
      })
      (λ c used3 l us spells h. absurd (not_err _ _ h))
      h)
      h)
      h)
      h)
      h

  -- each form
  form_stops : (k : Kind) → kind_of t.text ≡ k → expression_fault k ≡ None → FormStops (form_of (expr_of room) t k)
  form_stops Not k fits h = not_stops k h
  form_stops (Two op) k fits h = two_stops op k h
  form_stops Switch k fits h = switch_stops k h
  form_stops If k fits h = if_stops k h
  form_stops Open k fits h = bracket_stops k h
  form_stops _ k fits h = cc

-- ---- Expressions

-- an expression at a place that is too deep
abbrev too_deep : Token → Place → Result (Read Tree) TextError
too_deep t p = Err (At t.line Deep)

-- where no more may be open, the fault is that of the first token, or the end's
none_stops : ExprStops zero
unfolding expr_of
none_stops last [] e h = record {
  front = nothing;
  rest = [];
  tokens = refl;
  viable = viable_none zero;
  told = (last, sym (same_error {A = Read Tree} (At last End) e (sym (ap (λ r. and_then r too_deep) (taken_none Expression last)) ∙ h)));
}
none_stops last (t ∷ ts) e h = by_fault (expression_fault (kind_of t.text)) refl
  where
    at_first : (kind : TextKind) → ((last : ℕ) (more : List Token) → expr_of zero (before last (t ∷ more)) ≡ Err (At t.line kind))
        → Stops (expr_of zero) (Viable (suc zero)) (t ∷ ts) e
    at_first kind refused =
        let e_is : At t.line kind ≡ e = same_error {A = Read Tree} (At t.line kind) e (sym (refused last ts) ∙ h) in
        record {
          front = nothing;
          rest = t ∷ ts;
          tokens = refl;
          viable = viable_none zero;
          told = ((kind, sym e_is), λ last more. refused last more ∙ ap Err e_is);
        }

    by_fault : (o : Option TextKind) → expression_fault (kind_of t.text) ≡ o → Stops (expr_of zero) (Viable (suc zero)) (t ∷ ts) e
    by_fault (Some kind) is = at_first kind (λ last more. ap (λ r. and_then r too_deep) (taken_by Expression last t more (Some kind) is))
    by_fault None is = at_first Deep (λ last more. ap (λ r. and_then r too_deep) (taken_by Expression last t more None is))

-- an expression that is refused stops so
pub expr_stops : (room : ℕ) → ExprStops room
unfolding expr_of
expr_stops zero last ts e h = none_stops last ts e h
expr_stops (suc room) last ts e h =
    token_then Expression (λ t p. form_of (expr_of room) t (kind_of t.text) p) (Viable (suc (suc room))) last ts e (viable_none (suc room))
    (λ t us fits h. form_stops room (expr_stops room) t t.line us e (kind_of t.text) refl fits h)
    h
