-- A jump is written after the operations that it passes.
use Rattle.std.proofs.Common.{◌≡◌, ℕ, ◌+◌, ◌-◌, List, [], ◌∷◌, ◌++◌, length, pos, refl, sym, ap, subst, ◌∙◌, arith, append_assoc, length-append}
use Rattle.std.specs.Prelude.{slice_set}
use Rattle.std.proofs.Math.Seq.{set-append_seam}
use Rattle.profile_code.specs.declared.instr.Instr.{Instr}
use Rattle.profile_code.specs.declared.instr.Instr.TheVariants.{Number, Truth, JumpZero, Jump}
use Rattle.profile_code.specs.Emit.{choice_code, operation_code}
use Rattle.profile_code.specs.Operands.{between, behind}
use Rattle.profile_text.specs.declared.expr.Op.{Op}
use Rattle.profile_text.specs.declared.expr.Op.TheVariants.{Or, And, Xor, Multiply, Divide, Add, Sub, Max, Min, Equal, Greater, Lesser}

-- the code of a second operand, which begins at a place behind what stands before it
pub record Second (op : Op) (old front b : List Instr) (start : ℕ) : Type 0 where
  pub put : old ≡ (front ++ between op 0) ++ b
  pub begins : start ≡ length (front ++ between op 0)

-- the same code, closed: with its jump over the second operand, and what stands behind that
abbrev pub closed : Op → List Instr → List Instr → List Instr
closed op front b = front ++ (between op (length b) ++ (b ++ behind op))

-- the jump of `and` is written after its second operand
close_at_and : (old new front b : List Instr) (start len : ℕ) → Second And old front b start →
    new ≡ ((old ++ Truth ∷ []) ++ Jump 1 ∷ []) ++ Number (pos 0) ∷ [] → len ≡ length new →
    slice_set new (start - 1) (JumpZero (len - start - 1)) ≡ closed And front b
close_at_and old new front b start len second new_is len_is =
    let flat : (((((front ++ JumpZero 2 ∷ []) ++ b) ++ Truth ∷ []) ++ Jump 1 ∷ []) ++ Number (pos 0) ∷ [])
    ≡ front ++ JumpZero 2 ∷ (b ++ Truth ∷ Jump 1 ∷ Number (pos 0) ∷ []) = simp append_assoc in
    let all : new ≡ front ++ JumpZero 2 ∷ (b ++ Truth ∷ Jump 1 ∷ Number (pos 0) ∷ []) =
    new_is ∙ ap (λ l. ((l ++ Truth ∷ []) ++ Jump 1 ∷ []) ++ Number (pos 0) ∷ []) second.put ∙ flat in
    let begins = second.begins in
    let len_all = ap length all ∙ length-append front (JumpZero 2 ∷ (b ++ Truth ∷ Jump 1 ∷ Number (pos 0) ∷ [])) in
    let len_b = length-append b (Truth ∷ Jump 1 ∷ Number (pos 0) ∷ []) in
    let len_front = length-append front (JumpZero 2 ∷ []) in
    let at : start - 1 ≡ length front = omega arith in
    let jump : len - start - 1 ≡ length b + 2 = omega arith in
    ap (λ l. slice_set l (start - 1) (JumpZero (len - start - 1))) all
    ∙ ap (λ n. slice_set (front ++ JumpZero 2 ∷ (b ++ Truth ∷ Jump 1 ∷ Number (pos 0) ∷ [])) n (JumpZero (len - start - 1))) at
    ∙ set-append_seam front (JumpZero 2) (b ++ Truth ∷ Jump 1 ∷ Number (pos 0) ∷ []) (JumpZero (len - start - 1))
    ∙ ap (λ n. front ++ JumpZero n ∷ (b ++ Truth ∷ Jump 1 ∷ Number (pos 0) ∷ [])) jump

-- the jump of `and` is written, wherever the operator is known to be `and`
pub close_and : (op : Op) (old new front b : List Instr) (start len : ℕ) → op ≡ And →
    new ≡ ((old ++ Truth ∷ []) ++ Jump 1 ∷ []) ++ Number (pos 0) ∷ [] → len ≡ length new →
    Second op old front b start → slice_set new (start - 1) (JumpZero (len - start - 1)) ≡ closed op front b
close_and op old new front b start len is new_is len_is =
    subst (λ o. Second o old front b start → slice_set new (start - 1) (JumpZero (len - start - 1)) ≡ closed o front b) (sym is)
    (λ second. close_at_and old new front b start len second new_is len_is)

-- the jump of `or` is written after its second operand
close_at_or : (old new front b : List Instr) (start len : ℕ) → Second Or old front b start → new ≡ old ++ Truth ∷ [] →
    len ≡ length new → slice_set new (start - 1) (Jump (len - start)) ≡ closed Or front b
close_at_or old new front b start len second new_is len_is =
    let before = front ++ JumpZero 2 ∷ Number (pos 1000000) ∷ [] in
    let flat : ((front ++ JumpZero 2 ∷ Number (pos 1000000) ∷ Jump 1 ∷ []) ++ b) ++ Truth ∷ []
    ≡ (front ++ JumpZero 2 ∷ Number (pos 1000000) ∷ []) ++ Jump 1 ∷ (b ++ Truth ∷ []) = simp append_assoc in
    let all : new ≡ before ++ Jump 1 ∷ (b ++ Truth ∷ []) = new_is ∙ ap (λ l. l ++ Truth ∷ []) second.put ∙ flat in
    let begins = second.begins in
    let len_all = ap length all ∙ length-append before (Jump 1 ∷ (b ++ Truth ∷ [])) in
    let len_b = length-append b (Truth ∷ []) in
    let len_front = length-append front (JumpZero 2 ∷ Number (pos 1000000) ∷ Jump 1 ∷ []) in
    let len_before = length-append front (JumpZero 2 ∷ Number (pos 1000000) ∷ []) in
    let at : start - 1 ≡ length before = omega arith in
    let jump : len - start ≡ length b + 1 = omega arith in
    ap (λ l. slice_set l (start - 1) (Jump (len - start))) all
    ∙ ap (λ n. slice_set (before ++ Jump 1 ∷ (b ++ Truth ∷ [])) n (Jump (len - start))) at
    ∙ set-append_seam before (Jump 1) (b ++ Truth ∷ []) (Jump (len - start))
    ∙ ap (λ n. before ++ Jump n ∷ (b ++ Truth ∷ [])) jump
    ∙ append_assoc front (JumpZero 2 ∷ Number (pos 1000000) ∷ []) (Jump (length b + 1) ∷ (b ++ Truth ∷ []))

-- the jump of `or` is written, wherever the operator is known to be `or`
pub close_or : (op : Op) (old new front b : List Instr) (start len : ℕ) → op ≡ Or → new ≡ old ++ Truth ∷ [] → len ≡ length new →
    Second op old front b start → slice_set new (start - 1) (Jump (len - start)) ≡ closed op front b
close_or op old new front b start len is new_is len_is =
    subst (λ o. Second o old front b start → slice_set new (start - 1) (Jump (len - start)) ≡ closed o front b) (sym is)
    (λ second. close_at_or old new front b start len second new_is len_is)

-- two jumps are written one after the other
two_writes : (c a b : List Instr) (x y i j : Instr) →
    slice_set (slice_set (c ++ x ∷ (a ++ y ∷ b)) (length c) i) (length (c ++ i ∷ a)) j ≡ c ++ i ∷ (a ++ j ∷ b)
two_writes c a b x y i j =
    ap (λ l. slice_set l (length (c ++ i ∷ a)) j) (set-append_seam c x (a ++ y ∷ b) i ∙ sym (append_assoc c (i ∷ a) (y ∷ b)))
    ∙ set-append_seam (c ++ i ∷ a) y b j
    ∙ append_assoc c (i ∷ a) (j ∷ b)

module _ (old a b c : List Instr) where
  -- the jumps of a choice are written
  pub append_choice : (c1 c2 c3 c4 c5 : List Instr) (x y : Instr) (n1 n2 n3 : ℕ) → c1 ≡ old ++ a → n1 ≡ length c1 →
      c2 ≡ c1 ++ x ∷ [] → c3 ≡ c2 ++ b → n2 ≡ length c3 → c4 ≡ c3 ++ y ∷ [] → c5 ≡ c4 ++ c → n3 ≡ length c5 →
      slice_set (slice_set c5 n1 (JumpZero (n2 - n1))) n2 (Jump (n3 - n2 - 1)) ≡ old ++ choice_code a b c
  append_choice c1 c2 c3 c4 c5 x y n1 n2 n3 e1 m1 e2 e3 m2 e4 e5 m3 =
      let l2 = ap length e2 ∙ length-append c1 (x ∷ []) in
      let l3 = ap length e3 ∙ length-append c2 b in
      let l4 = ap length e4 ∙ length-append c3 (y ∷ []) in
      let l5 = ap length e5 ∙ length-append c4 c in
      let i = JumpZero (n2 - n1) in
      let j = Jump (n3 - n2 - 1) in
      let d1 : n2 - n1 ≡ length b + 1 = omega arith in
      let d2 : n3 - n2 - 1 ≡ length c = omega arith in
      let at2 : n2 ≡ length (c1 ++ i ∷ b) = omega (arith, length-append c1 (i ∷ b)) in
      let all : c5 ≡ (((c1 ++ x ∷ []) ++ b) ++ y ∷ []) ++ c = cc in
      let flat : (((c1 ++ x ∷ []) ++ b) ++ y ∷ []) ++ c ≡ c1 ++ x ∷ (b ++ y ∷ c) = simp append_assoc in
      ap (λ l. slice_set (slice_set l n1 i) n2 j) (all ∙ flat)
      ∙ ap (λ n. slice_set (slice_set (c1 ++ x ∷ (b ++ y ∷ c)) n i) n2 j) m1
      ∙ ap (λ n. slice_set (slice_set (c1 ++ x ∷ (b ++ y ∷ c)) (length c1) i) n j) at2
      ∙ two_writes c1 b c x y i j
      ∙ ap (λ l. l ++ i ∷ (b ++ j ∷ c)) e1
      ∙ append_assoc old a (i ∷ (b ++ j ∷ c))
      ∙ ap (λ n. old ++ (a ++ JumpZero n ∷ (b ++ j ∷ c))) d1
      ∙ ap (λ n. old ++ (a ++ JumpZero (length b + 1) ∷ (b ++ Jump n ∷ c))) d2

-- the code of an operator has what stands between its operands and behind them
pub operation_is : (op : Op) (a b : List Instr) → operation_code op a b ≡ a ++ (between op (length b) ++ (b ++ behind op))
operation_is Or a b = refl
operation_is And a b = refl
operation_is Xor a b = refl
operation_is Multiply a b = refl
operation_is Divide a b = refl
operation_is Add a b = refl
operation_is Sub a b = refl
operation_is Max a b = refl
operation_is Min a b = refl
operation_is Equal a b = refl
operation_is Greater a b = refl
operation_is Lesser a b = refl
