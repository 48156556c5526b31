-- The code of a section, one assignment after the other.
use Rattle.std.proofs.Common.{◌≡◌, ℕ, zero, suc, ◌+◌, ◌<◌, ◌≤◌, max, List, [], ◌∷◌, ◌++◌, length, map, drop, get_or, ℤ, refl, sym, ap, ◌∙◌, arith, append_assoc}
use Rattle.std.proofs.lemmas.List.{append-nil, drop_all, length-map}
use Rattle.context_check.proofs.CallerLemmas.{overridden_names}
use Rattle.context_check.specs.Refusal.{names_in}
use Rattle.lookup_table.specs.Tag.{TagRow}
use Rattle.profile_code.specs.declared.instr.Instr.{Instr}
use Rattle.profile_code.specs.declared.instr.Instr.TheVariants.{Set}
use Rattle.profile_code.specs.Emit.{expr_code, section_code, height_of, section_height}
use Rattle.profile_text.specs.Expr.{assignment_in}
use Rattle.profile_text.specs.Meaning.{overridden}
use Rattle.profile_text.specs.Tree.{Assignment}
use Rattle.profile_text.specs.declared.profile.Assign.{Assign}

-- what was put together of a section: its operations, its names, and how many numbers they have on the stack at most
pub record Built : Type 0 where
  pub instrs : List Instr
  pub names : List (List ℕ)
  pub height : ℕ

-- so many assignments have their code, their names and their greatest height
pub record EmittedUpTo (rows : List TagRow) (global : List (List ℕ)) (all : List Assignment) (i : ℕ) (b : Built) : Type 0 where
  pub code : section_code rows global [] all ≡ b.instrs ++ section_code rows global b.names (drop i all)
  pub named : names_in all ≡ b.names ++ names_in (drop i all)
  pub high : section_height all ≡ max b.height (section_height (drop i all))

-- one more assignment's value is put behind what was built, with its name
pub record Adds (rows : List TagRow) (global : List (List ℕ)) (b c : Built) (a : Assignment) : Type 0 where
  pub code : c.instrs ≡ b.instrs ++ (expr_code rows global b.names a.value ++ Set ∷ [])
  pub named : c.names ≡ b.names ++ a.name ∷ []
  pub high : c.height ≡ max b.height (height_of a.value)

module _ (overrides : List (List ℕ × ℤ)) where
  -- the assignments of the code under overrides
  abbrev pub under : List Assign → List Assignment
  under assigns = map (overridden overrides) (map assignment_in assigns)

  -- from a place on stand its assignment and those behind it
  drop_here : (assigns : List Assign) (i : ℕ) (a : Assign) → i < length assigns → a ≡ get_or assigns i a →
      drop i (under assigns) ≡ overridden overrides (assignment_in a) ∷ drop (suc i) (under assigns)
  drop_here [] i a within is = absurd (omega arith)
  drop_here (x ∷ xs) zero a within is = ap (λ y. overridden overrides (assignment_in y) ∷ under xs) (sym is)
  drop_here (x ∷ xs) (suc i) a within is = drop_here xs i a (omega arith) is

  -- one more assignment
  pub EmittedUpTo-more : (rows : List TagRow) (global : List (List ℕ)) (assigns : List Assign) (i : ℕ) (b c : Built) (a : Assign) →
      EmittedUpTo rows global (under assigns) i b → i < length assigns → a ≡ get_or assigns i a →
      Adds rows global b c (overridden overrides (assignment_in a)) → EmittedUpTo rows global (under assigns) (i + 1) c
  EmittedUpTo-more rows global assigns i b c a so_far within is adds =
      let all = under assigns in
      let x = overridden overrides (assignment_in a) in
      let rest = drop (suc i) all in
      let next : suc i ≡ i + 1 = omega arith in
      let here = drop_here assigns i a within is in
      let ops = expr_code rows global b.names x.value in
      let further = section_code rows global c.names rest in
      let flat : b.instrs ++ (ops ++ Set ∷ further) ≡ (b.instrs ++ (ops ++ Set ∷ [])) ++ further = simp append_assoc in
      let high : section_height all ≡ max b.height (max (height_of x.value) (section_height rest)) =
      so_far.high ∙ ap (λ l. max b.height (section_height l)) here in
      record {
        code = so_far.code
            ∙ ap (λ l. b.instrs ++ section_code rows global b.names l) here
            ∙ ap (λ l. b.instrs ++ (ops ++ Set ∷ section_code rows global l rest)) (sym adds.named)
            ∙ flat
            ∙ ap (λ l. l ++ further) (sym adds.code)
            ∙ ap (λ n. c.instrs ++ section_code rows global c.names (drop n all)) next;
        named = so_far.named
            ∙ ap (λ l. b.names ++ names_in l) here
            ∙ sym (append_assoc b.names (x.name ∷ []) (names_in rest))
            ∙ ap (λ l. l ++ names_in rest) (sym adds.named)
            ∙ ap (λ n. c.names ++ names_in (drop n all)) next;
        high = high
            ∙ by_max (height_of x.value) (section_height rest)
            ∙ ap (λ h. max h (section_height rest)) (sym adds.high)
            ∙ ap (λ n. max c.height (section_height (drop n all))) next;
      }
    where
      by_max : (h r : ℕ) → max b.height (max h r) ≡ max (max b.height h) r
      by_max h r = omega arith

  -- before the first there is nothing
  pub EmittedUpTo-none : (rows : List TagRow) (global : List (List ℕ)) (assigns : List Assign) (b : Built) → b.instrs ≡ [] →
      b.names ≡ [] → b.height ≡ 0 → EmittedUpTo rows global (under assigns) 0 b
  EmittedUpTo-none rows global assigns b instrs names height =
      let all = under assigns in
      record {
        code = ap (λ n. section_code rows global n all) (sym names)
            ∙ ap (λ l. l ++ section_code rows global b.names all) (sym instrs);
        named = ap (λ l. l ++ names_in all) (sym names);
        high = omega (arith, height);
      }

  -- after the last there is nothing behind
  nothing_behind : (assigns : List Assign) (i : ℕ) → length assigns ≤ i → drop i (under assigns) ≡ []
  nothing_behind assigns i past =
      drop_all i (under assigns)
      (omega (arith, length-map (map assignment_in assigns) (overridden overrides), length-map assigns assignment_in))

  -- after the last all have their names, which overrides keep
  pub EmittedUpTo-names : (rows : List TagRow) (global : List (List ℕ)) (assigns : List Assign) (i : ℕ) (b : Built) →
      EmittedUpTo rows global (under assigns) i b → length assigns ≤ i → b.names ≡ names_in (map assignment_in assigns)
  EmittedUpTo-names rows global assigns i b so_far past =
      sym (so_far.named ∙ ap (λ l. b.names ++ names_in l) (nothing_behind assigns i past) ∙ append-nil b.names)
      ∙ overridden_names overrides (map assignment_in assigns)

  -- and their code
  pub EmittedUpTo-code : (rows : List TagRow) (global : List (List ℕ)) (assigns : List Assign) (i : ℕ) (b : Built) →
      EmittedUpTo rows global (under assigns) i b → length assigns ≤ i → b.instrs ≡ section_code rows global [] (under assigns)
  EmittedUpTo-code rows global assigns i b so_far past =
      sym (so_far.code
      ∙ ap (λ l. b.instrs ++ section_code rows global b.names l) (nothing_behind assigns i past)
      ∙ append-nil b.instrs)

  -- and their greatest height
  pub EmittedUpTo-high : (rows : List TagRow) (global : List (List ℕ)) (assigns : List Assign) (i : ℕ) (b : Built) →
      EmittedUpTo rows global (under assigns) i b → length assigns ≤ i → b.height ≡ section_height (under assigns)
  EmittedUpTo-high rows global assigns i b so_far past =
      let behind = ap section_height (nothing_behind assigns i past) in
      let high = so_far.high in
      omega arith

-- where there is no override assignments stay as they are
pub unchanged : (overrides : List (List ℕ × ℤ)) (assignments : List Assignment) → overrides ≡ [] →
    map (overridden overrides) assignments ≡ assignments
unchanged overrides assignments none = ap (λ o. map (overridden o) assignments) none ∙ by_list assignments
  where
    by_list : (l : List Assignment) → map (overridden []) l ≡ l
    by_list [] = refl
    by_list (a ∷ rest) = ap (λ l. a ∷ l) (by_list rest)
