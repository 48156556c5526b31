use Rattle.std.proofs.Common.{◌≡◌, ◌∙◌, ◌+◌, ◌<◌, ◌⊎◌, inl, inr, ℕ, zero, suc, ℤ, Bool, List, [], ◌∷◌, ◌++◌, length, arith}
use Rattle.std.proofs.Common.{get_or, drop, map, Option, Result, Ok, Err, sym, ap}
use Rattle.std.proofs.lemmas.Result.{err_from_is_err_and}
use Rattle.profile_text.specs.declared.profile.Assign.{Assign}
use Rattle.profile_values.specs.declared.value_error.ValueError.{ValueError}
use Rattle.profile_values.specs.declared.value_error.ValueError.TheVariants.{NoMemory}
use Rattle.profile_text.specs.Expr.{assignment_in, tree_of}
use Rattle.profile_text.specs.Meaning.{Fault, SectionFault, and_then, value_of, values_from, variable_in, with_value}
use Rattle.profile_values.specs.Scope.{looks_among}
use Rattle.profile_values.specs.Vars.{IsRefusedBy, IsSaidOf}
use Rattle.profile_values.proofs.values.assigned.Goals as goal

module _ (looks : List ℕ → List (List ℕ) → Option Bool) (global own : List (List ℕ × ℤ)) where
  -- the values from a place on
  abbrev from : List (List ℕ × ℤ) → List Assign → ℕ → Result (List (List ℕ × ℤ)) SectionFault
  from own assigns place = values_from looks global own (map assignment_in (drop place assigns))

  -- the value of an assignment
  abbrev value : Assign → Result ℤ Fault
  value a = value_of (variable_in global own) looks (tree_of a.value)

  -- they are those with the assignment at the place, and then those behind it
  from_next : (assigns : List Assign) (place : ℕ) (a : Assign) → place < length assigns → a ≡ get_or assigns place a
      → from own assigns place ≡ and_then (with_value own a.name (value a)) (λ values. from values assigns (place + 1))
  from_next assigns place a fits is =
      by_place assigns place fits is ∙ ap (λ n. and_then (with_value own a.name (value a)) (λ values. from values assigns n)) next
    where
      next : suc place ≡ place + 1
      next = omega arith

      by_place : (rest : List Assign) (i : ℕ) → i < length rest → a ≡ get_or rest i a
          → from own rest i ≡ and_then (with_value own a.name (value a)) (λ values. from values rest (suc i))
      by_place [] i fits is = absurd (omega arith)
      by_place (x ∷ rest) zero fits is =
          ap (λ y. and_then (with_value own y.name (value y)) (λ values. from values rest 0)) (sym is)
      by_place (x ∷ rest) (suc i) fits is = by_place rest i (omega arith) is

  -- where it has a value, they are those behind it after one more
  stepped : (assigns : List Assign) (place : ℕ) (a : Assign) (n : ℤ) (more : List (List ℕ × ℤ)) → place < length assigns
      → a ≡ get_or assigns place a → value a ≡ Ok n → more ≡ own ++ (a.name, n) ∷ []
      → from own assigns place ≡ from more assigns (place + 1)
  stepped assigns place a n more fits is value_is more_is =
      from_next assigns place a fits is
      ∙ ap (λ v. and_then (with_value own a.name v) (λ values. from values assigns (place + 1))) value_is
      ∙ ap (λ values. from values assigns (place + 1)) (sym more_is)

  -- where it has a fault, that is theirs
  refused : (assigns : List Assign) (place : ℕ) (a : Assign) (whole : Result (List (List ℕ × ℤ)) SectionFault) (e : ValueError)
      → place < length assigns → a ≡ get_or assigns place a → whole ≡ from own assigns place
      → (e ≡ NoMemory) ⊎ IsSaidOf a.name (value a) e → (e ≡ NoMemory) ⊎ IsRefusedBy whole e
  refused assigns place a whole e fits is whole_is (inl memory) = inl memory
  refused assigns place a whole e fits is whole_is (inr said) = inr (by_value (value a) (whole_is ∙ from_next assigns place a fits is) said)
    where
      by_value : (v : Result ℤ Fault) → whole ≡ and_then (with_value own a.name v) (λ values. from values assigns (place + 1))
          → IsSaidOf a.name v e → IsRefusedBy whole e
      by_value (Ok n) is said = absurd said
      by_value (Err fault) is said = rw (is) said

pub assignments-preserved : goal.assignments-preserved
assignments-preserved c =
    c.assignments.invariant
    ∙ stepped (looks_among c.args.has_looks c.args.tagged.now) c.args.global.now c.assignments.own c.args.assignments.now
    c.assignments.assign-index c.assign-item.result c.in_ok-number.number c.push.new.self c.assignments-test.true c.assign-item.is
    c.in_ok-number.ensures.exact
    (c.in_ok-push.ensures.value
    ∙ ap (λ (name : List ℕ). c.assignments.own ++ (name, c.in_ok-number.number) ∷ []) c.as_slice.ensures.value)

pub returns-in_err-number : goal.returns-in_err-number
returns-in_err-number c =
    let p = err_from_is_err_and c.from_residual.result c.from_residual.ensures.1 in
    rw (p.1, p.2) (record {
      exact =
          refused (looks_among c.args.has_looks c.args.tagged.now) c.args.global.now c.assignments.own c.args.assignments.now
          c.assignments.assign-index c.assign-item.result _ _ c.assignments-test.true c.assign-item.is c.assignments.invariant
          c.in_err-number.ensures.exact;
    })
