-- Overrides with one more at the end.
use Rattle.std.proofs.Common.{◌≡◌, ◌∙◌, ◌+◌, ◌<◌, ◌^◌, ℕ, Bool, true, false, cond, List, [], ◌∷◌, ◌++◌, length, length-append, ℤ, Some, None, is_some, refl, sym, ap, subst, arith}
use Rattle.std.specs.Map.{lookup}
use Rattle.std.specs.Str.{bytes_eq}
use Rattle.context_check.specs.Overrides.{is_overridden, HaveDistinctNames, AreOverrides}
use Rattle.item_list.proofs.TestLemmas.{bytes_eq-turned}

-- a name without an override differs from the first one's name, and has none further behind
new_parts : (o : List ℕ × ℤ) (os : List (List ℕ × ℤ)) (name : List ℕ) → is_overridden (o ∷ os) name ≡ false →
    (bytes_eq name o.0 ≡ false) × (is_overridden os name ≡ false)
new_parts o os name none = by_test (bytes_eq name o.0) refl none
  where
    by_test : (b : Bool) → bytes_eq name o.0 ≡ b → is_some (cond b (Some o.1) (lookup (bytes_eq name) os)) ≡ false →
        (bytes_eq name o.0 ≡ false) × (is_overridden os name ≡ false)
    by_test true same none = cc
    by_test false same none = (same, none)

-- a name without an override has none behind another name
absent_behind : (os : List (List ℕ × ℤ)) (name : List ℕ) (item : List ℕ × ℤ) → is_overridden os name ≡ false →
    bytes_eq name item.0 ≡ false → is_overridden (os ++ item ∷ []) name ≡ false
absent_behind [] name item none apart = ap (λ b. is_some (cond b (Some item.1) None)) apart
absent_behind (o ∷ os) name item none apart =
    let parts = new_parts o os name none in
    ap (λ b. is_some (cond b (Some o.1) (lookup (bytes_eq name) (os ++ item ∷ [])))) parts.0 ∙ absent_behind os name item parts.1 apart

-- names stay distinct with a new one
HaveDistinctNames-push : (os : List (List ℕ × ℤ)) (item : List ℕ × ℤ) → HaveDistinctNames os → is_overridden os item.0 ≡ false →
    HaveDistinctNames (os ++ item ∷ [])
HaveDistinctNames-push [] item distinct new = (refl, tt)
HaveDistinctNames-push (o ∷ os) item distinct new =
    let parts = new_parts o os item.0 new in
    (absent_behind os o.0 item distinct.0 (bytes_eq-turned item.0 o.0 parts.0), HaveDistinctNames-push os item distinct.1 parts.1)

-- overrides stay so with one more of a new name, if it is put there
pub AreOverrides-push : (put : Bool) (old new : List (List ℕ × ℤ)) (item : List ℕ × ℤ) → new ≡ cond put (old ++ item ∷ []) old →
    AreOverrides old → is_overridden old item.0 ≡ false → length old + 1 < 2 ^ 32 → AreOverrides new
AreOverrides-push true old new item new_is are fresh few =
    let more : length (old ++ item ∷ []) ≡ length old + 1 = length-append old (item ∷ []) in
    subst AreOverrides (sym new_is)
    (record { distinct = HaveDistinctNames-push old item are.distinct fresh; few = omega (arith, more, few) })
AreOverrides-push false old new item new_is are fresh few = subst AreOverrides (sym new_is) are
