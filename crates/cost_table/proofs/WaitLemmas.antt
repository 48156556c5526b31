-- What waits, by the list of the nodes that do.
use Rattle.std.proofs.Common.{◌≡◌, ◌↔◌, ℕ, Bool, true, false, nat_eq, List, [], ◌∷◌, length, IsTrue, inl, inr, refl, sym, ◌∙◌, subst, arith}
use Rattle.std.proofs.lemmas.Bool.{cases_eq}
use Rattle.std.proofs.lemmas.Bool.Decides.{nat_tests}
use Rattle.cost_table.specs.Waiting.{NoneWaits, WaitsNoLonger, waits_among}

-- whether none waits is whether there are no nodes in the list
pub none-among : (nodes : List ℕ) (done : Bool) → (IsTrue done ↔ (length nodes ≡ 0)) → NoneWaits (waits_among nodes) done
none-among [] true h = λ q. refl
none-among [] false h = let yes_ : IsTrue false = h.1 refl in absurd (cc)
none-among (node ∷ nodes) true h = let none = h.0 refl in absurd (omega arith)
none-among (node ∷ nodes) false h =
    let same : nat_eq node node ≡ true = grind (arith, nat_tests) in
    (node, rw same refl)

-- where a node that doesn't wait is taken away nothing changes
pub none-taken : (node : ℕ) (before after : ℕ → Bool) → before node ≡ false → WaitsNoLonger node before after → (q : ℕ) →
    after q ≡ before q
none-taken node before after was taken q =
    elim (cases_eq q node) [
      | inl same ↦ subst (λ (n : ℕ). after n ≡ before n) (sym same) (taken.here ∙ sym was)
      | inr differ ↦ taken.others q differ
    ]
