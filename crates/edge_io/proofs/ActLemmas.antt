-- What acts come to, act by act.
use Rattle.std.proofs.Common.{◌≡◌, ℕ, Bool, false, List, [], ◌∷◌, ◌++◌, refl}
use Rattle.edge_io.specs.Acts.{Act, Traffic, after_act, after_acts, no_traffic, told, hangs_up, hangs_up_after, hangs_up_by}

-- more acts after some are all of them in a row
pub after_acts-append : (id : ℕ) (t : Traffic) (xs ys : List Act) → after_acts id t (xs ++ ys) ≡ after_acts id (after_acts id t xs) ys
after_acts-append id t [] ys = refl
after_acts-append id t (x ∷ xs) ys = after_acts-append id (after_act id t x) xs ys

-- one more act
pub told-one : (id : ℕ) (acts : List Act) (act : Act) → told id (acts ++ (act ∷ [])) ≡ after_act id (told id acts) act
told-one id acts act = after_acts-append id no_traffic acts (act ∷ [])

-- whether an end is a loss after acts and one more
hangs_up_after-one : (before : Bool) (acts : List Act) (act : Act) →
    hangs_up_after before (acts ++ (act ∷ [])) ≡ hangs_up_by act (hangs_up_after before acts)
hangs_up_after-one before [] act = refl
hangs_up_after-one before (x ∷ acts) act = hangs_up_after-one (hangs_up_by x before) acts act

-- one more act, of what was last told of ends
pub hangs_up-one : (acts : List Act) (act : Act) → hangs_up (acts ++ (act ∷ [])) ≡ hangs_up_by act (hangs_up acts)
hangs_up-one acts act = hangs_up_after-one false acts act
