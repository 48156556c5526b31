-- A section of which some assignments were looked at.
use Rattle.std.proofs.Common.{◌≡◌, ℕ, List, [], map, take, drop}
use Rattle.context_check.specs.Context.{Context}
use Rattle.context_check.specs.Refusal.{names_in, section_refusal}
use Rattle.profile_text.specs.Expr.{assignment_in}
use Rattle.profile_text.specs.declared.profile.Assign.{Assign}

-- the names are those of the assignments so far, and the first thing at fault is one of the further ones
pub record LookedAt (c : Context) (own : List (List ℕ)) (assigned : List Assign) (count : ℕ) : Type 0 where
  pub names : own ≡ names_in (map assignment_in (take count assigned))
  pub rest : section_refusal c [] (map assignment_in assigned) ≡ section_refusal c own (map assignment_in (drop count assigned))
