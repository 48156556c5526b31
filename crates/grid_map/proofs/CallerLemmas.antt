-- What the crates above cite of a map's text that is made piece by piece.
use Rattle.std.proofs.Common.{ℕ, ◌≡◌, ◌≤◌, List, ◌++◌, length, refl, ap, ◌∙◌, append_assoc}
use Rattle.grid_map.specs.declared.plan.Plan.{Plan}
use Rattle.grid_map.specs.MapText.{overpass_text, parts_of, text_from}
use Rattle.grid_map.proofs.PartLemmas.{text_from-end}

-- the text from the first part on is the whole
pub text_from-begin : (plan : Plan) → text_from plan 0 ≡ overpass_text plan
unfolding text_from
text_from-begin plan = refl

-- what was made before and a piece, with what is still to come
pub text_from-piece : (plan : Plan) (from next : ℕ) (before piece all : List ℕ) → piece ++ text_from plan next ≡ text_from plan from →
    before ++ text_from plan from ≡ all → (before ++ piece) ++ text_from plan next ≡ all
text_from-piece plan from next before piece all is whole =
    append_assoc before piece (text_from plan next) ∙ ap (λ (l : List ℕ). before ++ l) is ∙ whole

-- behind the last part the whole was made
pub text_from-whole : (plan : Plan) (from : ℕ) (before all : List ℕ) → length (parts_of plan) ≤ from → before ++ text_from plan from ≡ all →
    before ≡ all
text_from-whole plan from before all end is = text_from-end plan from before all end is
