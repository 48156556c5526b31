-- Where the first step leads.
use Rattle.std.proofs.Common.{false, [], ◌∷◌, refl, sym, subst}
use Rattle.json_text.specs.Steps.{step_for}
use Rattle.map_elements.specs.Reader.{IsTop}
use Rattle.map_elements.proofs.PlaceLemmas.{top_begins, no_object, not_curly}
use Rattle.map_elements.proofs.place.first_place.Goals as goal

-- the top object begins
pub returns-in-Open : goal.returns-in-Open
returns-in-Open c = record {
  value = λ text. (subst (λ x. IsTop (step_for x text ∷ []) 0 false) (sym c.in-Open.is) top_begins, refl, refl);
}

-- another step stands at the top
pub returns-in_default : goal.returns-in_default
returns-in_default c = record {
  value = λ text. (no_object (step_for c.args.step text) (not_curly c.args.step text c.in_default.not-Open), refl);
}
