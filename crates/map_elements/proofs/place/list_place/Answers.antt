-- Where the first step of the value of `elements` leads.
use Rattle.std.proofs.Common.{[], ◌∷◌, ◌++◌, refl, sym, subst}
use Rattle.json_text.specs.Steps.{step_for}
use Rattle.map_elements.specs.Reader.{IsInList}
use Rattle.map_elements.proofs.PlaceLemmas.{list_begins, no_list, not_square}
use Rattle.map_elements.proofs.place.list_place.Goals as goal

-- the list of elements begins
pub returns-in-ListOpen : goal.returns-in-ListOpen
returns-in-ListOpen c = record {
  value = λ steps text goes top.
      subst (λ x. IsInList (steps ++ step_for x text ∷ []) 0 [] []) (sym c.in-ListOpen.is) (list_begins steps top);
}

-- the value is no array
pub returns-in_default : goal.returns-in_default
returns-in_default c = record {
  value = λ steps text goes top. (
    no_list steps (step_for c.args.step text) (not_square c.args.step text c.in_default.not-ListOpen) goes top,
    refl,
  );
}
