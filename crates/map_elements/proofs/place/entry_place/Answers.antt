-- Where a name between the members of the top object leads.
use Rattle.std.proofs.Common.{ap, refl, sym, subst, [], ◌∷◌, ◌++◌, ◌∙◌}
use Rattle.std.specs.Str.{bytes_eq}
use Rattle.json_text.specs.Marks.{Step}
use Rattle.json_text.specs.Steps.{step_for}
use Rattle.map_elements.specs.Reader.{IsTop}
use Rattle.map_elements.proofs.PlaceLemmas.{top_names}
use Rattle.map_elements.proofs.place.entry_place.Goals as goal

-- a member is named
pub returns-in-Key : goal.returns-in-Key
returns-in-Key c = record {
  value = λ steps is_named top. (
    subst (λ x. IsTop (steps ++ step_for x c.args.text.now ∷ []) 0 c.eq.result) (sym c.in-Key.is)
        (subst (λ b. IsTop (steps ++ Step.Key c.args.text.now ∷ []) 0 b)
        (sym (c.eq.ensures ∙ ap (bytes_eq c.args.text.now) c.as_slice.ensures))
        (top_names steps is_named c.args.text.now top)),
    refl,
    refl,
  );
}
