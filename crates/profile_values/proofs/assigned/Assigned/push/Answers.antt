use Rattle.std.proofs.Common.{◌∙◌, ◌++◌, ◌∷◌, [], ap, List, ℕ, ℤ}
use Rattle.std.specs.List.{zip}
use Rattle.profile_values.proofs.AssignedLemmas.{zip-push}
use Rattle.profile_values.proofs.assigned.Assigned.push.Goals as goal

pub returns-in-Ok : goal.returns-in-Ok
returns-in-Ok c = record {
  value =
      ap (λ (names : List (List ℕ)). zip names c.push.new.self.items) c.in-Ok.ensures.value
      ∙ ap (λ (numbers : List ℤ). zip (c.self.inside.names ++ c.args.name.now ∷ []) numbers) c.in_ok-push.ensures.items
      ∙ zip-push c.self.inside.names c.self.inside.numbers.items c.args.name.now c.args.number c.self.invariant
      ∙ ap (λ (all : List (List ℕ × ℤ)). all ++ (c.args.name.now, c.args.number) ∷ []) c.self.view_is;
}
