use Rattle.std.proofs.Common.{ℕ, List, nat_eq, sym, subst, ◌∙◌}
use Rattle.std.specs.Cmp.{nat_eq_equiv}
use Rattle.std.specs.List.{Contains, IsDistinct}
use Rattle.std.proofs.lemmas.Map.Views.{Contains-keys_from_lookup, IsSome-lookup_from_Contains}
use Rattle.cost_table.proofs.FoundLemmas.{same-number}
use Rattle.cost_table.proofs.found.Found.nodes.Goals as goal

pub returns-clause-exact : goal.returns-clause-exact
returns-clause-exact c =
    let entries = c.args.self.now.costs.entries in
    let same = c.as_slice.ensures ∙ c.keys.ensures.rest in
    λ node. (
      λ there. IsSome-lookup_from_Contains nat_eq_equiv node entries
          (subst (λ (keys : List ℕ). Contains keys node) same there),
      λ some. subst (λ (keys : List ℕ). Contains keys node) (sym same)
          (Contains-keys_from_lookup same-number node entries some),
    )

pub returns-clause-distinct : goal.returns-clause-distinct
returns-clause-distinct c =
    subst (λ (keys : List ℕ). IsDistinct nat_eq keys) (sym (c.as_slice.ensures ∙ c.keys.ensures.rest)) c.keys.ensures.unique
