use Rattle.std.proofs.Common.{◌≡◌, ◌∙◌, ◌+◌, ◌++◌, ◌∷◌, [], sym, ap, subst, take, append_assoc, List, ℕ, ℤ}
use Rattle.profile_values.specs.Vars.{AreVars, by_bytes}
use Rattle.profile_values.proofs.VarLemmas.{AreVars-push, take-next}
use Rattle.profile_values.proofs.vars.put_all.Goals as goal

pub values-preserved : goal.values-preserved
values-preserved c = λ before vars.
    let found = c.at-number.result in
    let values = c.args.values.now in
    let next : before ++ take (c.values.place + 1) values ≡ (before ++ take c.values.place values) ++ (found.0.now, found.1) ∷ [] =
    ap (λ vs. before ++ vs) (take-next values c.values.place (found.0.now, found.1) c.at-number.ensures.value)
    ∙ sym (append_assoc before (take c.values.place values) ((found.0.now, found.1) ∷ [])) in
    subst (λ (vs : List (List ℕ × ℤ)). AreVars vs (by_bytes c.insert.new.self.entries)) (sym next)
    (AreVars-push (before ++ take c.values.place values) c.values.index.entries c.insert.new.self.entries c.in_ok-key.key found.0.now
    found.1
    (c.in_ok-key.ensures.items ∙ c.as_slice.ensures.value)
    c.in_ok-insert.ensures.entries (c.values.invariant before vars))
