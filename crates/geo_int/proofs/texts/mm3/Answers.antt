use Rattle.std.proofs.Common.{◌≡◌, List, ℕ, ◌/◌, ◌++◌, OnOk, decimal, subst, ◌∙◌}
use Rattle.geo_int.specs.Texts.{metres_text, three_decimals}
use Rattle.geo_int.proofs.texts.mm3.Goals as goal

pub returns-clause-exact : goal.returns-clause-exact
unfolding metres_text three_decimals
returns-clause-exact c =
    let whole : c.as_bytes.result.now ≡ decimal (c.args.millimetres / 1000) = c.as_bytes.ensures.value ∙ c.format-whole.ensures.text in
    let P : List ℕ → Type 0 = λ x. OnOk c.append.result (c.append.new.text.items ≡ c.args.text.now.items ++ x) in
    subst P (cc) c.append.ensures.exact
