use Rattle.std.proofs.Common.{◌≡◌, List, ℕ, ◌/◌, ◌++◌, OnOk, decimal, subst, ◌∙◌}
use Rattle.geo_int.specs.Texts.{hundredths_text, two_decimals}
use Rattle.geo_int.proofs.texts.append_hundredths.Goals as goal

pub returns-clause-exact : goal.returns-clause-exact
unfolding hundredths_text two_decimals
returns-clause-exact c =
    let whole : c.as_bytes.result.now ≡ decimal (c.args.size / 100) = c.as_bytes.ensures.value ∙ c.format-whole.ensures.text in
    let P : List ℕ → Type 0 = λ x. OnOk c.append.result (c.append.new.text.items ≡ c.args.text.now.items ++ x) in
    subst P (cc) c.append.ensures.exact
