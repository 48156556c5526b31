use Rattle.std.proofs.Common.{◌≡◌, List, ℕ, ◌++◌, OnOk, subst, SFits, w64, rules}
use Rattle.std.proofs.lemmas.Int.{to_z-of_z}
use Rattle.geo_int.proofs.TextLemmas.{height_text-negative, height_text-other}
use Rattle.geo_int.proofs.texts.ele.Goals as goal

pub returns-then-hundredths-lt0-clause-exact : goal.returns-then-hundredths-lt0-clause-exact
returns-then-hundredths-lt0-clause-exact c =
    let height : SFits w64 c.args.height = c.ranges.height in
    let hundredths : SFits w64 c.div_euclid-hundredths.result = search rules in
    let P : List ℕ → Type 0 = λ x. OnOk c.append_hundredths.result (c.append_hundredths.new.text.items ≡ c.args.text.now.items ++ x) in
    subst P
    (height_text-negative c.args.height c.div_euclid-hundredths.result c.unsigned_abs.result
    (simp to_z-of_z at c.div_euclid-hundredths.ensures)
    (simp to_z-of_z at c.unsigned_abs.ensures.value) (simp to_z-of_z at c.if-hundredths-lt0.true))
    c.append_hundredths.ensures.exact

pub returns-else-hundredths-lt0-clause-exact : goal.returns-else-hundredths-lt0-clause-exact
returns-else-hundredths-lt0-clause-exact c =
    let height : SFits w64 c.args.height = c.ranges.height in
    let hundredths : SFits w64 c.div_euclid-hundredths.result = search rules in
    let made = c.append_hundredths-else-hundredths-lt0 in
    let P : List ℕ → Type 0 = λ x. OnOk made.result (made.new.text.items ≡ c.args.text.now.items ++ x) in
    subst P
    (height_text-other c.args.height c.div_euclid-hundredths.result c.unsigned_abs-else-hundredths-lt0.result
    (simp to_z-of_z at c.div_euclid-hundredths.ensures) (simp to_z-of_z at c.unsigned_abs-else-hundredths-lt0.ensures.value)
    (simp to_z-of_z at c.if-hundredths-lt0.false))
    made.ensures.exact
