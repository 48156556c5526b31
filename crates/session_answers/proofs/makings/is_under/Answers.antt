use Rattle.std.proofs.Common.{◌≡◌, ◌∙◌, ap, sym}
use Rattle.std.proofs.lemmas.Bool.{false≢true}
use Rattle.session_answers.proofs.KeyLemmas.{key-same, same-key}
use Rattle.session_answers.specs.declared.makings.Making.{Making}
use Rattle.session_answers.proofs.OnceLemmas.{one-there}
use Rattle.session_answers.proofs.makings.is_under.Goals as goal

pub returns-in-Some : goal.returns-in-Some
returns-in-Some c = record {
  found = λ same. (c.in-Some.making, c.in-Some.is, key-same c.in-Some.making.key c.args.key.now (sym c.eq.ensures ∙ same));
  none = λ differs making there same.
      let one : c.in-Some.making ≡ making = one-there c.args.slot.now c.in-Some.making making c.in-Some.is there in
      false≢true (sym differs ∙ c.eq.ensures
      ∙ same-key c.in-Some.making.key c.args.key.now (ap (λ (m : Making). m.key) one ∙ same));
}
