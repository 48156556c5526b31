use Rattle.std.proofs.Common.{◌∙◌, ap, sym, bytes_eq}
use Rattle.item_list.proofs.TestLemmas.{bytes_eq-refl}
use Rattle.certificate_text.proofs.ByteLemmas.{behind-other}
use Rattle.certificate_text.proofs.NumberLemmas.{not-both}
use Rattle.certificate_text.proofs.cuts.behind.Goals as goal

pub returns-else-eq : goal.returns-else-eq
returns-else-eq c = record {
  exact = behind-other c.args.text.now c.args.front.now c.split_at.result.0.now c.split_at.result.1.now c.split_at.ensures.by_index.0
      c.split_at.ensures.front_len
      (λ same. not-both c.eq.result c.if-eq.false
      (c.eq.ensures ∙ ap (bytes_eq c.split_at.result.0.now) (sym same) ∙ bytes_eq-refl c.split_at.result.0.now));
}
