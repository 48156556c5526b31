use Rattle.std.proofs.Common.{◌∙◌, ap, sym, subst, take, drop}
use Rattle.certificate_text.specs.Parts.{HasNo, Begins}
use Rattle.certificate_text.proofs.ByteLemmas.{cut-parts}
use Rattle.certificate_text.proofs.cuts.word.Goals as goal

pub returns-clause-front : goal.returns-clause-front
returns-clause-front c =
    subst (HasNo c.args.byte)
    (sym (c.split_at.ensures.front ∙ ap (λ n. take n c.args.text.now) c.len_before.ensures.value))
    (cut-parts c.args.byte c.args.text.now).0

pub returns-clause-back : goal.returns-clause-back
returns-clause-back c =
    subst (Begins c.args.byte)
    (sym (c.split_at.ensures.back ∙ ap (λ n. drop n c.args.text.now) c.len_before.ensures.value))
    (cut-parts c.args.byte c.args.text.now).1
