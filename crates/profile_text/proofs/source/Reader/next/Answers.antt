use Rattle.std.proofs.Common.{◌+◌, false, ◌∙◌, ap, sym, subst, refl}
use Rattle.profile_text.specs.Source.{BeginsInked}
use Rattle.profile_text.specs.Token.{tokens_from}
use Rattle.profile_text.proofs.TokenLemmas.{first_of_front}
use Rattle.profile_text.proofs.source.Reader.next.Goals as goal

pub returns : goal.returns
returns c =
    let front = c.split_at.result.1.now in
    let line = c.gap-gap.result.1 + 1 in
    record {
      value = record {
        tokens =
            sym (ap (λ p. p.tokens) c.self.view_is)
            ∙ c.gap-gap.ensures.value
            ∙ ap (tokens_from false line) (sym c.split_at.ensures.back)
            ∙ first_of_front line front c.split_at-2.result.0.now c.split_at-2.result.1.now c.token_len.result
            (subst BeginsInked (sym c.split_at.ensures.back) c.gap-gap.ensures.front) c.if-is_empty.ensures c.token_len.ensures.value
            c.split_at-2.ensures.front c.split_at-2.ensures.back;
        last = refl;
      };
    }
