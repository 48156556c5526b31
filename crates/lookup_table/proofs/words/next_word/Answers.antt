use Rattle.std.proofs.Common.{◌∙◌, ◌∷◌, sym, ap, drop, arith}
use Rattle.lookup_table.specs.Words.{words_of}
use Rattle.lookup_table.proofs.WordLemmas.{no_word, next_word_is}
use Rattle.lookup_table.proofs.words.next_word.Goals as goal

pub returns-then-is_empty-clause-value : goal.returns-then-is_empty-clause-value
returns-then-is_empty-clause-value c =
    no_word c.args.text.now c.without_space-rest.result.now c.without_space-rest.ensures.value c.if-is_empty.ensures

pub returns-else-is_empty-clause-value : goal.returns-else-is_empty-clause-value
returns-else-is_empty-clause-value c =
    (next_word_is c.args.text.now c.without_space-rest.result.now c.word_len.result c.without_space-rest.ensures.value c.if-is_empty.ensures
    c.word_len.ensures.value).0
    ∙ ap (λ w. w ∷ words_of (drop c.word_len.result c.without_space-rest.result.now)) (sym c.split_at.ensures.front)
    ∙ ap (λ r. c.split_at.result.0.now ∷ words_of r) (sym c.split_at.ensures.back)

pub returns-else-is_empty-clause-fits : goal.returns-else-is_empty-clause-fits
returns-else-is_empty-clause-fits c =
    let next = next_word_is c.args.text.now c.without_space-rest.result.now c.word_len.result c.without_space-rest.ensures.value
    c.if-is_empty.ensures c.word_len.ensures.value in
    omega (arith, next.1, next.2, c.split_at.ensures.back_len, c.without_space-rest.ensures.fits)
