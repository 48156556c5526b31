-- A quotation mark and plain bytes are a run.
use Rattle.std.proofs.Common.{refl, arith, ap, subst, ◌∙◌, take, drop, ◌-◌, ◌+◌, ◌++◌}
use Rattle.json_text.specs.Bytes.{AreAll, is_plain}
use Rattle.json_text.proofs.BeginLemmas.{quote_on}
use Rattle.json_text.proofs.scanner.Scanner.quote.Goals as goal

pub returns-clause-value : goal.returns-clause-value
returns-clause-value c =
    quote_on c.args.self.now _
    (record {
      same = refl;
      onward = omega (arith, c.plain_end-end.ensures.onward);
      within =
          omega (arith, c.plain_end-end.ensures.within, c.deref.ensures.len);
      fewer = omega (arith, c.plain_end-end.ensures.onward);
    })
    (omega (arith, c.plain_end-end.ensures.onward)) c.args.role c.requires.place c.requires.next refl
    (c.in_ok-extend_from_slice.ensures.items
    ∙ ap (λ zs. zs ++ take (c.plain_end-end.result - (c.args.self.now.read + 1)) (drop (c.args.self.now.read + 1) c.deref-2.result.now))
    c.clear.ensures.items
    ∙ ap (λ xs. take (c.plain_end-end.result - (c.args.self.now.read + 1)) (drop (c.args.self.now.read + 1) xs)) c.deref-2.ensures.value)
    (subst (λ xs. AreAll is_plain (take (c.plain_end-end.result - (c.args.self.now.read + 1)) (drop (c.args.self.now.read + 1) xs)))
    c.deref.ensures.value c.plain_end-end.ensures.all)
