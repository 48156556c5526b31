-- Plain bytes are a run.
use Rattle.std.proofs.Common.{refl, arith, ap, subst, ◌∙◌, take, drop, ◌-◌, ◌++◌}
use Rattle.json_text.specs.Bytes.{AreAll, is_plain}
use Rattle.json_text.proofs.RunLemmas.{plain_on}
use Rattle.json_text.proofs.scanner.Scanner.plain.Goals as goal

pub returns-clause-value : goal.returns-clause-value
returns-clause-value c =
    plain_on c.args.self.now _ c.args.role
    (record {
      same = refl;
      onward = c.plain_end-end.ensures.onward;
      within =
          omega (arith, c.plain_end-end.ensures.within, c.deref.ensures.len);
      fewer = omega (arith, c.plain_end-end.ensures.onward);
    })
    c.requires.place refl
    (c.in_ok-extend_from_slice.ensures.items
    ∙ ap (λ xs. c.args.self.now.machine.content.items ++
    take (c.plain_end-end.result - c.args.self.now.read) (drop c.args.self.now.read xs)) c.deref-2.ensures.value)
    (subst (λ xs. AreAll is_plain (take (c.plain_end-end.result - c.args.self.now.read) (drop c.args.self.now.read xs)))
    c.deref.ensures.value c.plain_end-end.ensures.all)
