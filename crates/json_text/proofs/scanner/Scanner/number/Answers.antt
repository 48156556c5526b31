-- The bytes of a number are a run.
use Rattle.std.proofs.Common.{refl, arith, ap, subst, ◌∙◌, take, drop, ◌-◌, ◌++◌}
use Rattle.json_text.specs.Scanner.{is_number}
use Rattle.json_text.specs.Told.{PartsGo}
use Rattle.json_text.proofs.RunLemmas.{number_on}
use Rattle.json_text.proofs.scanner.Scanner.number.Goals as goal

pub returns-clause-value : goal.returns-clause-value
returns-clause-value c =
    let one = ap (λ m. is_number m) c.requires.place in
    number_on c.args.self.now _ c.args.part c.number_end-end.result.1
    (record {
      same = refl;
      onward = c.number_end-end.ensures.onward;
      within =
          omega (arith, c.number_end-end.ensures.within, c.deref.ensures.len);
      fewer = omega (arith, c.number_end-end.ensures.onward, one);
    })
    c.requires.place refl
    (c.in_ok-extend_from_slice.ensures.items
    ∙ ap (λ xs. c.args.self.now.machine.content.items ++
    take (c.number_end-end.result.0 - c.args.self.now.read) (drop c.args.self.now.read xs)) c.deref-2.ensures.value)
    (subst (λ xs. PartsGo c.args.part (take (c.number_end-end.result.0 - c.args.self.now.read) (drop c.args.self.now.read xs))
    c.number_end-end.result.1) c.deref.ensures.value c.number_end-end.ensures.all)
