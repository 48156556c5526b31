-- A number's bytes are a run, its first byte too.
use Rattle.std.proofs.Common.{refl, arith, ap, subst, ◌∙◌, take, drop, ◌-◌, ◌<◌, ◌++◌}
use Rattle.json_text.specs.declared.mode.Part.TheVariants as part_
use Rattle.json_text.specs.Told.{PartsGo}
use Rattle.json_text.proofs.BeginLemmas.{digits_on}
use Rattle.json_text.proofs.scanner.Scanner.digits.Goals as goal

pub returns-clause-value : goal.returns-clause-value
returns-clause-value c =
    let grew : c.args.self.now.read < c.number_end-end.result.0 = omega (arith, c.number_end-end.ensures.onward, c.if-end-self.false) in
    digits_on c.args.self.now _
    (record {
      same = refl;
      onward = c.number_end-end.ensures.onward;
      within =
          omega (arith, c.number_end-end.ensures.within, c.deref.ensures.len);
      fewer = omega (arith, grew);
    })
    grew c.number_end-end.result.1 c.requires.place refl
    (c.in_ok-extend_from_slice.ensures.items
    ∙ ap (λ zs. zs ++ take (c.number_end-end.result.0 - c.args.self.now.read) (drop c.args.self.now.read c.deref-2.result.now))
    c.clear.ensures.items
    ∙ ap (λ xs. take (c.number_end-end.result.0 - c.args.self.now.read) (drop c.args.self.now.read xs)) c.deref-2.ensures.value)
    (subst (λ xs. PartsGo part_.Nothing (take (c.number_end-end.result.0 - c.args.self.now.read) (drop c.args.self.now.read xs))
    c.number_end-end.result.1) c.deref.ensures.value c.number_end-end.ensures.all)
