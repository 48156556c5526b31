-- White space is a run.
use Rattle.std.proofs.Common.{refl, arith, subst, take, drop, ◌-◌}
use Rattle.json_text.specs.Bytes.{AreAll, is_space}
use Rattle.json_text.proofs.RunLemmas.{spaces_on}
use Rattle.json_text.proofs.scanner.Scanner.spaces.Goals as goal

pub returns-clause-value : goal.returns-clause-value
returns-clause-value c =
    spaces_on c.args.self.now _
    (record {
      same = refl;
      onward = c.spaces_end-self.ensures.onward;
      within =
          omega (arith, c.spaces_end-self.ensures.within, c.deref.ensures.len);
      fewer = omega (arith, c.spaces_end-self.ensures.onward);
    })
    c.requires.place refl refl
    (subst (λ xs. AreAll is_space (take (c.spaces_end-self.result - c.args.self.now.read) (drop c.args.self.now.read xs)))
    c.deref.ensures.value c.spaces_end-self.ensures.all)
