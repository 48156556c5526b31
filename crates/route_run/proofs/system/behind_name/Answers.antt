use Rattle.std.proofs.Common.{◌∙◌, arith}
use Rattle.route_run.proofs.NameLemmas.{dropped-none, removed-first}
use Rattle.route_run.proofs.system.behind_name.Goals as goal

pub returns-then-len-gt0 : goal.returns-then-len-gt0
returns-then-len-gt0 c =
    record {
      exact = c.remove-name.ensures.items
          ∙ removed-first c.args.words.items (omega (arith, c.if-len-gt0.true, c.len.ensures, c.args.words.ok.0));
    }

pub returns-else-len-gt0 : goal.returns-else-len-gt0
returns-else-len-gt0 c =
    record { exact = dropped-none c.args.words.items (omega (arith, c.if-len-gt0.false, c.len.ensures, c.args.words.ok.0)) }
