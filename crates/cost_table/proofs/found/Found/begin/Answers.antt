use Rattle.std.proofs.Common.{sym, subst}
use Rattle.cost_table.specs.Found.{AreAwaited, BeginsBy, waits}
use Rattle.cost_table.specs.declared.found.Found.{Found}
use Rattle.cost_table.specs.declared.want.Want.{Want}
use Rattle.cost_table.proofs.found.Found.begin.Goals as goal

pub returns-in_ok-wait_all-in-Nodes-clause-begins : goal.returns-in_ok-wait_all-in-Nodes-clause-begins
returns-in_ok-wait_all-in-Nodes-clause-begins c =
    let self : Found = c.args.self.now in
    let after : Found = record { want = self.want; costs = c.put_down.new.costs; waiting = c.wait_all.new.waiting } in
    let all = subst (λ nodes. AreAwaited nodes c.args.source (waits after)) c.as_slice.ensures.value
    c.in_ok-wait_all-in-Nodes.ensures.waits in
    record {
      puts = c.in_ok-put_down.ensures.puts;
      by_want = subst (λ (w : Want). BeginsBy w c.args.source after c.is_empty.result) (sym c.in-Nodes.is)
          (all, c.is_empty.ensures.exact);
    }
