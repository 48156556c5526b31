use Rattle.std.proofs.Common.{◌≤◌, ap, arith, length, not, ◌==◌}
use Rattle.std.specs.List.{filter}
use Rattle.edge_memory.proofs.HeldLemmas.{has-out, length-out}
use Rattle.edge_memory.proofs.stage.follow.Goals as goal

pub returns-in-Lost-clause-exact : goal.returns-in-Lost-clause-exact
returns-in-Lost-clause-exact c = λ id. rw (c.in-Lost.is, c.take_out.ensures.exact) (has-out id c.in-Lost.id c.args.live.now.items)

pub returns-in-Lost-clause-few : goal.returns-in-Lost-clause-few
returns-in-Lost-clause-few c =
    let fewer : length (filter (λ x. not (x == c.in-Lost.id)) c.args.live.now.items) ≤ length c.args.live.now.items =
    length-out c.in-Lost.id c.args.live.now.items in
    omega (arith, ap length c.take_out.ensures.exact, c.take_out.new.ids.ok.0, c.args.live.now.ok.0)
