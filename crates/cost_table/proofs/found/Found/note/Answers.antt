use Rattle.std.proofs.Common.{false, true, sym, subst, refl, ◌∙◌}
use Rattle.cost_table.specs.Found.{NotesBy, beyond, found, passed, waits, within}
use Rattle.cost_table.specs.declared.found.Found.{Found}
use Rattle.cost_table.specs.declared.want.Want.{Want}
use Rattle.cost_table.proofs.WaitLemmas.{none-taken}
use Rattle.cost_table.proofs.found.Found.note.Goals as goal

pub returns-then-not-take-clause-notes : goal.returns-then-not-take-clause-notes
returns-then-not-take-clause-notes c =
    let self : Found = c.args.self.now in
    let after : Found = record { want = self.want; costs = self.costs; waiting = c.take.new.self } in
    let none = sym c.take.ensures.test ∙ c.if-not-take.true in
    subst (λ (w : Want). NotesBy w c.args.node c.args.cost self after false) (sym c.in-Nodes.is)
    (passed none
    (record {
      costs = λ node. refl;
      waiting = none-taken c.args.node (waits self) (waits after) none c.take.ensures.taken;
    }))

pub returns-then-cost-most-clause-notes : goal.returns-then-cost-most-clause-notes
returns-then-cost-most-clause-notes c =
    let self : Found = c.args.self.now in
    subst (λ (w : Want). NotesBy w c.args.node c.args.cost self self true) (sym c.in-Within.is)
    (beyond c.if-cost-most.true (record { costs = λ node. refl; waiting = λ node. refl }))

pub returns-in_ok-put_down-in-Nodes-clause-notes : goal.returns-in_ok-put_down-in-Nodes-clause-notes
returns-in_ok-put_down-in-Nodes-clause-notes c =
    let self : Found = c.args.self.now in
    let after : Found = record { want = self.want; costs = c.put_down.new.costs; waiting = c.take.new.self } in
    subst (λ (w : Want). NotesBy w c.args.node c.args.cost self after c.is_empty.result) (sym c.in-Nodes.is)
    (found (sym c.take.ensures.test ∙ c.if-not-take.false) c.take.ensures.taken c.in_ok-put_down-in-Nodes.ensures.puts
    c.is_empty.ensures.exact)

pub returns-in_ok-put_down-in-Within-clause-notes : goal.returns-in_ok-put_down-in-Within-clause-notes
returns-in_ok-put_down-in-Within-clause-notes c =
    let self : Found = c.args.self.now in
    let after : Found = record { want = self.want; costs = c.put_down-in-Within.new.costs; waiting = self.waiting } in
    subst (λ (w : Want). NotesBy w c.args.node c.args.cost self after false) (sym c.in-Within.is)
    (within c.if-cost-most.false c.in_ok-put_down-in-Within.ensures.puts)
