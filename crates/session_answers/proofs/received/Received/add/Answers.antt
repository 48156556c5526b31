use Rattle.std.proofs.Common.{rules, ◌≡◌, length, ◌∙◌}
use Rattle.session_answers.proofs.ReceivedLemmas.{none-before, stays-after}
use Rattle.session_answers.proofs.received.Received.add.Goals as goal

pub head_from-self-requires-clause-none : goal.head_from-self-requires-clause-none
head_from-self-requires-clause-none c =
    let long : c.len-before.result ≡ length c.args.self.now.bytes.items = search rules in
    none-before c.args.self.now.bytes.items c.args.new.now c.as_slice.result.now c.args.self.now.head c.len-before.result
    (c.as_slice.ensures.value ∙ c.in_ok-extend_from_slice.ensures.items) long c.in-More.is c.args.self.now.heads

pub invariant_of-self-in_default : goal.invariant_of-self-in_default
invariant_of-self-in_default c = record {
  heads = stays-after c.args.self.now.bytes.items c.args.new.now c.extend_from_slice.new.self.items c.args.self.now.head
      c.in_ok-extend_from_slice.ensures.items c.in_default.not-More c.args.self.now.heads;
}
