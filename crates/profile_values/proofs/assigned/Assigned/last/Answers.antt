use Rattle.std.proofs.Common.{pos, ◌∙◌, sym}
use Rattle.profile_values.proofs.AssignedLemmas.{last_found, last_none}
use Rattle.profile_values.proofs.assigned.Assigned.last.Goals as goal

pub returns-in_err-place : goal.returns-in_err-place
returns-in_err-place c = record {
  value =
      c.from_residual.ensures
      ∙ last_none c.self.inside.names c.self.inside.numbers.items c.args.self.now c.args.name.now (pos 0) c.self.view_is c.self.invariant
      (sym c.in_err-place.was ∙ c.last.ensures.value);
}

pub returns : goal.returns
returns c = record {
  value =
      last_found c.self.inside.names c.self.inside.numbers.items c.args.self.now c.args.name.now c.in_ok-place.place c.index.result.now
      c.self.view_is c.self.invariant (sym c.in_ok-place.was ∙ c.last.ensures.value) c.index.ensures;
}
