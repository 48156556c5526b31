use Rattle.std.proofs.Common.{inr, Some}
use Rattle.std.proofs.lemmas.Result.{MatchResult-weaker}
use Rattle.way_class.specs.Facts.{Binding}
use Rattle.way_class.proofs.AnswerLemmas.{global-is}
use Rattle.way_class.proofs.BoundLemmas.{bound-to, refused-after, refused-global}
use Rattle.way_class.proofs.PartLemmas.{or-second}
use Rattle.way_class.proofs.binding.bind.Goals as goal

pub returns-in-Ok : goal.returns-in-Ok
returns-in-Ok c = record {
  exact = λ subject suits.
      let global = global-is subject _ (c.in-Ok.ensures.meaning subject suits.code) in
      let binding : Binding = record { subject = subject; map = c.args.map.now; tiles = c.args.tiles.now } in
      MatchResult-weaker c.linked.result (c.linked.ensures.exact subject suits)
      (λ bound is. bound-to binding _ bound global is)
      (λ e. or-second (refused-after subject c.args.map.now _ (Some e) global));
}

pub returns-in-Err : goal.returns-in-Err
returns-in-Err c = record {
  exact = λ subject suits.
      inr (refused-global subject c.args.map.now c.in-Err.fault
      (global-is subject _ (c.in-Err.ensures.meaning subject suits.code)));
}
