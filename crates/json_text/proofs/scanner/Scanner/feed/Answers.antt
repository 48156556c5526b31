-- What was pending is pending, and then the piece.
use Rattle.std.proofs.Common.{refl, ap, ◌∙◌, ◌++◌, arith, drop}
use Rattle.std.proofs.lemmas.List.{drop-append-le}
use Rattle.json_text.proofs.HoldLemmas.{feed_holds}
use Rattle.json_text.proofs.scanner.Scanner.feed.Goals as goal

pub returns-clause-value : goal.returns-clause-value
returns-clause-value c bytes steps s = record {
  holds = feed_holds c.args.self.now _ bytes c.args.piece.now steps
      (ap (λ xs. drop c.forget.new.self.read xs) c.in_ok-extend_from_slice.ensures.items
      ∙ drop-append-le c.forget.new.self.read c.forget.new.self.input.items c.args.piece.now
      (omega (arith, c.forget.new.self.in_range, c.forget.new.self.input.ok.0))
      ∙ ap (λ xs. xs ++ c.args.piece.now) c.forget.ensures.pending)
      (omega (arith, c.forget.ensures.fed, c.in_ok-extend_from_slice.ensures.len))
      c.forget.ensures.machine s.ended_is (c.forget.ensures.ended ∙ s.ended_is) s.holds;
  ended_is = c.forget.ensures.ended ∙ s.ended_is;
  works = refl;
}
