-- The scanner keeps all but that the end was said.
use Rattle.std.proofs.Common.{refl}
use Rattle.json_text.proofs.HoldLemmas.{end_holds}
use Rattle.json_text.proofs.scanner.Scanner.end.Goals as goal

pub returns-clause-value : goal.returns-clause-value
returns-clause-value c bytes ended steps s = record {
  holds = end_holds c.args.self.now _ bytes steps refl refl refl refl s.holds;
  ended_is = refl;
  works = s.works;
}
