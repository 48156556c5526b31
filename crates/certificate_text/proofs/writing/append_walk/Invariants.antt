use Rattle.std.proofs.Common.{◌≡◌, ◌++◌, take}
use Rattle.certificate_text.specs.Lines.{walk_text}
use Rattle.certificate_text.proofs.writing.append_walk.Given as goal

abbrev pub invariant-links : goal.invariant-links
invariant-links l = l.text.items ≡ l.fn.text.items ++ walk_text l.map (take l.place l.walk)
