use Rattle.std.proofs.Common.{length}
use Rattle.profile_text.specs.Expr.{sections_in}
use Rattle.profile_text.proofs.PartLemmas.{ReadsOn}
use Rattle.profile_text.proofs.profile.Profile.read.Given as goal

abbrev pub invariant-parts : goal.invariant-parts
invariant-parts l = ReadsOn l.text (record { sections = sections_in l.profile; current = l.current; place = l.reader })

abbrev pub decreases-parts : goal.decreases-parts
decreases-parts l = length l.reader.tokens
