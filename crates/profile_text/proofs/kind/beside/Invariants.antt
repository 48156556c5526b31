-- No word that was passed is the text.
use Rattle.std.proofs.Common.{◌≡◌, drop}
use Rattle.profile_text.specs.Kind.{beside, words_in}
use Rattle.profile_text.proofs.kind.beside.Given as goal

abbrev pub invariant-rows : goal.invariant-rows
invariant-rows g l = beside (words_in l.rows) l.text ≡ beside (words_in (drop l.place l.rows)) l.text
