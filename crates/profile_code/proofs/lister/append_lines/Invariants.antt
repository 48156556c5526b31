use Rattle.std.proofs.Common.{◌≡◌, ◌++◌, drop}
use Rattle.profile_code.specs.Labels.{naming_in}
use Rattle.profile_code.specs.Listing.{lines_text}
use Rattle.profile_code.proofs.lister.append_lines.Given as goal

abbrev pub invariant-lines : goal.invariant-lines
invariant-lines l =
    l.text.items ++ lines_text (naming_in l.labels) l.number l.place (drop l.number l.instrs) ≡ l.fn.text.items ++ lines_text
    (naming_in l.labels) 0 0 l.instrs
