use Rattle.std.proofs.Common.{◌≡◌, ◌++◌, take}
use Rattle.certificate_text.specs.Lines.{lines_of}
use Rattle.certificate_text.specs.Texts.{labels_of}
use Rattle.certificate_text.proofs.writing.append_labels.Given as goal

abbrev pub invariant-entries : goal.invariant-entries
invariant-entries l = l.text.items ≡ l.fn.text.items ++ lines_of l.map (labels_of (take l.place l.entries))
