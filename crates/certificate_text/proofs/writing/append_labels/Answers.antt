use Rattle.std.proofs.Common.{refl}
use Rattle.certificate_text.proofs.WriteLemmas.{labels-more}
use Rattle.certificate_text.proofs.writing.append_labels.Goals as goal

pub entries-preserved : goal.entries-preserved
entries-preserved c =
    labels-more c.args.map.now c.args.entries.now c.entries.place _ _ c.args.text.now.items c.entries.text.items
    c.append_label.new.text.items c.entries-test.true refl c.entries.invariant c.in_ok-append_label.ensures.exact
