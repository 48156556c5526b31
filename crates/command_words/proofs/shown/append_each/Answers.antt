use Rattle.std.proofs.Common.{refl}
use Rattle.command_words.specs.Shown.{byte_text, bytes_text}
use Rattle.command_words.proofs.HelpLemmas.{texts-next}
use Rattle.command_words.proofs.shown.append_each.Goals as goal

pub bytes-preserved : goal.bytes-preserved
bytes-preserved c =
    texts-next byte_text bytes_text (λ byte bytes. refl) _ c.bytes.text.items c.append_byte.new.text.items c.args.bytes.now c.bytes.byte-index
    _ c.bytes-test.true c.bytes.invariant c.in_ok-append_byte.ensures.exact
