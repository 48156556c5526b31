use Rattle.std.proofs.Common.{refl}
use Rattle.track_reply.specs.Escapes.{escaped_byte}
use Rattle.track_reply.proofs.JoinLemmas.{texts-more}
use Rattle.track_reply.proofs.escapes.append_escaped.Goals as goal

pub bytes-preserved : goal.bytes-preserved
bytes-preserved c =
    texts-more escaped_byte c.args.text.now c.bytes.place _ 0 c.args.out.now.items c.bytes.out.items c.append_byte.new.out.items
    c.bytes-test.true refl c.bytes.invariant c.in_ok-append_byte.ensures.exact
