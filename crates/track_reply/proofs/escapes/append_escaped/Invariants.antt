use Rattle.std.proofs.Common.{◌≡◌, ◌++◌, take}
use Rattle.std.specs.List.{flat_map}
use Rattle.track_reply.specs.Escapes.{escaped_byte}
use Rattle.track_reply.proofs.escapes.append_escaped.Given as goal

abbrev pub invariant-bytes : goal.invariant-bytes
invariant-bytes l = l.out.items ≡ l.fn.out.items ++ flat_map escaped_byte (take l.place l.text)
