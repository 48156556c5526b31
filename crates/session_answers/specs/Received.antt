-- What is kept of a session while it is read. This project's own rule.
use Rattle.std.specs.Prelude.{ℕ, List}
use Rattle.session_answers.specs.declared.received.Received.{Received}

-- the bytes that came
abbrev pub received_of : Received → List ℕ
received_of r = r.bytes.items
