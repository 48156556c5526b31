-- A reply whose bytes are made in one piece, as a text of which nothing is left to write. This project's own rule.
use Rattle.std.specs.Prelude.{ℕ, List, Vec}
use Rattle.std.specs.declared.alloc.Global.{Global}
use Rattle.route_engine.specs.declared.told.Told.{Told}
use Rattle.route_ready.specs.declared.ready.Ready.{Ready}

-- any bytes are one
abbrev pub IsInOnePiece : Ready → Told → Vec ℕ Global → Type 0
IsInOnePiece ready told whole = Unit {0}

-- it comes to its bytes
abbrev pub all_of : Ready → Told → Vec ℕ Global → List ℕ
all_of ready told whole = whole.items

-- nothing is left to spend on it
abbrev pub nothing_left : Vec ℕ Global → ℕ
nothing_left whole = 0
