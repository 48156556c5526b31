-- One operation as a call carries it out. This project's own rule.
use Rattle.std.specs.Prelude.{◌≢◌, ℕ, List, length, ℤ, Result, Ok, Err}
use Rattle.fixed_num.specs.declared.arithmetic.Arith.{Arith}
use Rattle.profile_code.specs.Held.{Held}
use Rattle.profile_code.specs.Machine.{Given, Ended, Faulted, Stuck, Next, act}
use Rattle.profile_code.specs.declared.instr.Instr.{Instr}

-- what a run is given, where its stack and its values have this room
abbrev pub given_of : List ℕ → List ℤ → Held → Held → Given
given_of numbers global stack own =
    record { room = stack.room; most = own.room; numbers = numbers; global = global }

-- the operation lacks nothing, whatever comes next
abbrev pub IsReady : Given → Instr → List ℤ → List ℤ → Type 0
IsReady given instr stack own = (next : Next) × (act given instr next stack own ≢ Stuck)

-- the run goes on after so many operations that are passed, or ends with a fault
abbrev pub came_to : Result ℕ Arith → Next → List ℤ → List ℤ → Ended
came_to (Ok passed) next stack own = next passed stack own
came_to (Err kind) next stack own = Faulted (length own) kind
