-- What a sink shows after several pieces.
use Rattle.std.proofs.Common.{ℕ, ◌+◌, ◌<◌, List, [], ◌++◌, length, take, drop, refl, sym, ◌∙◌, subst}
use Rattle.std.proofs.KnownBytes.{Appends-trans, Appends-nil, Appends-kept}
use Rattle.std.proofs.Math.Seq.{take-add}
use Rattle.std.specs.Io.KnownBytes.{Appends}
use Rattle.edge_io.specs.Sink.{SinkSeen, Grows, FailsToTake, BreaksOff}

-- nothing follows where nothing happened
pub Grows-none : (seen : SinkSeen) → Grows seen seen []
Grows-none seen = record { held = Appends-nil seen.held; faults = refl }

-- after the first bytes and then the next ones, so many first bytes follow
pub Grows-more : (first mid new : SinkSeen) (bytes : List ℕ) (sent taken : ℕ) → Grows first mid (take sent bytes) →
    Grows mid new (take taken (drop sent bytes)) → Grows first new (take (sent + taken) bytes)
Grows-more first mid new bytes sent taken before more =
    let joined : Appends first.held new.held (take sent bytes ++ take taken (drop sent bytes)) =
    Appends-trans first.held mid.held new.held (take sent bytes) (take taken (drop sent bytes)) before.held more.held in
    record {
      held = subst (Appends first.held new.held) (sym (take-add sent taken bytes)) joined;
      faults = more.faults ∙ before.faults;
    }

-- a call that failed after the first bytes breaks off there
pub BreaksOff-after : (first mid new : SinkSeen) (bytes : List ℕ) (sent : ℕ) → sent < length bytes → Grows first mid (take sent bytes) →
    FailsToTake mid new → BreaksOff first new bytes
BreaksOff-after first mid new bytes sent within before fails = record {
  sent = sent;
  within = within;
  held = Appends-kept first.held mid.held new.held (take sent bytes) before.held fails.held;
  rose = rw (← before.faults) fails.rose;
}
