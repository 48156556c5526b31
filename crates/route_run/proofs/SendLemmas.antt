-- What a sink shows after pieces that were written one after the other.
use Rattle.std.proofs.Common.{◌≡◌, ℕ, ◌+◌, List, ◌++◌, length, take, sym, ap, ◌∙◌, subst, arith, length-append}
use Rattle.std.proofs.KnownBytes.{Appends-trans}
use Rattle.std.proofs.Math.Seq.{take-append-add}
use Rattle.std.proofs.lemmas.List.{take-append-le}
use Rattle.std.specs.Io.KnownBytes.{Appends}
use Rattle.edge_io.specs.Faults.{CountRose}
use Rattle.edge_io.specs.Sink.{SinkSeen, Grows, BreaksOff}

-- a piece that was written behind others
pub Grows-then : (first mid new : SinkSeen) (before piece : List ℕ) → Grows first mid before → Grows mid new piece →
    Grows first new (before ++ piece)
Grows-then first mid new before piece one two = record {
  held = Appends-trans first.held mid.held new.held before piece one.held two.held;
  faults = two.faults ∙ one.faults;
}

-- a piece that was broken off behind others breaks off the whole
pub BreaksOff-then : (first mid new : SinkSeen) (before piece rest all : List ℕ) → Grows first mid before → BreaksOff mid new piece →
    before ++ (piece ++ rest) ≡ all → BreaksOff first new all
BreaksOff-then first mid new before piece rest all one breaks is =
    let front : take (length before + breaks.sent) all ≡ before ++ take breaks.sent piece =
    ap (take (length before + breaks.sent)) (sym is) ∙ take-append-add before (piece ++ rest) breaks.sent
    ∙ ap (λ (l : List ℕ). before ++ l) (take-append-le breaks.sent piece rest (omega (arith, breaks.within))) in
    record {
      sent = length before + breaks.sent;
      within = omega (arith, breaks.within, ap length (sym is), length-append before (piece ++ rest), length-append piece rest);
      held = subst (Appends first.held new.held) (sym front)
          (Appends-trans first.held mid.held new.held before (take breaks.sent piece) one.held breaks.held);
      rose = subst (λ (n : ℕ). CountRose n new.faults) one.faults breaks.rose;
    }
