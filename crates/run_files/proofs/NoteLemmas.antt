-- Notes that follow one another.
use Rattle.std.proofs.Common.{◌≡◌, ◌≤◌, ◌<◌, ℕ, suc, ◌+◌, ◌/◌, ◌∙◌, Bool, true, false, List, [], ◌++◌, length, take, drop, refl, sym, ap, subst, arith, append_assoc, length-append}
use Rattle.std.proofs.KnownBytes.{Appends-nil, Appends-trans}
use Rattle.std.proofs.lemmas.List.{take-append-drop}
use Rattle.std.specs.Io.KnownBytes.{Appends}
use Rattle.command_words.specs.Given.{Named}
use Rattle.edge_io.specs.Sink.{BreaksOff, SinkSeen}
use Rattle.run_files.specs.NoteLines.{part_note, part_notes, part_size, read_notes}
use Rattle.run_files.specs.Notes.{HasFront, IsNoted, NotesSeen}
use Rattle.run_files.specs.Notes.{IsNoted as noted}

-- bytes that were broken off leave a front of them
pub front-of_broken : (text : List ℕ) (old new : SinkSeen) → BreaksOff old new text → HasFront text old new
front-of_broken text old new breaks = record {
  front = take breaks.sent text;
  rest = drop breaks.sent text;
  parts = sym (take-append-drop breaks.sent text);
  held = breaks.held;
}

-- where nothing was written, a front of any text is there
pub front-none : (text : List ℕ) (seen : SinkSeen) → HasFront text seen seen
front-none text seen = record { front = []; rest = text; parts = refl; held = Appends-nil seen.held }

-- no note
pub noted-none : (seen : NotesSeen) → IsNoted [] seen seen
noted-none seen = go seen.is_on refl
  where
    go : (on : Bool) → seen.is_on ≡ on → IsNoted [] seen seen
    go true on = noted.whole on on (Appends-nil seen.sink.held)
    go false off = noted.silent off refl

-- a test can't come to both
on_off : (b : Bool) → b ≡ true → b ≡ false → ⊥
on_off b on off = let clash : true ≡ false = sym on ∙ off in cc

-- one note behind another
pub noted-more : (a b : List ℕ) (first mid new : NotesSeen) → IsNoted a first mid → IsNoted b mid new → IsNoted (a ++ b) first new
noted-more a b first mid new (noted.whole on mid_on held) (noted.whole again new_on more) =
    noted.whole on new_on (Appends-trans first.sink.held mid.sink.held new.sink.held a b held more)
noted-more a b first mid new (noted.whole on mid_on held) (noted.broken again off front) =
    noted.broken on off (record {
      front = a ++ front.front;
      rest = front.rest;
      parts = ap (λ (l : List ℕ). a ++ l) front.parts ∙ sym (append_assoc a front.front front.rest);
      held = Appends-trans first.sink.held mid.sink.held new.sink.held a front.front held front.held;
    })
noted-more a b first mid new (noted.whole on mid_on held) (noted.silent off same) = absurd (on_off mid.is_on mid_on off)
noted-more a b first mid new (noted.broken on off front) (noted.whole again new_on more) = absurd (on_off mid.is_on again off)
noted-more a b first mid new (noted.broken on off front) (noted.broken again new_off more) = absurd (on_off mid.is_on again off)
noted-more a b first mid new (noted.broken on off front) (noted.silent still same) =
    noted.broken on (ap (λ (s : NotesSeen). s.is_on) same ∙ off) (record {
      front = front.front;
      rest = front.rest ++ b;
      parts = ap (λ (l : List ℕ). l ++ b) front.parts ∙ append_assoc front.front front.rest b;
      held = subst (λ (s : NotesSeen). Appends first.sink.held s.sink.held front.front) (sym same) front.held;
    })
noted-more a b first mid new (noted.silent off same) (noted.whole on new_on more) =
    absurd (on_off mid.is_on on (ap (λ (s : NotesSeen). s.is_on) same ∙ off))
noted-more a b first mid new (noted.silent off same) (noted.broken on new_off front) =
    absurd (on_off mid.is_on on (ap (λ (s : NotesSeen). s.is_on) same ∙ off))
noted-more a b first mid new (noted.silent off same) (noted.silent still later) = noted.silent off (later ∙ same)

-- the notes on parts, where another one begins
pub parts-more : (file : Named) (before more : ℕ) (first mid new : NotesSeen) → more ≤ part_size →
    before / part_size < (before + more) / part_size → IsNoted (read_notes file before) first mid →
    IsNoted (part_note file ((before + more) / part_size)) mid new → IsNoted (read_notes file (before + more)) first new
parts-more file before more first mid new small begins so_far next =
    let one : (before + more) / part_size ≡ suc (before / part_size) = omega (arith, small, begins) in
    let last : IsNoted (part_note file (suc (before / part_size))) mid new =
    subst (λ (n : ℕ). IsNoted (part_note file n) mid new) one next in
    subst (λ (n : ℕ). IsNoted (part_notes file n) first new) (sym one)
    (noted-more (read_notes file before) (part_note file (suc (before / part_size))) first mid new so_far last)

-- the notes on bytes that were read, with a piece behind them
pub read-more : (file : Named) (bytes piece : List ℕ) (before more : ℕ) (first mid new : NotesSeen) → before ≡ length bytes →
    length piece ≡ more →
    ((from : NotesSeen) → IsNoted (read_notes file before) from mid → IsNoted (read_notes file (before + more)) from new) →
    IsNoted (read_notes file (length bytes)) first mid → IsNoted (read_notes file (length (bytes ++ piece))) first new
read-more file bytes piece before more first mid new is long goes so_far =
    let all : before + more ≡ length (bytes ++ piece) = omega (arith, is, long, length-append bytes piece) in
    subst (λ (n : ℕ). IsNoted (read_notes file n) first new) all
    (goes first (subst (λ (n : ℕ). IsNoted (read_notes file n) first mid) (sym is) so_far))
