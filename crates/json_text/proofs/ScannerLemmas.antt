-- What a scanner stands for, move by move.
use Rattle.std.proofs.Common.{◌≡◌, ℕ, zero, suc, ◌+◌, ◌-◌, ◌≤◌, true, false, List, [], ◌∷◌, ◌++◌, length, drop, vec_len, refl, sym, ◌∙◌, ap, subst, arith, if◌then◌else◌, reverse, ◌<◌, get_or, drop-cons, add-one}
use Rattle.json_text.specs.declared.mode.Taken.{Taken}
use Rattle.json_text.specs.declared.mode.Taken.TheVariants as taken_
use Rattle.json_text.specs.declared.mode.Ending.{Ending}
use Rattle.json_text.specs.declared.mode.Ending.TheVariants as ending_
use Rattle.json_text.specs.declared.step.JsonStep.{JsonStep}
use Rattle.json_text.specs.declared.step.JsonStep.TheVariants as step_
use Rattle.json_text.specs.declared.step.JsonAnswer.TheVariants as answer_
use Rattle.json_text.specs.declared.machine.Machine.{Machine}
use Rattle.json_text.specs.declared.scanner.Scanner.{Scanner}
use Rattle.json_text.specs.Marks.{Symbol, Byte, End, Step, symbols_of, symbols}
use Rattle.json_text.specs.Reading.{More, Whole, BadAt, Reads}
use Rattle.json_text.specs.Rest.{keeping, holding, IsFrontOf, first_of}
use Rattle.json_text.specs.Machine.{move_by}
use Rattle.json_text.specs.Taking.{kept_of, move_of, IsSame, Takes, end_move_of, IsUnchanged, EndStays}
use Rattle.json_text.specs.Scanner.{is_number, fed, content, pending, symbols_left, Holds}
use Rattle.json_text.specs.Steps.{step_for}
use Rattle.json_text.specs.Told.{Told}
use Rattle.json_text.proofs.Stops.{Ended, FirstSays, first_says}
use Rattle.json_text.proofs.HoldLemmas.{move_at, IsLeftSame, read_holds, given_holds, first_holds, holds_more, holds_whole, holds_bad}

-- the byte that is read is the first that is pending
pub pending_byte : (items : List ℕ) (i b : ℕ) → i < length items → b ≡ get_or items i b → drop i items ≡ b ∷ drop (i + 1) items
pending_byte items i b h e = rw add-one (drop-cons items i b h ∙ ap (λ x. x ∷ drop (suc i) items) (sym e))

-- what a move by a byte says
abbrev pub Moves : Scanner → Scanner → Taken → Symbol → Type 0
Moves old new taken x = move_of taken new.machine ≡ move_at old x

module _ (old new : Scanner) (bytes : List ℕ) (steps : List Step) (b : ℕ) (taken : Taken) (h : Holds old bytes steps) (m :
    Moves old new taken (Byte b)) where
  -- it was read
  pub byte_read : taken ≡ taken_.Read → pending old ≡ b ∷ pending new → fed new ≡ fed old → Holds new bytes steps
  byte_read t p n = read_holds old new bytes steps b h p n (subst (λ x. Moves old new x (Byte b)) t m)

  -- a step was given
  pub byte_given : (step : JsonStep) → taken ≡ taken_.Given step → pending old ≡ b ∷ pending new → fed new ≡ fed old →
      Told (answer_.Step step) new bytes steps
  byte_given step t p n =
      given_holds old new bytes steps b h p n (step_for step (content new)) (subst (λ x. Moves old new x (Byte b)) t m)

  -- a number was given
  pub byte_first : taken ≡ taken_.First → (others : List ℕ) → pending old ≡ b ∷ others → IsLeftSame old new →
      Told (answer_.Step step_.Number) new bytes steps
  byte_first t others q s =
      first_holds old new bytes steps (Byte b) (symbols others ++ (if old.ended then End ∷ [] else [])) (Step.Number (content new)) h s
      (ap (λ ps. symbols ps ++ (if old.ended then End ∷ [] else [])) q) (subst (λ x. Moves old new x (Byte b)) t m)

-- the same place, with the same bytes pending
pub same_holds : (old new : Scanner) (bytes : List ℕ) (steps : List Step) → Holds old bytes steps → IsLeftSame old new
    → IsSame old.machine new.machine → Holds new bytes steps
same_holds old new bytes steps h l s = record {
  front = h.front;
  given = h.given;
  split = h.split ∙ ap (λ ps. symbols_of h.front ++ symbols ps) (sym l.pending_same);
  count = h.count ∙ sym l.fed_same;
  is_front = subst (λ x. IsFrontOf h.front (first_of (symbols_left new)) x (kept_of new.machine)) (sym s.mode)
      (subst (λ x. IsFrontOf h.front (first_of (symbols_left new)) old.machine.mode
      (keeping (64 - length x) (reverse x) new.machine.content.items)) (sym s.opens)
      (subst (λ x. IsFrontOf h.front (first_of (symbols_left new)) old.machine.mode (holding (kept_of old.machine) x)) (sym s.content)
      (subst (λ x. IsFrontOf h.front (first_of x) old.machine.mode (kept_of old.machine)) (sym left) h.is_front)));
}
  where
    left : symbols_left new ≡ symbols_left old
    left = ap (λ ps. symbols ps ++ (if new.ended then End ∷ [] else [])) l.pending_same
        ∙ ap (λ t. symbols (pending old) ++ (if t then End ∷ [] else [])) l.ended_same

-- a move by a symbol from the same place is the same
same_move : (old new : Machine) (x : Symbol) → IsSame old new
    → move_by new.mode (kept_of new) x ≡ move_by old.mode (kept_of old) x
same_move old new x s =
    ap (λ m. move_by m (kept_of new) x) s.mode
    ∙ ap (λ o. move_by old.mode (keeping (64 - length o) (reverse o) new.content.items) x) s.opens
    ∙ ap (λ k. move_by old.mode (holding (kept_of old) k) x) s.content

-- the byte behind which a scanner stands
abbrev pub IsAt : Scanner → ℕ → Type 0
IsAt scanner at = (scanner.read ≤ vec_len scanner.input) × (at ≡ scanner.before + scanner.read)

module _ (old new : Scanner) (bytes : List ℕ) (steps : List Step) (h : Holds old bytes steps) (l : IsLeftSame old new) where
  -- no text goes on with a symbol
  pub stuck_told : (x : Symbol) (others : List Symbol) (at : ℕ) → IsSame old.machine new.machine → symbols_left new ≡ x ∷ others
      → Moves old new taken_.Stuck x → IsAt new at → Told (answer_.Verdict (BadAt at)) new bytes steps
  stuck_told x others at s q m a =
      let k = same_holds old new bytes steps h l s in (
        k,
        subst (λ z. Reads bytes new.ended steps (BadAt z)) (sym a.1)
            (holds_bad new bytes steps x others k a.0 q (same_move old.machine new.machine x s ∙ sym m)),
      )

  -- no text goes on with a byte
  pub byte_stuck : (b : ℕ) (taken : Taken) (others : List ℕ) (at : ℕ) → Takes old.machine new.machine (move_at old (Byte b)) taken
      → taken ≡ taken_.Stuck → pending old ≡ b ∷ others → IsAt new at → Told (answer_.Verdict (BadAt at)) new bytes steps
  byte_stuck b taken others at k t q a =
      let m : Takes old.machine new.machine (move_at old (Byte b)) taken_.Stuck =
      subst (λ y. Takes old.machine new.machine (move_at old (Byte b)) y) t k in
      stuck_told (Byte b) (symbols others ++ (if new.ended then End ∷ [] else [])) at m.stays
      (ap (λ ps. symbols ps ++ (if new.ended then End ∷ [] else [])) (l.pending_same ∙ q)) m.moves a

-- nothing is left, and the end wasn't said
pub last_more : (scanner : Scanner) (bytes : List ℕ) (steps : List Step) → Holds scanner bytes steps → pending scanner ≡ [] →
    scanner.ended ≡ false → Told (answer_.Verdict More) scanner bytes steps
last_more scanner bytes steps h p e = (h, holds_more scanner bytes steps h p e)

-- what a move by the end says
abbrev pub EndMoves : Scanner → Scanner → Ending → Type 0
EndMoves old new ending = end_move_of ending new.machine ≡ move_at old End

module _ (old new : Scanner) (bytes : List ℕ) (steps : List Step) (ending : Ending) (h : Holds old bytes steps) (m :
    EndMoves old new ending)
    (nil : pending old ≡ []) (l : IsLeftSame old new) (t : old.ended ≡ true) where
  left_end : symbols_left old ≡ End ∷ []
  left_end = ap (λ ps. symbols ps ++ (if old.ended then End ∷ [] else [])) nil ∙ ap (λ y. if y then End ∷ [] else []) t

  -- a number ends the text
  pub end_number_told : ending ≡ ending_.Number → Told (answer_.Step step_.Number) new bytes steps
  end_number_told q =
      first_holds old new bytes steps End [] (Step.Number (content new)) h l left_end (subst (λ y. EndMoves old new y) q m)

  -- the text is whole
  pub end_whole_told : ending ≡ ending_.Whole → EndStays ending old.machine new.machine → Told (answer_.Verdict Whole) new bytes steps
  end_whole_told q s =
      let u : IsUnchanged old.machine new.machine = subst (λ y. EndStays y old.machine new.machine) q s in
      let k = same_holds old new bytes steps h l u.place in (
        k,
        holds_whole new bytes steps k (l.pending_same ∙ nil) (l.ended_same ∙ t)
            (same_move old.machine new.machine End u.place ∙ sym (subst (λ y. EndMoves old new y) q m)),
      )

  -- the text isn't whole
  pub end_stuck_told : (at : ℕ) → ending ≡ ending_.Stuck → EndStays ending old.machine new.machine → IsAt new at →
      Told (answer_.Verdict (BadAt at)) new bytes steps
  end_stuck_told at q s a =
      let u : IsUnchanged old.machine new.machine = subst (λ y. EndStays y old.machine new.machine) q s in
      stuck_told old new bytes steps h l End [] at u.place
      (ap (λ ps. symbols ps ++ (if new.ended then End ∷ [] else [])) l.pending_same
      ∙ ap (λ y. symbols (pending old) ++ (if y then End ∷ [] else [])) l.ended_same ∙ left_end)
      (subst (λ y. EndMoves old new y) q m) a

-- nothing is pending behind the last byte
pub none_pending : (items : List ℕ) (i : ℕ) → length items ≤ i → drop i items ≡ []
none_pending [] zero h = refl
none_pending [] (suc i) h = refl
none_pending (x ∷ items) zero h = absurd (omega arith)
none_pending (x ∷ items) (suc i) h = none_pending items i (omega arith)

-- two scanners that differ by their flag of failure alone
pub record IsAlike (mid new : Scanner) : Type 0 where
  pub input : new.input ≡ mid.input
  pub machine : new.machine ≡ mid.machine
  pub read : new.read ≡ mid.read
  pub before : new.before ≡ mid.before
  pub ended : new.ended ≡ mid.ended

-- they stand for the same
pub alike_holds : (mid new : Scanner) (bytes : List ℕ) (steps : List Step) → IsAlike mid new → Holds mid bytes steps → Holds new bytes steps
alike_holds mid new bytes steps a h =
    same_holds mid new bytes steps h
    (record {
      pending_same = ap (λ i. drop new.read i.items) a.input ∙ ap (λ k. drop k mid.input.items) a.read;
      fed_same = ap (λ i. new.before + vec_len i) a.input ∙ ap (λ k. k + vec_len mid.input) a.before;
      ended_same = a.ended;
    })
    (record { mode = ap (λ m. m.mode) a.machine; opens = ap (λ m. m.opens.items) a.machine; content = ap (λ m. m.content.items) a.machine })

-- a number that ends is no number any more
pub first_nearer : (old new : Machine) (b : ℕ) (taken : Taken) → move_of taken new ≡ move_by old.mode (kept_of old) (Byte b)
    → taken ≡ taken_.First → is_number new.mode < is_number old.mode
first_nearer old new b taken m t =
    let d : Ended old.mode (kept_of old) (Step.Number new.text.items) new.mode (kept_of new) =
    subst (FirstSays old.mode (kept_of old))
    (sym (subst (λ x. move_of x new ≡ move_by old.mode (kept_of old) (Byte b)) t m))
    (first_says old.mode (kept_of old) (Byte b)) in
    let one : is_number old.mode ≡ 1 = ap is_number d.is_number in
    let none : is_number new.mode ≡ 0 = ap is_number d.mode_is in
    omega (arith, one, none)
