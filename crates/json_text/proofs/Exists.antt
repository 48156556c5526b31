-- Each text has a reading.
use Rattle.std.proofs.Common.{◌≡◌, ℕ, ◌⊎◌, inl, inr, Bool, true, false, List, [], ◌∷◌, ◌++◌, length, refl, sym, ◌∙◌, ap, subst, append_assoc, cond, if◌then◌else◌}
use Rattle.json_text.specs.declared.mode.Bracket.{Bracket}
use Rattle.json_text.specs.declared.mode.Part.{Part}
use Rattle.json_text.specs.declared.mode.Mode.{Mode}
use Rattle.json_text.specs.declared.mode.Mode.TheVariants as mode_
use Rattle.json_text.specs.Marks.{Symbol, Byte, End, Step, Mark, Seen, Given, symbols_of, steps_of, symbols, Begins}
use Rattle.json_text.specs.Reading.{Verdict, More, Whole, BadAt, IsBad, Reads}
use Rattle.json_text.specs.Rest.{Kept, keeping, holding, IsFrontOf, may_end}
use Rattle.json_text.specs.Machine.{Move, Gives, GivesFirst, Finishes, Stuck, move_by, byte_move}
use Rattle.json_text.specs.Machine as machine
use Rattle.json_text.proofs.Lists.{append_nil, symbols_append, begins, begins_self}
use Rattle.json_text.proofs.Stops.{may_end_gives, Ended, FirstSays, first_says, ByteSays, byte_says}
use Rattle.json_text.proofs.Fronts.{empty_front, reads_on, gives_on, first_on}
use Rattle.json_text.proofs.Verdicts.{more_at, whole_at, bad_at}

-- what becomes of a front by a symbol: it grows past it, the symbol finishes the text, or no text goes on so
data Comes (front : List Mark) (x : Symbol) : Type 0 where
  goes : (longer : List Mark) (mode : Mode) (kept : Kept)
      → IsFrontOf longer [] mode kept → symbols_of longer ≡ symbols_of front ++ (x ∷ []) → Comes front x
  stays : (longer : List Mark) (next : List Symbol) (mode : Mode) (kept : Kept)
      → IsFrontOf longer next mode kept → Begins next (x ∷ []) → symbols_of longer ≡ symbols_of front
      → (move_by mode kept x ≡ Finishes) ⊎ (move_by mode kept x ≡ Stuck) → Comes front x

-- only in a number a step is given first
not_after : (part : Part) → mode_.After ≡ mode_.Number part → ⊥
not_after part e = cc

-- behind a number that ended, a symbol makes the front grow or stops it
again : {front : List Mark} {next : List Symbol} {kept : Kept} (first : List Mark) (x : Symbol)
    → IsFrontOf front next mode_.After kept → Begins next (x ∷ []) → symbols_of front ≡ symbols_of first → Comes first x
again {front} {next} {kept} first x f n s = again_by (move_by mode_.After kept x) refl
  where
    again_by : (move : Move) → move_by mode_.After kept x ≡ move → Comes first x
    again_by (machine.Reads m k) e =
        goes (front ++ (Seen x ∷ [])) m k (reads_on f x n m k e) (symbols_append front (Seen x ∷ []) ∙ ap (λ z. z ++ (x ∷ [])) s)
    again_by (Gives step m k) e =
        goes (front ++ (Seen x ∷ Given step ∷ [])) m k (gives_on f x n step m k e) (symbols_append front (Seen x ∷ Given step ∷ [])
        ∙ ap (λ z. z ++ (x ∷ [])) s)
    again_by (GivesFirst step m k) e =
        let d : Ended mode_.After kept step m k = subst (FirstSays mode_.After kept) e (first_says mode_.After kept x) in
        absurd (not_after d.part d.is_number)
    again_by Finishes e = stays front next mode_.After kept f n s (inl e)
    again_by Stuck e = stays front next mode_.After kept f n s (inr e)

-- at any place, a symbol makes the front grow or stops it
comes : {front : List Mark} {mode : Mode} {kept : Kept} (x : Symbol)
    → IsFrontOf front [] mode kept → Comes front x
comes {front} {mode} {kept} x f = comes_by (move_by mode kept x) refl
  where
    n : Begins [] (x ∷ [])
    n = begins (x ∷ []) refl

    comes_by : (move : Move) → move_by mode kept x ≡ move → Comes front x
    comes_by (machine.Reads m k) e = goes (front ++ (Seen x ∷ [])) m k (reads_on f x n m k e) (symbols_append front (Seen x ∷ []))
    comes_by (Gives step m k) e =
        goes (front ++ (Seen x ∷ Given step ∷ [])) m k (gives_on f x n step m k e) (symbols_append front (Seen x ∷ Given step ∷ []))
    comes_by (GivesFirst step m k) e =
        let d : Ended mode kept step m k = subst (FirstSays mode kept) e (first_says mode kept x) in
        again front x (subst (λ z. IsFrontOf (front ++ (Given step ∷ [])) (x ∷ []) z k) d.mode_is (first_on f x n step m k e))
        (begins_self (x ∷ [])) (symbols_append front (Given step ∷ []) ∙ append_nil (symbols_of front))
    comes_by Finishes e = stays front [] mode kept f n refl (inl e)
    comes_by Stuck e = stays front [] mode kept f n refl (inr e)

-- a reading of what was seen
abbrev pub Reading : List ℕ → Bool → Type 0
Reading bytes ended = (steps : List Step) × (verdict : Verdict) × Reads bytes ended steps verdict

-- a front behind which no text goes on gives a reading
bad_reading : (bytes : List ℕ) (ended : Bool) (front : List Mark) → IsBad bytes ended front → Reading bytes ended
bad_reading bytes ended front b = (
  steps_of front,
  BadAt (length (symbols_of front)),
  record { front = front; given = refl; fits = (refl, b) },
)

-- no byte finishes a text
no_finish : (mode : Mode) (kept : Kept) (b : ℕ) → move_by mode kept (Byte b) ≡ Finishes → ⊥
no_finish mode kept b e = subst (ByteSays mode kept) e (byte_says mode kept b)

-- the end finishes the text, or is stuck
abbrev pub EndsBy : Move → Type 0
EndsBy move = (move ≡ Finishes) ⊎ (move ≡ Stuck)

-- at the end of a text
end_reading : {front : List Mark} {next : List Symbol} {mode : Mode} {kept : Kept} (bytes : List ℕ)
    → IsFrontOf front next mode kept → Begins next (End ∷ []) → symbols_of front ≡ symbols bytes
    → EndsBy (move_by mode kept End) → Reading bytes true
end_reading {front} bytes f n s (inl e) = (
  steps_of (front ++ (Seen End ∷ [])),
  Whole,
  record { front = front ++ (Seen End ∷ []); given = refl; fits = (refl, whole_at bytes f n s e) },
)
end_reading {front} bytes f n s (inr e) = bad_reading bytes true front (bad_at f End n bytes true [] (ap (λ z. z ++ (End ∷ [])) (sym s)) e)

-- the end behind a value
end_after : {front : List Mark} {next : List Symbol} {room : ℕ} {content : List ℕ} (opens : List Bracket) (bytes : List ℕ)
    → IsFrontOf front next mode_.After (keeping room opens content) → Begins next (End ∷ []) → symbols_of front ≡ symbols bytes →
    Reading bytes true
end_after [] bytes f n s = end_reading bytes f n s (inl refl)
end_after (bracket ∷ opens) bytes f n s = end_reading bytes f n s (inr refl)

-- the end behind a number
end_number : {front : List Mark} {kept : Kept} (part : Part) (ends : Bool) (bytes : List ℕ)
    → may_end part ≡ ends → IsFrontOf front [] (mode_.Number part) kept → symbols_of front ≡ symbols bytes → Reading bytes true
end_number {front} {kept} part true bytes m f s =
    let e : move_by (mode_.Number part) kept End ≡ GivesFirst (Step.Number kept.content) mode_.After (holding kept []) =
    may_end_gives part kept m in
    end_after kept.opens bytes (first_on f End (begins (End ∷ []) refl) (Step.Number kept.content) mode_.After (holding kept []) e)
    (begins_self (End ∷ []))
    (symbols_append front (Given (Step.Number kept.content) ∷ []) ∙ append_nil (symbols_of front) ∙ s)
end_number {front} {kept} part false bytes m f s =
    end_reading bytes f (begins (End ∷ []) refl) s
    (inr (subst (λ t. cond t (GivesFirst (Step.Number kept.content) mode_.After (holding kept [])) Stuck ≡ Stuck) (sym m) refl))

-- the end at any place
at_end : {front : List Mark} {kept : Kept} (mode : Mode) (bytes : List ℕ)
    → IsFrontOf front [] mode kept → symbols_of front ≡ symbols bytes → Reading bytes true
at_end {kept = kept} mode_.After bytes f s = end_after kept.opens bytes f (begins (End ∷ []) refl) s
at_end (mode_.Number part) bytes f s = end_number part (may_end part) bytes refl f s
at_end _ bytes f s = end_reading bytes f (begins (End ∷ []) refl) s (inr refl)

-- where all bytes were seen
all_seen : {front : List Mark} {mode : Mode} {kept : Kept} (bytes : List ℕ) (ended : Bool)
    → IsFrontOf front [] mode kept → symbols_of front ≡ symbols bytes → Reading bytes ended
all_seen {front} bytes false f s = (steps_of front, More, record { front = front; given = refl; fits = (refl, more_at bytes f s) })
all_seen {front} {mode} bytes true f s = at_end mode bytes f s

-- the text has a reading from each longer front on, behind which these bytes are left
abbrev pub ReadsLater : List ℕ → Bool → List ℕ → Type 0
ReadsLater bytes ended left =
    (longer : List Mark) (mode : Mode) (kept : Kept) → IsFrontOf longer [] mode kept
    → symbols bytes ≡ symbols_of longer ++ symbols left → Reading bytes ended

-- where some are left, by how it goes on behind the next
one_left : {front : List Mark} (bytes : List ℕ) (ended : Bool) (b : ℕ) (left : List ℕ) →
    symbols bytes ≡ symbols_of front ++ (Byte b ∷ symbols left)
    → ReadsLater bytes ended left → Comes front (Byte b) → Reading bytes ended
one_left {front} bytes ended b left s go (goes longer mode kept g e) =
    go longer mode kept g (s ∙ sym (append_assoc (symbols_of front) (Byte b ∷ []) (symbols left)) ∙ ap (λ z. z ++ symbols left) (sym e))
one_left bytes ended b left s go (stays longer next mode kept g n e (inl m)) = absurd (no_finish mode kept b m)
one_left {front} bytes ended b left s go (stays longer next mode kept g n e (inr m)) =
    bad_reading bytes ended longer (bad_at g (Byte b) n bytes ended (symbols left ++ (if ended then End ∷ [] else []))
    (ap (λ z. z ++ (if ended then End ∷ [] else [])) s
    ∙ append_assoc (symbols_of front) (Byte b ∷ symbols left) (if ended then End ∷ [] else [])
    ∙ ap (λ z. z ++ (Byte b ∷ (symbols left ++ (if ended then End ∷ [] else [])))) (sym e)) m)

-- where some are left
some_left : (bytes : List ℕ) (ended : Bool) (left : List ℕ) (front : List Mark) (mode : Mode) (kept : Kept)
    → IsFrontOf front [] mode kept → symbols bytes ≡ symbols_of front ++ symbols left → Reading bytes ended
some_left bytes ended [] front mode kept f s = all_seen bytes ended f (sym (s ∙ append_nil (symbols_of front)))
some_left bytes ended (b ∷ left) front mode kept f s =
    one_left bytes ended b left s (some_left bytes ended left) (comes (Byte b) f)

-- each beginning of a text, and each text that has ended, has a reading
pub reading : (bytes : List ℕ) (ended : Bool) → (steps : List Step) × (verdict : Verdict) × Reads bytes ended steps verdict
reading bytes ended = some_left bytes ended bytes [] mode_.Value (keeping 64 [] []) empty_front refl
