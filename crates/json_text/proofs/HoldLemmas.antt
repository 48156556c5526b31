-- What a scanner holds, and what there is to say of it.
use Rattle.std.proofs.Common.{◌≡◌, ℕ, ◌+◌, ◌-◌, ◌≤◌, Bool, true, false, List, [], ◌∷◌, ◌++◌, length, vec_len, refl, sym, ◌∙◌, ap, subst, append_assoc, arith, if◌then◌else◌, length-append, length-drop, reverse}
use Rattle.json_text.specs.declared.mode.Mode.{Mode}
use Rattle.json_text.specs.declared.mode.Mode.TheVariants as mode_
use Rattle.json_text.specs.declared.scanner.Scanner.{Scanner}
use Rattle.json_text.specs.Marks.{Symbol, Byte, End, Step, Mark, Seen, Given, symbols_of, steps_of, symbols, Begins}
use Rattle.json_text.specs.Reading.{seen, More, Whole, BadAt, Reads, AreFixed}
use Rattle.json_text.specs.Rest.{Kept, keeping, IsFrontOf, first_of}
use Rattle.json_text.specs.Machine.{Move, Gives, GivesFirst, Finishes, Stuck, move_by}
use Rattle.json_text.specs.Machine as machine
use Rattle.json_text.specs.Taking.{kept_of}
use Rattle.json_text.specs.Scanner.{fed, pending, symbols_left, Holds}
use Rattle.json_text.proofs.Fronts.{empty_front, reads_on, gives_on, first_on}
use Rattle.json_text.proofs.Verdicts.{more_at, whole_at, bad_at, fixed}
use Rattle.json_text.proofs.Lists.{append_nil, symbols_append, steps_append, bytes_append, begins, begins_trans, begins_self, begins_more, length_symbols}

-- a front with more symbols known behind it
pub widen : {front : List Mark} {next : List Symbol} {mode : Mode} {kept : Kept} (wider : List Symbol)
    → IsFrontOf front next mode kept → Begins next wider → IsFrontOf front wider mode kept
widen {front} wider f b = record {
  forth = f.forth;
  back = f.back;
  only =
      λ text t g. f.only text t (begins_trans (begins_more (symbols_of front) b) g);
  kin = f.kin;
}

-- the first symbol stays the first where more follow
first_grows : (xs ys : List Symbol) → Begins (first_of xs) (first_of (xs ++ ys))
first_grows [] ys = begins (first_of ys) refl
first_grows (x ∷ xs) ys = begins [] refl

-- a scanner to which nothing was fed
pub new_holds : (scanner : Scanner) → pending scanner ≡ [] → fed scanner ≡ 0 → scanner.machine.mode ≡ mode_.Value
    → scanner.machine.opens.items ≡ [] → scanner.machine.content.items ≡ [] → Holds scanner [] []
new_holds scanner p n m o c = record {
  front = [];
  given = refl;
  split = ap symbols (sym p);
  count = sym n;
  is_front = widen (first_of (symbols_left scanner)) placed (begins (first_of (symbols_left scanner)) refl);
}
  where
    placed : IsFrontOf [] [] scanner.machine.mode (kept_of scanner.machine)
    placed =
        subst (λ x. IsFrontOf [] [] x (kept_of scanner.machine)) (sym m)
        (subst (λ x. IsFrontOf [] [] mode_.Value (keeping (64 - length x) (reverse x) scanner.machine.content.items)) (sym o)
        (subst (λ x. IsFrontOf [] [] mode_.Value (keeping 64 [] x)) (sym c) empty_front))

-- more is known of the symbols to come
pub keeps : (old new : Scanner) (bytes more : List ℕ) (steps : List Step) → pending new ≡ pending old ++ more →
    length (bytes ++ more) ≡ fed new
    → new.machine ≡ old.machine → Begins (first_of (symbols_left old)) (first_of (symbols_left new)) → Holds old bytes steps →
    Holds new (bytes ++ more) steps
keeps old new bytes more steps p n m b h = record {
  front = h.front;
  given = h.given;
  split = bytes_append bytes more ∙ ap (λ x. x ++ symbols more) h.split
      ∙ append_assoc (symbols_of h.front) (symbols (pending old)) (symbols more)
      ∙ ap (λ x. symbols_of h.front ++ x) (sym (bytes_append (pending old) more) ∙ ap symbols (sym p));
  count = n;
  is_front = subst (λ x. IsFrontOf h.front (first_of (symbols_left new)) x.mode (kept_of x)) (sym m)
      (widen (first_of (symbols_left new)) h.is_front b);
}

-- the end is said
pub end_holds : (old new : Scanner) (bytes : List ℕ) (steps : List Step) → pending new ≡ pending old → fed new ≡ fed old
    → new.machine ≡ old.machine → new.ended ≡ true → Holds old bytes steps → Holds new bytes steps
end_holds old new bytes steps p n m e h =
    subst (λ x. Holds new x steps) (append_nil bytes)
    (keeps old new bytes [] steps (p ∙ sym (append_nil (pending old))) (ap length (append_nil bytes) ∙ h.count ∙ sym n) m known h)
  where
    longer : (t : Bool) (ps : List ℕ) → Begins (first_of (symbols ps ++ (if t then End ∷ [] else []))) (first_of (symbols ps ++ (End ∷ [])))
    longer true ps = begins_self (first_of (symbols ps ++ (End ∷ [])))
    longer false [] = begins (End ∷ []) refl
    longer false (b ∷ ps) = begins [] refl

    known : Begins (first_of (symbols_left old)) (first_of (symbols_left new))
    known =
        subst (λ t. Begins (first_of (symbols_left old)) (first_of (symbols (pending new) ++ (if t then End ∷ [] else [])))) (sym e)
        (subst (λ ps. Begins (first_of (symbols_left old)) (first_of (symbols ps ++ (End ∷ [])))) (sym p) (longer old.ended (pending old)))

-- a piece is fed
pub feed_holds : (old new : Scanner) (bytes piece : List ℕ) (steps : List Step) → pending new ≡ pending old ++ piece →
    fed new ≡ fed old + length piece
    → new.machine ≡ old.machine → old.ended ≡ false → new.ended ≡ false → Holds old bytes steps → Holds new (bytes ++ piece) steps
feed_holds old new bytes piece steps p n m e f h =
    keeps old new bytes piece steps p (length-append bytes piece ∙ ap (λ x. x + length piece) h.count ∙ sym n) m known h
  where
    left : (scanner : Scanner) → scanner.ended ≡ false → symbols_left scanner ≡ symbols (pending scanner)
    left scanner e = ap (λ t. symbols (pending scanner) ++ (if t then End ∷ [] else [])) e ∙ append_nil (symbols (pending scanner))

    known : Begins (first_of (symbols_left old)) (first_of (symbols_left new))
    known =
        subst (λ x. Begins (first_of x) (first_of (symbols_left new))) (sym (left old e))
        (subst (λ x. Begins (first_of (symbols (pending old))) (first_of x))
        (sym (left new f ∙ ap symbols p ∙ bytes_append (pending old) piece))
        (first_grows (symbols (pending old)) (symbols piece)))

-- the move of a scanner by a symbol
abbrev pub move_at : Scanner → Symbol → Move
move_at scanner x = move_by scanner.machine.mode (kept_of scanner.machine) x

-- two scanners to which as much was fed, and the same is left
pub record IsLeftSame (old new : Scanner) : Type 0 where
  pub pending_same : pending new ≡ pending old
  pub fed_same : fed new ≡ fed old
  pub ended_same : new.ended ≡ old.ended

-- a byte is read
module _ (old new : Scanner) (bytes : List ℕ) (steps : List Step) (b : ℕ) (h : Holds old bytes steps) (p : pending old ≡ b ∷ pending new)
    (n : fed new ≡ fed old) where
  -- the byte is the next symbol
  next_is : Begins (first_of (symbols_left old)) (Byte b ∷ [])
  next_is = begins [] (ap (λ ps. first_of (symbols ps ++ (if old.ended then End ∷ [] else []))) (sym p)
      ∙ sym (append_nil (first_of (symbols_left old))))

  split_by : (added : List Mark) → symbols_of added ≡ Byte b ∷ [] → symbols bytes ≡ symbols_of (h.front ++ added) ++ symbols (pending new)
  split_by added e =
      h.split ∙ ap (λ ps. symbols_of h.front ++ symbols ps) p
      ∙ sym (append_assoc (symbols_of h.front) (Byte b ∷ []) (symbols (pending new)))
      ∙ ap (λ x. x ++ symbols (pending new)) (sym (symbols_append h.front added ∙ ap (λ x. symbols_of h.front ++ x) e))

  grown : (added : List Mark) (more : List Step) → symbols_of added ≡ Byte b ∷ [] → steps_of added ≡ more
      → IsFrontOf (h.front ++ added) [] new.machine.mode (kept_of new.machine) → Holds new bytes (steps ++ more)
  grown added more e s f = record {
    front = h.front ++ added;
    given = steps_append h.front added ∙ ap (λ x. x ++ steps_of added) h.given ∙ ap (λ x. steps ++ x) s;
    split = split_by added e;
    count = h.count ∙ sym n;
    is_front = widen (first_of (symbols_left new)) f (begins (first_of (symbols_left new)) refl);
  }

  pub read_holds : machine.Reads new.machine.mode (kept_of new.machine)
      ≡ move_at old (Byte b) → Holds new bytes steps
  read_holds e =
      subst (λ x. Holds new bytes x) (append_nil steps)
      (grown (Seen (Byte b) ∷ []) [] refl refl (reads_on h.is_front (Byte b) next_is _ _ (sym e)))

  pub given_holds : (step : Step) → Gives step new.machine.mode (kept_of new.machine)
      ≡ move_at old (Byte b) → Holds new bytes (steps ++ (step ∷ []))
  given_holds step e = grown (Seen (Byte b) ∷ Given step ∷ []) (step ∷ []) refl refl (gives_on h.is_front (Byte b) next_is step _ _ (sym e))

-- a number ends before a symbol
pub first_holds : (old new : Scanner) (bytes : List ℕ) (steps : List Step) (x : Symbol) (others : List Symbol) (step : Step)
    → Holds old bytes steps → IsLeftSame old new → symbols_left old ≡ x ∷ others
    → GivesFirst step new.machine.mode (kept_of new.machine) ≡ move_at old x → Holds new bytes (steps ++ (step ∷ []))
first_holds old new bytes steps x others step h s l e = record {
  front = h.front ++ (Given step ∷ []);
  given = steps_append h.front (Given step ∷ []) ∙ ap (λ z. z ++ (step ∷ [])) h.given;
  split = h.split ∙ ap (λ z. z ++ symbols (pending old)) (sym same)
      ∙ ap (λ ps. symbols_of (h.front ++ (Given step ∷ [])) ++ symbols ps) (sym s.pending_same);
  count = h.count ∙ sym s.fed_same;
  is_front = subst (λ z. IsFrontOf (h.front ++ (Given step ∷ [])) z new.machine.mode (kept_of new.machine)) (sym left)
      (first_on h.is_front x (begins [] (sym (ap first_of l) ∙ sym (append_nil (first_of (symbols_left old))))) step _ _ (sym e));
}
  where
    same : symbols_of (h.front ++ (Given step ∷ [])) ≡ symbols_of h.front
    same = symbols_append h.front (Given step ∷ []) ∙ append_nil (symbols_of h.front)

    left : first_of (symbols_left new) ≡ x ∷ []
    left = ap (λ ps. first_of (symbols ps ++ (if new.ended then End ∷ [] else []))) s.pending_same
        ∙ ap (λ y. first_of (symbols (pending old) ++ (if y then End ∷ [] else []))) s.ended_same ∙ ap first_of l

-- what was seen is the front and what is left
pub seen_by : (scanner : Scanner) (bytes : List ℕ) (steps : List Step) (h : Holds scanner bytes steps) →
    seen bytes scanner.ended ≡ symbols_of h.front ++ symbols_left scanner
seen_by scanner bytes steps h =
    ap (λ x. x ++ (if scanner.ended then End ∷ [] else [])) h.split
    ∙ append_assoc (symbols_of h.front) (symbols (pending scanner)) (if scanner.ended then End ∷ [] else [])

-- all steps that were given are fixed
pub holds_fixed : (scanner : Scanner) (bytes : List ℕ) (steps : List Step) → Holds scanner bytes steps → AreFixed bytes scanner.ended steps
holds_fixed scanner bytes steps h =
    subst (λ x. AreFixed bytes scanner.ended x) h.given
    (fixed (symbols_left scanner) bytes scanner.ended h.is_front (seen_by scanner bytes steps h))

-- nothing is left, and more may come
pub holds_more : (scanner : Scanner) (bytes : List ℕ) (steps : List Step) → Holds scanner bytes steps → pending scanner ≡ [] →
    scanner.ended ≡ false → Reads bytes scanner.ended steps More
holds_more scanner bytes steps h p e = record { front = h.front; given = h.given; fits = (e, more_at bytes front_is same) }
  where
    same : symbols_of h.front ≡ symbols bytes
    same = sym (h.split ∙ ap (λ ps. symbols_of h.front ++ symbols ps) p ∙ append_nil (symbols_of h.front))

    none : first_of (symbols_left scanner) ≡ []
    none = ap (λ t. first_of (symbols (pending scanner) ++ (if t then End ∷ [] else []))) e ∙ ap (λ ps. first_of (symbols ps ++ [])) p

    front_is : IsFrontOf h.front [] scanner.machine.mode (kept_of scanner.machine)
    front_is = subst (λ z. IsFrontOf h.front z scanner.machine.mode (kept_of scanner.machine)) none h.is_front

-- the end finishes the text
pub holds_whole : (scanner : Scanner) (bytes : List ℕ) (steps : List Step) → Holds scanner bytes steps → pending scanner ≡ [] →
    scanner.ended ≡ true
    → move_at scanner End ≡ Finishes → Reads bytes scanner.ended steps Whole
holds_whole scanner bytes steps h p e m = record {
  front = h.front ++ (Seen End ∷ []);
  given = steps_append h.front (Seen End ∷ []) ∙ append_nil (steps_of h.front) ∙ h.given;
  fits = (e, whole_at bytes h.is_front (begins [] next) same m);
}
  where
    same : symbols_of h.front ≡ symbols bytes
    same = sym (h.split ∙ ap (λ ps. symbols_of h.front ++ symbols ps) p ∙ append_nil (symbols_of h.front))

    next : End ∷ [] ≡ first_of (symbols_left scanner) ++ []
    next = sym (append_nil (first_of (symbols_left scanner))
        ∙ ap (λ t. first_of (symbols (pending scanner) ++ (if t then End ∷ [] else []))) e
        ∙ ap (λ ps. first_of (symbols ps ++ (End ∷ []))) p)

-- the symbols of the front are the bytes that were scanned
front_length : (scanner : Scanner) (bytes : List ℕ) (steps : List Step) (h : Holds scanner bytes steps) →
    scanner.read ≤ vec_len scanner.input
    → length (symbols_of h.front) ≡ scanner.before + scanner.read
front_length scanner bytes steps h r =
    let total : length (symbols bytes) ≡ length (symbols_of h.front) + length (symbols (pending scanner)) =
    ap length h.split ∙ length-append (symbols_of h.front) (symbols (pending scanner)) in
    let rest : length (pending scanner) ≡ length scanner.input.items - scanner.read = length-drop scanner.read scanner.input.items in
    omega (arith, total, rest, length_symbols bytes, length_symbols (pending scanner), h.count, scanner.input.ok.0, r)

-- where a symbol is stuck, no text goes on
pub holds_bad : (scanner : Scanner) (bytes : List ℕ) (steps : List Step) (x : Symbol) (others : List Symbol) → Holds scanner bytes steps →
    scanner.read ≤ vec_len scanner.input
    → symbols_left scanner ≡ x ∷ others
    → move_at scanner x ≡ Stuck
    → Reads bytes scanner.ended steps (BadAt (scanner.before + scanner.read))
holds_bad scanner bytes steps x others h r l m = record {
  front = h.front;
  given = h.given;
  fits = (
    front_length scanner bytes steps h r,
    bad_at h.is_front x (begins [] (sym (append_nil (first_of (symbols_left scanner)) ∙ ap first_of l))) bytes scanner.ended others
        (seen_by scanner bytes steps h ∙ ap (λ z. symbols_of h.front ++ z) l) m,
  );
}
