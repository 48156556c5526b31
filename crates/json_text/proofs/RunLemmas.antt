-- What runs of bytes do that are read without a step.
use Rattle.std.proofs.Common.{eqb, ◌≡◌, ◌≤◌, ◌<◌, ◌+◌, ◌-◌, ℕ, zero, suc, Bool, true, cond, List, [], ◌∷◌, ◌++◌, length, take, drop, get_or, vec_len, refl, sym, ◌∙◌, ap, subst, append_assoc, arith, Option, Some, None, if◌then◌else◌, reverse}
use Rattle.std.proofs.lemmas.List.{take-append-drop, get_or-drop, length-drop, drop-drop}
use Rattle.std.proofs.Math.Seq.{take-add}
use mathlib.Core.Bool.{false≢true}
use Rattle.json_text.specs.declared.mode.Bracket.{Bracket}
use Rattle.json_text.specs.declared.mode.Part.{Part}
use Rattle.json_text.specs.declared.mode.Part.TheVariants as part_
use Rattle.json_text.specs.declared.mode.Lead.TheVariants as lead_
use Rattle.json_text.specs.declared.mode.Role.{Role}
use Rattle.json_text.specs.declared.mode.Place.TheVariants as place_
use Rattle.json_text.specs.declared.mode.Mode.{Mode}
use Rattle.json_text.specs.declared.mode.Mode.TheVariants as mode_
use Rattle.json_text.specs.declared.scanner.Scanner.{Scanner}
use Rattle.json_text.specs.Marks.{Symbol, Byte, End, Step, Mark, Seen, symbols_of, steps_of, symbols, see, Begins}
use Rattle.json_text.specs.Bytes.{AreAll, is_space, is_plain, is_digit, kind_of, lead_of}
use Rattle.json_text.specs.Rest.{Kept, keeping, holding, IsFrontOf, first_of, part_after, takes_digits, OnPart}
use Rattle.json_text.specs.Machine.{Reads, Stuck, byte_move, start_of, start_move, first_move, after_move, name_move, number_move, lead_move}
use Rattle.json_text.specs.Taking.{kept_of, MaySpace}
use Rattle.json_text.specs.Scanner.{fed, pending, symbols_left, Holds, is_number, most_steps}
use Rattle.json_text.specs.Told.{PartsGo, ReadsOn}
use Rattle.std.proofs.lemmas.Bool.Decides.{nat_tests}
use Rattle.json_text.proofs.NumberLemmas.{Takes, takes_kind}
use Rattle.json_text.proofs.Lists.{append_nil, symbols_append, steps_append, bytes_append, begins}
use Rattle.json_text.proofs.Fronts.{reads_on}
use Rattle.json_text.proofs.HoldLemmas.{widen}
use Rattle.json_text.proofs.ScannerLemmas.{same_holds}

-- one more byte that passes
pub all_more : (p : ℕ → Bool) (n : ℕ) (bytes : List ℕ) → AreAll p (take n bytes) → n < length bytes → p (get_or bytes n 0) ≡ true →
    AreAll p (take (suc n) bytes)
all_more p n [] a l h = absurd (omega arith)
all_more p zero (b ∷ bytes) a l h = (h, tt)
all_more p (suc n) (b ∷ bytes) a l h = (a.0, all_more p n bytes a.1 (omega arith) h)

-- what follows of a part follows where it is there
on_part : (o : Option Part) (p q : Part → Type 0) → OnPart o p → ((z : Part) → p z → q z) → OnPart o q
on_part None p q k f = k
on_part (Some z) p q k f = f z k

-- a number goes on over one more byte
pub parts_more : (part : Part) (n : ℕ) (bytes : List ℕ) (last next : Part) → PartsGo part (take n bytes) last → n < length bytes
    → part_after last (kind_of (get_or bytes n 0)) ≡ Some next → PartsGo part (take (suc n) bytes) next
parts_more part n [] last next g l h = absurd (omega arith)
parts_more part zero (b ∷ bytes) last next g l h =
    subst (λ o. OnPart o (λ z. next ≡ z)) (sym (ap (λ z. part_after z (kind_of b)) (sym g) ∙ h)) refl
parts_more part (suc n) (b ∷ bytes) last next g l h =
    on_part (part_after part (kind_of b)) (λ z. PartsGo z (take n bytes) last) (λ z. PartsGo z (take (suc n) bytes) next) g
    (λ z k. parts_more z n bytes last next k (omega arith) h)

-- the moves by a run of bytes only read, and lead to a mode and a content
abbrev pub Runs : Mode → Kept → List ℕ → Mode → List ℕ → Type 0
Runs mode kept [] to after = (to ≡ mode) × (after ≡ kept.content)
Runs mode kept (b ∷ run) to after =
    (next : Mode) × (longer : List ℕ) × (byte_move mode kept b ≡ Reads next (holding kept longer)) ×
    Runs next (holding kept longer) run to after

-- the same from where a scanner stands
abbrev pub RunsFrom : Scanner → List ℕ → Mode → List ℕ → Type 0
RunsFrom old run to after = Runs old.machine.mode (kept_of old.machine) run to after

-- the same to where another stands
abbrev pub RunsTo : Scanner → List ℕ → Scanner → Type 0
RunsTo old run new = RunsFrom old run new.machine.mode new.machine.content.items

-- white space leaves the place
space_move : (mode : Mode) (kept : Kept) (b : ℕ) → MaySpace mode → is_space b ≡ true
    → byte_move mode kept b ≡ Reads mode kept
space_move mode_.Value kept b m e = ap (λ t. cond t (Reads mode_.Value kept) (start_move (start_of b) kept b)) e
space_move mode_.First kept b m e = ap (λ t. cond t (Reads mode_.First kept) (first_move kept.room kept.opens kept.content b)) e
space_move mode_.After kept b m e = ap (λ t. cond t (Reads mode_.After kept) (after_move kept.room kept.opens kept.content b)) e
space_move mode_.Name kept b m e = ap (λ t. cond t (Reads mode_.Name kept) (name_move kept b)) e
space_move mode_.Colon kept b m e = ap (λ t. cond t (Reads mode_.Colon kept) (cond (eqb b 58) (Reads mode_.Value kept) Stuck)) e
space_move _ kept b m e = absurd m

-- so does a run of it
pub space_run : (mode : Mode) (kept : Kept) (run : List ℕ) → MaySpace mode → AreAll is_space run → Runs mode kept run mode kept.content
space_run mode kept [] m a = (refl, refl)
space_run mode kept (b ∷ run) m a = (mode, kept.content, space_move mode kept b m a.0, space_run mode kept run m a.1)

-- a plain byte is a character alone
plain_lead : (b : ℕ) → is_plain b ≡ true → lead_of b ≡ lead_.Whole
plain_lead b e = grind (arith, nat_tests)

-- plain bytes are content
pub plain_run : (role : Role) (kept : Kept) (run : List ℕ) → AreAll is_plain run
    → Runs (mode_.Text role (place_.Chars None)) kept run (mode_.Text role (place_.Chars None)) (kept.content ++ run)
plain_run role kept [] a = (refl, append_nil kept.content)
plain_run role kept (b ∷ run) a = (
  mode_.Text role (place_.Chars None),
  (kept.content ++ []) ++ (b ∷ []),
  ap (λ l. lead_move role None l kept b) (plain_lead b a.0),
  subst (λ z. Runs (mode_.Text role (place_.Chars None)) (holding kept ((kept.content ++ []) ++ (b ∷ []))) run
      (mode_.Text role (place_.Chars None)) z)
      (append_assoc (kept.content ++ []) (b ∷ []) run ∙ ap (λ z. z ++ (b ∷ run)) (append_nil kept.content))
      (plain_run role (holding kept ((kept.content ++ []) ++ (b ∷ []))) run a.1),
)

-- so are the bytes of a number
pub number_run : (part : Part) (kept : Kept) (run : List ℕ) (to : Part) → PartsGo part run to
    → Runs (mode_.Number part) kept run (mode_.Number to) (kept.content ++ run)
number_run part kept [] to g = (ap mode_.Number g, append_nil kept.content)
number_run part kept (b ∷ run) to g =
    on (part_after part (kind_of b)) refl g (λ z k. number_run z (holding kept (kept.content ++ (b ∷ []))) run to k)
  where
    on : (o : Option Part) → part_after part (kind_of b) ≡ o → OnPart o (λ z. PartsGo z run to)
        → ((z : Part) → PartsGo z run to →
        Runs (mode_.Number z) (holding kept (kept.content ++ (b ∷ []))) run (mode_.Number to) ((kept.content ++ (b ∷ [])) ++ run))
        → Runs (mode_.Number part) kept (b ∷ run) (mode_.Number to) (kept.content ++ (b ∷ run))
    on None e k goes = absurd k
    on (Some next) e k goes = (
      mode_.Number next,
      kept.content ++ (b ∷ []),
      ap (λ o. number_move part o kept b) e,
      subst (λ z. Runs (mode_.Number next) (holding kept (kept.content ++ (b ∷ []))) run (mode_.Number to) z)
          (append_assoc kept.content (b ∷ []) run) (goes next k),
    )

-- a front grows over a run
run_front : {front : List Mark} {next : List Symbol} {mode : Mode} {kept : Kept} (b : ℕ) (run : List ℕ) (to : Mode) (after : List ℕ)
    → IsFrontOf front next mode kept → Begins next (Byte b ∷ []) → Runs mode kept (b ∷ run) to after
    → IsFrontOf (front ++ see (b ∷ run) []) [] to (holding kept after)
run_front {front} {next} {mode} {kept} b [] to after f n (m, c, e, (same, stays)) =
    subst (λ z. IsFrontOf (front ++ (Seen (Byte b) ∷ [])) [] z (holding kept after)) (sym same)
    (subst (λ z. IsFrontOf (front ++ (Seen (Byte b) ∷ [])) [] m (holding kept z)) (sym stays) (reads_on f (Byte b) n m (holding kept c) e))
run_front {front} {next} {mode} {kept} b (d ∷ run) to after f n (m, c, e, more) =
    subst (λ z. IsFrontOf z [] to (holding kept after)) (append_assoc front (Seen (Byte b) ∷ []) (see (d ∷ run) []))
    (run_front d run to after (reads_on f (Byte b) n m (holding kept c) e) (begins (Byte d ∷ []) refl) more)

-- the symbols of a run
symbols_see : (run : List ℕ) → symbols_of (see run []) ≡ symbols run
symbols_see [] = refl
symbols_see (b ∷ run) = ap (λ z. Byte b ∷ z) (symbols_see run)

-- it has no steps
steps_see : (run : List ℕ) → steps_of (see run []) ≡ []
steps_see [] = refl
steps_see (b ∷ run) = steps_see run

-- of nothing, nothing is taken and nothing left
nothing : (a k : ℕ) → ◌≡◌ {A = List ℕ} [] (take a [] ++ drop k [])
nothing zero zero = refl
nothing zero (suc k) = refl
nothing (suc a) zero = refl
nothing (suc a) (suc k) = refl

-- what is pending is a run and what is pending then
pub run_pending : (items : List ℕ) (i n : ℕ) → i ≤ n → drop i items ≡ take (n - i) (drop i items) ++ drop n items
run_pending items zero n h = let e : n - 0 ≡ n = omega arith in sym (ap (λ k. take k items ++ drop n items) e ∙ take-append-drop n items)
run_pending [] (suc i) n h = nothing (n - suc i) n
run_pending (b ∷ items) (suc i) zero h = absurd (omega arith)
run_pending (b ∷ items) (suc i) (suc n) h =
    let e : suc n - suc i ≡ n - i = omega arith in
    run_pending items i n (omega arith) ∙ ap (λ k. take k (drop i items) ++ drop n items) (sym e)

-- a run is read
pub run_holds : (old new : Scanner) (run : List ℕ) → RunsTo old run new
    → new.machine.opens.items ≡ old.machine.opens.items → pending old ≡ run ++ pending new → fed new ≡ fed old → new.ended ≡ old.ended
    → (bytes : List ℕ) (steps : List Step) → Holds old bytes steps → Holds new bytes steps
run_holds old new [] (m, c) o p n e bytes steps h =
    same_holds old new bytes steps h (record { pending_same = sym p; fed_same = n; ended_same = e })
    (record { mode = m; opens = o; content = c })
run_holds old new (b ∷ run) r o p n e bytes steps h = record {
  front = h.front ++ see (b ∷ run) [];
  given = steps_append h.front (see (b ∷ run) []) ∙ ap (λ z. steps_of h.front ++ z) (steps_see (b ∷ run)) ∙ append_nil (steps_of h.front)
      ∙ h.given;
  split = h.split ∙ ap (λ z. symbols_of h.front ++ symbols z) p ∙ ap (λ z. symbols_of h.front ++ z) (bytes_append (b ∷ run) (pending new))
      ∙ sym (append_assoc (symbols_of h.front) (symbols (b ∷ run)) (symbols (pending new)))
      ∙ ap (λ z. z ++ symbols (pending new))
      (sym (symbols_append h.front (see (b ∷ run) []) ∙ ap (λ z. symbols_of h.front ++ z) (symbols_see (b ∷ run))));
  count = h.count ∙ sym n;
  is_front = widen (first_of (symbols_left new)) placed (begins (first_of (symbols_left new)) refl);
}
  where
    next_is : Begins (first_of (symbols_left old)) (Byte b ∷ [])
    next_is = begins [] (ap (λ ps. first_of (symbols ps ++ (if old.ended then End ∷ [] else []))) (sym p)
        ∙ sym (append_nil (first_of (symbols_left old))))

    placed : IsFrontOf (h.front ++ see (b ∷ run) []) [] new.machine.mode (kept_of new.machine)
    placed =
        subst (λ x. IsFrontOf (h.front ++ see (b ∷ run) []) [] new.machine.mode
        (keeping (64 - length x) (reverse x) new.machine.content.items)) (sym o)
        (run_front b run new.machine.mode new.machine.content.items h.is_front next_is r)

-- one more byte of a list that passes, behind a place
pub all_at : (p : ℕ → Bool) (from at : ℕ) (bytes : List ℕ) → from ≤ at → at < length bytes → AreAll p (take (at - from) (drop from bytes))
    → p (get_or bytes at 0) ≡ true → AreAll p (take (at + 1 - from) (drop from bytes))
all_at p from at bytes f l a h =
    let longer : suc (at - from) ≡ at + 1 - from = omega arith in
    let place : from + (at - from) ≡ at = omega arith in
    let inside : at - from < length (drop from bytes) = omega (arith, length-drop from bytes) in
    subst (λ k. AreAll p (take k (drop from bytes))) longer
    (all_more p (at - from) (drop from bytes) a inside (ap p (get_or-drop from bytes (at - from) 0 ∙ ap (λ k. get_or bytes k 0) place) ∙ h))

-- one more byte of a number, behind a place
pub parts_at : (part last next : Part) (from at : ℕ) (bytes : List ℕ) → from ≤ at → at < length bytes →
    PartsGo part (take (at - from) (drop from bytes)) last
    → part_after last (kind_of (get_or bytes at 0)) ≡ Some next → PartsGo part (take (at + 1 - from) (drop from bytes)) next
parts_at part last next from at bytes f l g h =
    let longer : suc (at - from) ≡ at + 1 - from = omega arith in
    let place : from + (at - from) ≡ at = omega arith in
    let inside : at - from < length (drop from bytes) = omega (arith, length-drop from bytes) in
    subst (λ k. PartsGo part (take k (drop from bytes)) next) longer
    (parts_more part (at - from) (drop from bytes) last next g inside
    (ap (λ b. part_after last (kind_of b)) (get_or-drop from bytes (at - from) 0 ∙ ap (λ k. get_or bytes k 0) place) ∙ h))

-- a part that goes on with digits stays over a digit
digit_stays : (part : Part) (b : ℕ) → takes_digits part ≡ true → is_digit b ≡ true → part_after part (kind_of b) ≡ Some part
digit_stays part b t d = takes_kind part part (kind_of b) (stays part t) d
  where
    stays : (part : Part) → takes_digits part ≡ true → Takes part part
    stays part_.Whole t = record { zero = refl; digit = refl }
    stays part_.Fraction t = record { zero = refl; digit = refl }
    stays part_.Exponent t = record { zero = refl; digit = refl }
    stays part_.Nothing t = absurd (false≢true t)
    stays part_.Minus t = absurd (false≢true t)
    stays part_.Zero t = absurd (false≢true t)
    stays part_.Point t = absurd (false≢true t)
    stays part_.Letter t = absurd (false≢true t)
    stays part_.Sign t = absurd (false≢true t)

-- and over a run of digits
pub digits_stay : (part : Part) (run : List ℕ) → takes_digits part ≡ true → AreAll is_digit run → PartsGo part run part
digits_stay part [] t a = refl
digits_stay part (b ∷ run) t a =
    subst (λ o. OnPart o (λ next. PartsGo next run part)) (sym (digit_stays part b t a.0)) (digits_stay part run t a.1)

-- a number that goes on over a run and then over another goes on over both
pub parts_append : (part mid to : Part) (run more : List ℕ) → PartsGo part run mid → PartsGo mid more to → PartsGo part (run ++ more) to
parts_append part mid to [] more g h = subst (λ z. PartsGo z more to) g h
parts_append part mid to (b ∷ run) more g h =
    on_part (part_after part (kind_of b)) (λ z. PartsGo z run mid) (λ z. PartsGo z (run ++ more) to) g
    (λ z k. parts_append z mid to run more k h)

-- the same for runs of which one begins where the other ends
pub parts_on : (part mid to : Part) (from between at : ℕ) (bytes : List ℕ) → from ≤ between → between ≤ at
    → PartsGo part (take (between - from) (drop from bytes)) mid → PartsGo mid (take (at - between) (drop between bytes)) to
    → PartsGo part (take (at - from) (drop from bytes)) to
parts_on part mid to from between at bytes f b g h =
    let total : (between - from) + (at - between) ≡ at - from = omega arith in
    let place : from + (between - from) ≡ between = omega arith in
    let rest : drop (between - from) (drop from bytes) ≡ drop between bytes =
    drop-drop (between - from) from bytes ∙ ap (λ k. drop k bytes) place in
    subst (λ xs. PartsGo part xs to)
    (sym (ap (λ k. take k (drop from bytes)) (sym total) ∙ take-add (between - from) (at - between) (drop from bytes)
    ∙ ap (λ xs. take (between - from) (drop from bytes) ++ take (at - between) xs) rest))
    (parts_append part mid to (take (between - from) (drop from bytes)) (take (at - between) (drop between bytes)) g h)

-- what a scanner has beside its place and the content that is read
abbrev pub Beside : Type 0
Beside = List ℕ × ℕ × ℕ × Bool × Bool × List Bracket × List ℕ

-- its bytes and how many they are, the bytes before them, both flags, the brackets and the last content
abbrev pub beside : Scanner → Beside
beside scanner = (
  scanner.input.items,
  vec_len scanner.input,
  scanner.before,
  scanner.ended,
  scanner.failed,
  scanner.machine.opens.items,
  scanner.machine.text.items,
)

-- a scanner has gone on in what it keeps, and left all but the place and the content that is read
pub record Onward (old new : Scanner) : Type 0 where
  pub same : beside new ≡ beside old
  pub onward : old.read ≤ new.read
  pub within : new.read ≤ vec_len old.input
  pub fewer : is_number new.machine.mode + old.read ≤ is_number old.machine.mode + new.read

-- the bytes that it read
abbrev pub run_of : Scanner → Scanner → List ℕ
run_of old new = take (new.read - old.read) (drop old.read old.input.items)

-- so it stands for what it stood for, if the moves by these bytes only read
pub reads_run : (old new : Scanner) → Onward old new → RunsTo old (run_of old new) new → ReadsOn old new
reads_run old new o r = record {
  holds = run_holds old new (run_of old new) r (ap (λ (p : Beside). p.5) o.same) pends count ended;
  leaves = record {
    fed_same = count;
    ended_same = ended;
    failed_same = ap (λ (p : Beside). p.4) o.same;
    content_same =
        ap (λ (p : Beside). p.6) o.same;
  };
  fewer = few;
}
  where
    total : vec_len new.input ≡ vec_len old.input
    total = ap (λ (p : Beside). p.1) o.same

    ended : new.ended ≡ old.ended
    ended = ap (λ (p : Beside). p.3) o.same

    pends : pending old ≡ run_of old new ++ pending new
    pends = run_pending old.input.items old.read new.read o.onward ∙ ap (λ (p : Beside). run_of old new ++ drop new.read p.0) (sym o.same)

    count : fed new ≡ fed old
    count = ap (λ (p : Beside). p.2 + p.1) o.same

    few : most_steps new ≤ most_steps old
    few = omega (arith, total, o.onward, o.within, o.fewer)

-- the same where the mode and the content that it came to are known
pub reads_to : (old new : Scanner) (to : Mode) (after : List ℕ) → Onward old new → new.machine.mode ≡ to → new.machine.content.items ≡ after
    → RunsFrom old (run_of old new) to after → ReadsOn old new
reads_to old new to after o m c r =
    reads_run old new o
    (subst (λ z. RunsFrom old (run_of old new) z new.machine.content.items) (sym m)
    (subst (λ z. RunsFrom old (run_of old new) to z) (sym c) r))

-- white space was read
pub spaces_on : (old new : Scanner) → Onward old new → MaySpace old.machine.mode → new.machine.mode ≡ old.machine.mode
    → new.machine.content.items ≡ old.machine.content.items → AreAll is_space (run_of old new) → ReadsOn old new
spaces_on old new o m e c a =
    reads_to old new old.machine.mode old.machine.content.items o e c
    (space_run old.machine.mode (kept_of old.machine) (run_of old new) m a)

-- plain bytes were read
pub plain_on : (old new : Scanner) (role : Role) → Onward old new → old.machine.mode ≡ mode_.Text role (place_.Chars None) →
    new.machine.mode ≡ old.machine.mode
    → new.machine.content.items ≡ old.machine.content.items ++ run_of old new → AreAll is_plain (run_of old new) → ReadsOn old new
plain_on old new role o m e c a =
    let to = mode_.Text role (place_.Chars None) in
    let after = old.machine.content.items ++ run_of old new in
    reads_to old new to after o (e ∙ m) c
    (subst (λ z. Runs z (kept_of old.machine) (run_of old new) to after) (sym m) (plain_run role (kept_of old.machine) (run_of old new) a))

-- bytes of a number were read
pub number_on : (old new : Scanner) (part last : Part) → Onward old new → old.machine.mode ≡ mode_.Number part →
    new.machine.mode ≡ mode_.Number last
    → new.machine.content.items ≡ old.machine.content.items ++ run_of old new → PartsGo part (run_of old new) last → ReadsOn old new
number_on old new part last o m e c g =
    let after = old.machine.content.items ++ run_of old new in
    reads_to old new (mode_.Number last) after o e c
    (subst (λ z. Runs z (kept_of old.machine) (run_of old new) (mode_.Number last) after) (sym m)
    (number_run part (kept_of old.machine) (run_of old new) last g))
