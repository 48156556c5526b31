-- A text has no more steps than bytes.
use Rattle.std.proofs.Common.{◌≡◌, ◌≤◌, ℕ, ◌+◌, Bool, true, false, List, [], ◌∷◌, ◌++◌, length, refl, sym, ap, subst, arith}
use Rattle.std.proofs.lemmas.List.{length-append}
use Rattle.json_text.specs.declared.mode.Mode.{Mode}
use Rattle.json_text.specs.declared.mode.Mode.TheVariants as mode_
use Rattle.json_text.specs.Marks.{Symbol, End, Step, Mark, Seen, Given, symbols_of, steps_of, symbols}
use Rattle.json_text.specs.Grammar.{IsText}
use Rattle.json_text.specs.Reading.{seen, Verdict, More, Whole, BadAt, IsFrontFor, Reads}
use Rattle.json_text.specs.Rest.{Kept, keeping, holding, Rest}
use Rattle.json_text.specs.Scanner.{is_number}
use Rattle.json_text.specs.Machine.{Move, Reads as reads_, Gives, GivesFirst, Finishes, Stuck, move_by}
use Rattle.json_text.proofs.Lists.{append_nil, head_of, tail_of, no_cons, length_symbols}
use Rattle.json_text.proofs.Goes.{Goes, Ends, out_reads, out_gives, out_first, out_finishes, out_stuck}
use Rattle.json_text.proofs.Forth.{forth}
use Rattle.json_text.proofs.Stops.{NoNumber, FirstSays, first_says}
use Rattle.json_text.proofs.Fronts.{empty_front}

-- one where nothing follows
abbrev pub ends : List Mark → ℕ
ends [] = 1
ends (mark ∷ rest) = 0

-- at most one
ends_small : (rest : List Mark) → ends rest ≤ 1
ends_small [] = omega arith
ends_small (mark ∷ rest) = omega arith

-- a mode is one number at most
pub is_small : (mode : Mode) → is_number mode ≤ 1
is_small mode_.Value = omega arith
is_small mode_.First = omega arith
is_small mode_.After = omega arith
is_small mode_.Name = omega arith
is_small mode_.Colon = omega arith
is_small (mode_.Word letters) = omega arith
is_small (mode_.Number part) = omega arith
is_small (mode_.Text role place) = omega arith

-- a mode that is no number counts for none
none_of : (mode : Mode) → NoNumber mode → is_number mode ≡ 0
none_of mode_.Value n = refl
none_of mode_.First n = refl
none_of mode_.After n = refl
none_of mode_.Name n = refl
none_of mode_.Colon n = refl
none_of (mode_.Word letters) n = refl
none_of (mode_.Number part) n = absurd n
none_of (mode_.Text role place) n = refl

-- something follows at each place
more_follows : (rest : List Mark) (mode : Mode) (kept : Kept) → Rest mode kept rest → ends rest ≡ 0
more_follows [] mode kept r = absurd (forth mode kept [] r)
more_follows (mark ∷ rest) mode kept r = refl

-- so many steps stand in a front, and what follows it, at a place with so many numbers
abbrev pub AreFew : List Mark → List Mark → ℕ → Type 0
AreFew front rest numbers = length (steps_of front) + ends rest ≤ length (symbols_of front) + numbers

-- the steps of a front are few at each place where it may stand with what follows
abbrev pub FewAnywhere : List Mark → List Mark → Type 0
FewAnywhere front rest = (mode : Mode) (kept : Kept) → Rest mode kept (front ++ rest) → AreFew front rest (is_number mode)

-- two symbols
seen_few : (x y : Symbol) (front rest : List Mark) (numbers : ℕ) (move : Move)
    → FewAnywhere (Seen y ∷ front) rest → Goes move (Seen y ∷ (front ++ rest)) → AreFew (Seen x ∷ Seen y ∷ front) rest numbers
seen_few x y front rest numbers (reads_ m k) ih g = let few = ih m k (out_reads g) in omega (arith, few, is_small m)
seen_few x y front rest numbers (Gives step m k) ih g = absurd (not_given (head_of (out_gives g).1))
  where
    not_given : Seen y ≡ Given step → ⊥
    not_given e = cc
seen_few x y front rest numbers (GivesFirst step m k) ih g = absurd (out_first g)
seen_few x y front rest numbers Finishes ih g = absurd (no_cons (sym (out_finishes g)))
seen_few x y front rest numbers Stuck ih g = absurd (out_stuck g)

module _ (mode : Mode) (kept : Kept) where
  -- a symbol and a step
  step_few : (x : Symbol) (step : Step) (front rest : List Mark) (numbers : ℕ) (move : Move)
      → FewAnywhere (Given step ∷ front) rest → FewAnywhere front rest → FirstSays mode kept move
      → Goes move (Given step ∷ (front ++ rest)) → AreFew (Seen x ∷ Given step ∷ front) rest numbers
  step_few x step front rest numbers (reads_ m k) ih on says g = let few = ih m k (out_reads g) in omega (arith, few, is_small m)
  step_few x step front rest numbers (Gives other m k) ih on says g =
      let out = out_gives g in
      let few = on m k (subst (λ z. Rest m k z) (sym (tail_of out.1)) out.2) in
      omega (arith, few, none_of m says)
  step_few x step front rest numbers (GivesFirst other m k) ih on says g = absurd (out_first g)
  step_few x step front rest numbers Finishes ih on says g = absurd (no_cons (sym (out_finishes g)))
  step_few x step front rest numbers Stuck ih on says g = absurd (out_stuck g)

-- a step that comes first
first_few : (step : Step) (front rest : List Mark) (mode : Mode) (kept : Kept)
    → FewAnywhere front rest → Ends mode kept step (front ++ rest) → AreFew (Given step ∷ front) rest (is_number mode)
first_few step front rest (mode_.Number part) kept on (m, e, a) = let few = on mode_.After (holding kept []) a in omega (arith, few)
first_few step front rest _ kept on h = absurd h

-- behind each symbol stands one step at most, but for a number's, which may stand first
few_at : (front rest : List Mark) (mode : Mode) (kept : Kept)
    → Rest mode kept (front ++ rest) → AreFew front rest (is_number mode)
few_at [] rest mode kept r = let none = more_follows rest mode kept r in omega (arith, none)
few_at (Seen x ∷ []) rest mode kept r = omega (arith, ends_small rest)
few_at (Seen x ∷ Seen y ∷ front) rest mode kept r =
    seen_few x y front rest (is_number mode) (move_by mode kept x)
    (few_at (Seen y ∷ front) rest)
    (forth mode kept (Seen x ∷ Seen y ∷ (front ++ rest)) r)
few_at (Seen x ∷ Given step ∷ front) rest mode kept r =
    step_few mode kept x step front rest (is_number mode) (move_by mode kept x)
    (few_at (Given step ∷ front) rest) (few_at front rest)
    (first_says mode kept x)
    (forth mode kept (Seen x ∷ Given step ∷ (front ++ rest)) r)
few_at (Given step ∷ front) rest mode kept r =
    first_few step front rest mode kept (few_at front rest)
    (forth mode kept (Given step ∷ (front ++ rest)) r)

-- so in the beginning of a text
few_of : (front rest : List Mark) → IsText (front ++ rest) → length (steps_of front) + ends rest ≤ length (symbols_of front)
few_of front rest t =
    let few = few_at front rest mode_.Value (keeping 64 [] []) (empty_front.forth (front ++ rest) t) in
    omega (arith, few)

-- what was seen is one symbol longer at most
length_seen : (bytes : List ℕ) (ended : Bool) → length (seen bytes ended) ≤ length bytes + 1
length_seen bytes true = omega (arith, length-append (symbols bytes) (End ∷ []), length_symbols bytes)
length_seen bytes false = omega (arith, length-append (symbols bytes) [], length_symbols bytes)

-- a text has no more fixed steps than bytes
pub few : (bytes : List ℕ) (ended : Bool) (steps : List Step) (verdict : Verdict) → Reads bytes ended steps verdict →
    length steps ≤ length bytes
few bytes ended steps verdict r = few_by verdict r.fits
  where
    as_many : length (steps_of r.front) ≡ length steps
    as_many = ap length r.given

    few_by : (v : Verdict) → IsFrontFor bytes ended r.front v → length steps ≤ length bytes
    few_by More (e, m) =
        let fits = few_of r.front (Seen m.goes_on.0 ∷ m.goes_on.1) m.goes_on.2 in
        let same : length (symbols_of r.front) ≡ length (symbols bytes) = ap length m.same in
        omega (arith, fits, same, as_many, length_symbols bytes)
    few_by Whole (e, w) =
        let fits = few_of r.front [] (subst IsText (sym (append_nil r.front)) w.is_text) in
        let same : length (symbols_of r.front) ≡ length (seen bytes true) = ap length w.same in
        omega (arith, fits, same, as_many, length_seen bytes true)
    few_by (BadAt n) (e, b) =
        let fits = few_of r.front b.begins.0 b.begins.1 in
        let same : length (seen bytes ended) ≡ length (symbols_of r.front ++ (b.next ∷ b.others)) = ap length b.same in
        omega (arith, fits, same, as_many, length_seen bytes ended, length-append (symbols_of r.front) (b.next ∷ b.others))
