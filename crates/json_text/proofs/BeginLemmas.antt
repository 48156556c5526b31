-- What single bytes do that begin a text, a number or an entry, with the run behind them.
use Rattle.std.proofs.Common.{drop-cons, eqb, ◌≡◌, ◌<◌, ◌+◌, ◌-◌, ℕ, suc, cond, List, [], ◌∷◌, length, take, drop, get_or, refl, sym, ◌∙◌, ap, subst, arith, Option, Some, None}
use Rattle.json_text.specs.declared.mode.Bracket.{Bracket}
use Rattle.json_text.specs.declared.mode.Bracket.TheVariants as bracket_
use Rattle.json_text.specs.declared.mode.Part.{Part}
use Rattle.json_text.specs.declared.mode.Part.TheVariants as part_
use Rattle.json_text.specs.declared.mode.Role.{Role}
use Rattle.json_text.specs.declared.mode.Role.TheVariants as role_
use Rattle.json_text.specs.declared.mode.Place.TheVariants as place_
use Rattle.json_text.specs.declared.mode.Mode.{Mode}
use Rattle.json_text.specs.declared.mode.Mode.TheVariants as mode_
use Rattle.json_text.specs.declared.scanner.Scanner.{Scanner}
use Rattle.json_text.specs.Marks.{Step}
use Rattle.json_text.specs.Bytes.{AreAll, is_plain, kind_of}
use Rattle.json_text.specs.Rest.{Kept, keeping, holding, part_after, OnPart}
use Rattle.json_text.specs.Machine.{Reads, Gives, byte_move, start_of, start_move}
use Rattle.json_text.specs.Taking.{kept_of, opens_of, MayQuote}
use Rattle.json_text.specs.Told.{PartsGo, ReadsOn}
use Rattle.json_text.proofs.ByteTests.{begins_number}
use Rattle.json_text.proofs.RunLemmas.{Runs, RunsFrom, plain_run, number_run, Onward, run_of, reads_to}

-- a run begins with the byte that comes
run_cons : (items : List ℕ) (i n : ℕ) → i < n → i < length items →
    take (n - i) (drop i items) ≡ get_or items i 0 ∷ take (n - (i + 1)) (drop (i + 1) items)
run_cons items i n l h =
    let e : n - i ≡ suc (n - (i + 1)) = omega (arith, l) in
    let next : suc i ≡ i + 1 = omega arith in
    ap (λ k. take k (drop i items)) e ∙ ap (λ xs. take (suc (n - (i + 1))) xs) (drop-cons items i 0 h)
    ∙ ap (λ k. get_or items i 0 ∷ take (n - (i + 1)) (drop k items)) next

-- a run of one byte
run_one : (items : List ℕ) (i n : ℕ) → n ≡ i + 1 → i < length items → take (n - i) (drop i items) ≡ get_or items i 0 ∷ []
run_one items i n e h =
    let l : i < n = omega (arith, e) in
    let none : n - (i + 1) ≡ 0 = omega (arith, e) in
    run_cons items i n l h ∙ ap (λ k. get_or items i 0 ∷ take k (drop (i + 1) items)) none

-- a quotation mark begins a text behind a bracket that opened
quote_first : (role : Role) (room : ℕ) (opens : List Bracket) (content : List ℕ) → MayQuote role mode_.First opens
    → byte_move mode_.First (keeping room opens content) 34 ≡ Reads (mode_.Text role (place_.Chars None)) (keeping room opens [])
quote_first role_.Value room [] content m = absurd cc
quote_first role_.Value room (bracket_.Square ∷ opens) content m = refl
quote_first role_.Value room (bracket_.Curly ∷ opens) content m = absurd cc
quote_first role_.Name room [] content m = absurd cc
quote_first role_.Name room (bracket_.Square ∷ opens) content m = absurd cc
quote_first role_.Name room (bracket_.Curly ∷ opens) content m = refl

-- a quotation mark begins a text
quote_move : (role : Role) (mode : Mode) (kept : Kept) → MayQuote role mode kept.opens
    → byte_move mode kept 34 ≡ Reads (mode_.Text role (place_.Chars None)) (holding kept [])
quote_move role_.Value mode_.Value kept m = refl
quote_move role_.Name mode_.Name kept m = refl
quote_move role_.Value mode_.First kept m = quote_first role_.Value kept.room kept.opens kept.content m
quote_move role_.Name mode_.First kept m = quote_first role_.Name kept.room kept.opens kept.content m
quote_move _ _ kept m = absurd m

-- the bytes behind the first that was read
abbrev pub behind : Scanner → Scanner → List ℕ
behind old new = take (new.read - (old.read + 1)) (drop (old.read + 1) old.input.items)

-- a byte of a number begins one behind a bracket that opened
digit_first : (room : ℕ) (opens : List Bracket) (content : List ℕ) (b : ℕ) (part : Part) → MayQuote role_.Value mode_.First opens
    → part_after part_.Nothing (kind_of b) ≡ Some part →
    byte_move mode_.First (keeping room opens content) b ≡ Reads (mode_.Number part) (keeping room opens (b ∷ []))
digit_first room [] content b part m e = absurd cc
digit_first room (bracket_.Square ∷ opens) content b part m e =
    let n = begins_number b part e in
    let here = keeping room (bracket_.Square ∷ opens) content in
    let entry = start_move (start_of b) here b in
    let closed = Gives (Step.Closes bracket_.Square) mode_.After (keeping (suc room) opens content) in
    ap (λ t. cond t (Reads mode_.First here) (cond (eqb b 93) closed entry)) n.1 ∙ ap (λ t. cond t closed entry) n.2
    ∙ ap (λ s. start_move s here b) n.0
digit_first room (bracket_.Curly ∷ opens) content b part m e = absurd cc

-- a byte of a number begins one
digit_move : (mode : Mode) (kept : Kept) (b : ℕ) (part : Part) → MayQuote role_.Value mode kept.opens
    → part_after part_.Nothing (kind_of b) ≡ Some part → byte_move mode kept b ≡ Reads (mode_.Number part) (holding kept (b ∷ []))
digit_move mode_.Value kept b part m e =
    let n = begins_number b part e in
    ap (λ t. cond t (Reads mode_.Value kept) (start_move (start_of b) kept b)) n.1 ∙ ap (λ s. start_move s kept b) n.0
digit_move mode_.First kept b part m e = digit_first kept.room kept.opens kept.content b part m e
digit_move _ kept b part m e = absurd m

-- a number is read from its first byte on
number_begins : (mode : Mode) (kept : Kept) (b : ℕ) (run : List ℕ) (last : Part) → MayQuote role_.Value mode kept.opens
    → PartsGo part_.Nothing (b ∷ run) last → Runs mode kept (b ∷ run) (mode_.Number last) (b ∷ run)
number_begins mode kept b run last m g = on (part_after part_.Nothing (kind_of b)) refl g
  where
    on : (o : Option Part) → part_after part_.Nothing (kind_of b) ≡ o → OnPart o (λ z. PartsGo z run last) →
        Runs mode kept (b ∷ run) (mode_.Number last) (b ∷ run)
    on None e k = absurd k
    on (Some next) e k = (mode_.Number next, b ∷ [], digit_move mode kept b next m e, number_run next (holding kept (b ∷ [])) run last k)

module _ (old new : Scanner) (o : Onward old new) (n : old.read < new.read) where
  -- a byte came
  inside : old.read < length old.input.items
  inside = omega (arith, n, o.within, old.input.ok.0)

  -- the place was left for another by one byte
  pub pass_on : new.read ≡ old.read + 1
      → RunsFrom old (get_or old.input.items old.read 0 ∷ []) new.machine.mode old.machine.content.items
      → new.machine.content.items ≡ old.machine.content.items → ReadsOn old new
  pass_on e m c =
      reads_to old new new.machine.mode old.machine.content.items o refl c
      (subst (λ run. RunsFrom old run new.machine.mode old.machine.content.items) (sym (run_one old.input.items old.read new.read e inside))
      m)

  -- a text was begun, and plain bytes behind the mark were read
  pub quote_on : (role : Role) → MayQuote role old.machine.mode (opens_of old.machine)
      → get_or old.input.items old.read 0 ≡ 34 → new.machine.mode ≡ mode_.Text role (place_.Chars None)
      → new.machine.content.items ≡ behind old new → AreAll is_plain (behind old new) → ReadsOn old new
  quote_on role m b t c a =
      let run = behind old new in
      let to = mode_.Text role (place_.Chars None) in
      reads_to old new to run o t c
      (subst (λ xs. RunsFrom old xs to run) (sym (run_cons old.input.items old.read new.read n inside ∙ ap (λ x. x ∷ run) b))
      (to, [], quote_move role old.machine.mode (kept_of old.machine) m, plain_run role (holding (kept_of old.machine) []) run a))

  -- a number was begun, and read on
  pub digits_on : (last : Part) → MayQuote role_.Value old.machine.mode (opens_of old.machine)
      → new.machine.mode ≡ mode_.Number last → new.machine.content.items ≡ run_of old new → PartsGo part_.Nothing (run_of old new) last →
      ReadsOn old new
  digits_on last m t c g =
      let b = get_or old.input.items old.read 0 in
      let run = behind old new in
      let cut : run_of old new ≡ b ∷ run = run_cons old.input.items old.read new.read n inside in
      reads_to old new (mode_.Number last) (run_of old new) o t c
      (subst (λ z. RunsFrom old z (mode_.Number last) z) (sym cut)
      (number_begins old.machine.mode (kept_of old.machine) b run last m (subst (λ z. PartsGo part_.Nothing z last) cut g)))
