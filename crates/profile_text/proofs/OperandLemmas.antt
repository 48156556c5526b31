-- An operand that is refused: what stands before the fault begins an expression that may be one deeper.
use Rattle.std.proofs.Common.{◌≡◌, ℕ, suc, List, ◌∷◌, refl, ap, ◌∙◌, pos, Result, Ok, Err}
use lib.Chars.{codes}
use Rattle.profile_text.specs.declared.error.TextError.{TextError}
use Rattle.profile_text.specs.Grammar.{SpellsExpr}
use Rattle.profile_text.specs.Read.{Read, and_then, expr_of}
use Rattle.profile_text.specs.Token.{Token, Place}
use Rattle.profile_text.specs.Tree.{Tree, Constant}
use Rattle.profile_text.proofs.FoundLemmas.{read_is_spelled}
use Rattle.profile_text.proofs.FrontLemmas.{Front, Takes, takes}
use Rattle.profile_text.proofs.GrammarLemmas.{before, spelled_is_read}
use Rattle.profile_text.proofs.StopLemmas.{token, with_true, some_expr, Property, After, going, Stops, stops_first, stops_second, same_error}

-- a value is no refusal
pub not_err : {A : Type 0} (a : A) (e : TextError) → ◌≡◌ {A = Result A TextError} (Ok a) (Err e) → ⊥
not_err a e same = cc

-- the front begins an expression of at most this depth, which other tokens make whole whatever follows it
pub record Viable (depth : ℕ) (fill : List Token → List Token) : Type 0 where
  pub more : List Token → List Token
  pub tree : Tree
  pub spells : (tail : List Token) → SpellsExpr depth (fill (more tail)) tree tail

-- no token begins one
pub viable_none : (depth : ℕ) → Viable (suc depth) (λ tail. tail)
viable_none depth = record { more = with_true; tree = Constant (pos 1000000); spells = some_expr depth }

-- expressions of at most this depth stop so
abbrev pub ExprStops : ℕ → Type 0
ExprStops room =
    (last : ℕ) (ts : List Token) (e : TextError) → expr_of room (before last ts) ≡ Err e → Stops (expr_of room) (Viable (suc room)) ts e

-- what begins an expression has it
abbrev pub WithExpr : ℕ → Property → Type 0
WithExpr room W = (fill : List Token → List Token) → Viable (suc room) fill → W fill

-- what is read after an expression stops so
abbrev pub AfterExprStops : {B : Type 0} → ℕ → (Tree → Place → Result B TextError) → Property → TextError → Type 0
AfterExprStops room go W e =
    (a : Tree) (used : Front) (l : ℕ) (us : List Token) → ((tail : List Token) → SpellsExpr room (used.fill tail) a tail)
    → go a (before l us) ≡ Err e → Stops (go a) (After used W) us e

-- an expression is read and then more
pub operand_then : {B : Type 0} (room : ℕ) (go : Tree → Place → Result B TextError) (W : Property) (last : ℕ) (ts : List Token)
    (e : TextError) → ExprStops room → WithExpr room W → AfterExprStops room go W e → going (expr_of room) go (before last ts) ≡ Err e
    → Stops (going (expr_of room) go) W ts e
operand_then {B} room go W last ts e stops within later h = by_result (expr_of room (before last ts)) refl h
  where
    by_result : (r : Result (Read Tree) TextError) → expr_of room (before last ts) ≡ r → and_then r go ≡ Err e
        → Stops (λ p. and_then (expr_of room p) go) W ts e
    by_result (Err d) is h =
        stops_first (expr_of room) go (Viable (suc room)) W ts e (stops last ts e (is ∙ ap Err (same_error {A = B} d e h))) within
    by_result (Ok r) is h =
        let f : Takes room ts r.value r.place.tokens = takes room ts r.value r.place.tokens (read_is_spelled room (before last ts) r is) in
        stops_second (expr_of room) go W ts r.place.tokens e r.value f.front
        (λ last tail. spelled_is_read room (f.front.fill tail) r.value tail (f.spells tail) last) f.tokens
        (later r.value f.front r.place.last r.place.tokens f.spells h)

-- the number that makes an expression whole
abbrev pub number : Tree
number = Constant (pos 1000000)

-- the tokens `else` and `true`
abbrev pub with_else : List Token → List Token
with_else tail = token (codes "else") ∷ with_true tail

-- the tokens `then`, `true`, `else` and `true`
abbrev pub with_then : List Token → List Token
with_then tail = token (codes "then") ∷ with_true (with_else tail)
