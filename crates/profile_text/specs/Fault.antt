-- Where a refused text is at fault, said by the grammar alone.
use Rattle.std.specs.Prelude.{◌≡◌, ℕ, suc, false, List, [], ◌∷◌, ◌++◌, None}
use Rattle.profile_text.specs.declared.error.TextError.{TextError}
use Rattle.profile_text.specs.declared.error.TextError.TheVariants.{At}
use Rattle.profile_text.specs.declared.error.TextKind.{TextKind}
use Rattle.profile_text.specs.declared.error.TextKind.TheVariants.{End}
use Rattle.profile_text.specs.Grammar.{SpellsSections}
use Rattle.profile_text.specs.Read.{most_depth}
use Rattle.profile_text.specs.Token.{Token, tokens_from}
use Rattle.profile_text.specs.Tree.{Sections}

-- these tokens begin a profile that is spelled so, if an expression may be one deeper than it may be
pub record BeginsProfile (front : List Token) : Type 0 where
  pub more : List Token
  pub sections : Sections
  pub spells : SpellsSections (suc most_depth) None (front ++ more) sections

-- the refusal is told at the first of these tokens, since those before it and itself begin no profile,
-- whatever follows; where there is none, it is that of the text's end
abbrev pub IsToldAt : List Token → List Token → TextError → Type 0
IsToldAt front [] e = (line : ℕ) × (e ≡ At line End)
IsToldAt front (bad ∷ rest) e =
    ((kind : TextKind) × (e ≡ At bad.line kind))
    × ((more : List Token) (s : Sections) → SpellsSections most_depth None (front ++ bad ∷ more) s → ⊥)

-- the refusal is told at the first token of the text that can't stand where it is: those before it begin a
-- profile
pub record IsFirstFault (text : List ℕ) (e : TextError) : Type 0 where
  pub front : List Token
  pub rest : List Token
  pub split : tokens_from false 1 text ≡ front ++ rest
  pub before : BeginsProfile front
  pub told : IsToldAt front rest e
