-- Where a move leads, and what may follow there.
use Rattle.std.proofs.Common.{◌≡◌, ◌⊎◌, inl, inr, Bool, true, false, cond, List, [], ◌∷◌, refl, sym, subst}
use Rattle.json_text.specs.declared.mode.Mode.{Mode}
use Rattle.json_text.specs.declared.mode.Mode.TheVariants as mode_
use Rattle.json_text.specs.Marks.{Step, Mark, Seen, Given}
use Rattle.json_text.specs.Rest.{Kept, Rest, After, may_end}
use Rattle.json_text.specs.Machine.{Move, Reads, Gives, GivesFirst, Finishes, Stuck, move_by}

-- behind the symbol that made the move stand these marks
pub data Goes : Move → List Mark → Type 0 where
  reads : {mode : Mode} {kept : Kept} {marks : List Mark}
      → Rest mode kept marks → Goes (Reads mode kept) marks
  gives : {step : Step} {mode : Mode} {kept : Kept} {marks : List Mark}
      → Rest mode kept marks → Goes (Gives step mode kept) (Given step ∷ marks)
  finishes : Goes Finishes []

-- a step stands first: the number that may end here
abbrev pub Ends : Mode → Kept → Step → List Mark → Type 0
Ends (mode_.Number part) kept step marks = (may_end part ≡ true) × (step ≡ Step.Number kept.content) × After kept.room kept.opens marks
Ends _ kept step marks = ⊥

-- what follows is what the move by its first symbol leads to
abbrev pub Follows : Mode → Kept → List Mark → Type 0
Follows mode kept [] = ⊥
Follows mode kept (Seen x ∷ marks) = Goes (move_by mode kept x) marks
Follows mode kept (Given step ∷ marks) = Ends mode kept step marks

-- a choice whose test passes
pub if_true : {t : Bool} {x : Move} {marks : List Mark} (y : Move) → t ≡ true → Goes x marks → Goes (cond t x y) marks
if_true {t} {x} {marks} y e g = subst (λ v. Goes (cond v x y) marks) (sym e) g

-- a choice whose test fails
pub if_false : {t : Bool} {y : Move} {marks : List Mark} (x : Move) → t ≡ false → Goes y marks → Goes (cond t x y) marks
if_false {t} {y} {marks} x e g = subst (λ v. Goes (cond v x y) marks) (sym e) g

-- the side that a choice took
pub sides : (t : Bool) (x y : Move) (marks : List Mark) → Goes (cond t x y) marks →
    ((t ≡ true) × Goes x marks) ⊎ ((t ≡ false) × Goes y marks)
sides true x y marks g = inl (refl, g)
sides false x y marks g = inr (refl, g)

-- what a move that is known leads to
pub out_reads : {mode : Mode} {kept : Kept} {marks : List Mark} → Goes (Reads mode kept) marks → Rest mode kept marks
out_reads (reads r) = r

-- a move that gives leads to its step, and then on
pub out_gives : {step : Step} {mode : Mode} {kept : Kept} {marks : List Mark} → Goes (Gives step mode kept) marks
    → (rest : List Mark) × (marks ≡ Given step ∷ rest) × Rest mode kept rest
out_gives (gives {marks = rest} r) = (rest, refl, r)

-- a move that is stuck leads nowhere
pub out_stuck : {marks : List Mark} → Goes Stuck marks → ⊥
out_stuck g = elim g [ ]

-- no symbol is read where a step comes first
pub out_first : {step : Step} {mode : Mode} {kept : Kept} {marks : List Mark} → Goes (GivesFirst step mode kept) marks → ⊥
out_first g = elim g [ ]

-- behind the end nothing stands
pub out_finishes : {marks : List Mark} → Goes Finishes marks → marks ≡ []
out_finishes finishes = refl
