-- A machine of the code as the scanner's moves see it.
use Rattle.std.specs.Prelude.{ℕ, List, [], ◌∷◌, ◌≡◌, Option, Some, None, ◌-◌, length, reverse}
use Rattle.json_text.specs.declared.mode.Bracket.{Bracket}
use Rattle.json_text.specs.declared.mode.Bracket.TheVariants as bracket_
use Rattle.json_text.specs.declared.mode.Role.{Role}
use Rattle.json_text.specs.declared.mode.Role.TheVariants as role_
use Rattle.json_text.specs.declared.mode.Mode.{Mode}
use Rattle.json_text.specs.declared.mode.Mode.TheVariants as mode_
use Rattle.json_text.specs.declared.mode.Taken.{Taken}
use Rattle.json_text.specs.declared.mode.Taken.TheVariants as taken_
use Rattle.json_text.specs.declared.mode.Ending.{Ending}
use Rattle.json_text.specs.declared.mode.Ending.TheVariants as ending_
use Rattle.json_text.specs.declared.machine.Machine.{Machine}
use Rattle.json_text.specs.Marks.{Step}
use Rattle.json_text.specs.Rest.{Kept, keeping}
use Rattle.json_text.specs.Steps.{step_for, KeepsBeside}
use Rattle.json_text.specs.Machine.{Move, Reads, Gives, GivesFirst, Finishes, Stuck}

-- how many brackets may open
abbrev pub room_of : Machine → ℕ
room_of machine = 64 - length machine.opens.items

-- the brackets that are open, the innermost first
abbrev pub opens_of : Machine → List Bracket
opens_of machine = reverse machine.opens.items

-- what is known of the machine's place beside its mode
abbrev pub kept_of : Machine → Kept
kept_of machine = keeping (room_of machine) (opens_of machine) machine.content.items

-- the innermost bracket
abbrev pub top_of : List Bracket → Option Bracket
top_of [] = None
top_of (bracket ∷ opens) = Some bracket

-- the brackets round the innermost
abbrev pub rest_of : List Bracket → List Bracket
rest_of [] = []
rest_of (bracket ∷ opens) = opens

-- the move that was made, seen by what became of the symbol and by the machine then
abbrev pub move_of : Taken → Machine → Move
move_of taken_.Read new = Reads new.mode (kept_of new)
move_of (taken_.Given step) new = Gives (step_for step new.text.items) new.mode (kept_of new)
move_of taken_.First new = GivesFirst (Step.Number new.text.items) new.mode (kept_of new)
move_of taken_.Stuck new = Stuck

-- the last content stays where no other is given
abbrev pub KeepsText : Taken → Machine → Machine → Type 0
KeepsText (taken_.Given step) old new = KeepsBeside step old.text.items new.text.items
KeepsText taken_.First old new = Unit {0}
KeepsText _ old new = new.text.items ≡ old.text.items

-- nothing but the memory in use has changed
pub record IsSame (old new : Machine) : Type 0 where
  pub mode : new.mode ≡ old.mode
  pub opens : new.opens.items ≡ old.opens.items
  pub content : new.content.items ≡ old.content.items

-- where no text goes on so, nothing has changed
abbrev pub Stays : Taken → Machine → Machine → Type 0
Stays taken_.Stuck old new = IsSame old new
Stays _ old new = Unit {0}

-- what became of a symbol is this move; the last content stays where no other is given, and where no text
-- goes on nothing has changed
pub record Takes (old new : Machine) (move : Move) (taken : Taken) : Type 0 where
  pub moves : move_of taken new ≡ move
  pub kept : KeepsText taken old new
  pub stays : Stays taken old new

-- white space may stand there
abbrev pub MaySpace : Mode → Type 0
MaySpace mode_.Value = Unit {0}
MaySpace mode_.First = Unit {0}
MaySpace mode_.After = Unit {0}
MaySpace mode_.Name = Unit {0}
MaySpace mode_.Colon = Unit {0}
MaySpace _ = ⊥

-- a value may begin there, or a name
abbrev pub MayQuote : Role → Mode → List Bracket → Type 0
MayQuote role_.Value mode_.Value opens = Unit {0}
MayQuote role_.Value mode_.First opens = top_of opens ≡ Some bracket_.Square
MayQuote role_.Name mode_.Name opens = Unit {0}
MayQuote role_.Name mode_.First opens = top_of opens ≡ Some bracket_.Curly
MayQuote _ _ opens = ⊥

-- the same for the end
abbrev pub end_move_of : Ending → Machine → Move
end_move_of ending_.Number new = GivesFirst (Step.Number new.text.items) new.mode (kept_of new)
end_move_of ending_.Whole new = Finishes
end_move_of ending_.Stuck new = Stuck

-- but for a number that ends, nothing has changed
pub record IsUnchanged (old new : Machine) : Type 0 where
  pub place : IsSame old new
  pub text : new.text.items ≡ old.text.items

-- what the end leaves as it was
abbrev pub EndStays : Ending → Machine → Machine → Type 0
EndStays ending_.Number old new = Unit {0}
EndStays _ old new = IsUnchanged old new
