-- The lines of a certificate's text (this project's own format).
use Rattle.std.specs.Prelude.{◌≡◌, ℕ, ◌+◌, ◌<◌, ◌^◌, ℤ, pos, ◌≤ℤ◌, List, [], ◌∷◌, ◌++◌, length, codes, decimal, FitsSigned}
use Rattle.std.specs.Fmt.{signed_decimal}
use Rattle.std.specs.List.{AllByRecursion, flat_map}
use mir.Syntax.{w64}
use Rattle.overpass_graph.specs.Maps.{MapValue}
use Rattle.overpass_graph.specs.Names.{name_of, name_text}
use Rattle.certificate_text.specs.declared.certificate.Entry.{Entry}
use Rattle.certificate_text.specs.declared.certificate.LowerBound.{LowerBound}
use Rattle.certificate_text.specs.declared.certificate.LowerBound.TheVariants.{Zero, Least}

-- what a line says: the first one, with a lower bound, a leg with its walk, what the walk costs, a label, or the
-- last one
pub data Form : Type 0 where
  Head : LowerBound → Form
  Leg : List ℕ → Form
  Cost : ℕ → Form
  Label : Entry → Form
  End : Form

-- ---- What stands in a line

-- the number of a certificate's form, as a digit: 1 where the lower bound is 0 everywhere, 2 where it is the least sum
abbrev pub digit_of : LowerBound → ℕ
digit_of Zero = 49
digit_of Least = 50

-- the form of a certificate
abbrev pub head_text : LowerBound → List ℕ
head_text bound = codes "certificate " ++ (digit_of bound ∷ [])

-- a link as `way/segment/f`, or `way/segment/b` where it goes backward
abbrev pub link_text : MapValue → ℕ → List ℕ
link_text map link = name_text (name_of map link)

-- each link of a walk behind a space
abbrev pub walk_text : MapValue → List ℕ → List ℕ
walk_text map walk = flat_map (λ link. 32 ∷ link_text map link) walk

-- two buffers, parted by a space
abbrev pub buffers_text : (down up : ℤ) → List ℕ
buffers_text down up = signed_decimal down ++ (32 ∷ signed_decimal up)

-- a cost and two buffers
abbrev pub weights_text : ℕ → (down up : ℤ) → List ℕ
weights_text cost down up = decimal cost ++ (32 ∷ buffers_text down up)

-- a label
abbrev pub entry_text : MapValue → Entry → List ℕ
entry_text map entry = link_text map entry.link ++ (32 ∷ weights_text entry.cost entry.down entry.up)

-- a line without its end
abbrev pub line_of : MapValue → Form → List ℕ
line_of map (Head bound) = head_text bound
line_of map (Leg walk) = codes "leg" ++ walk_text map walk
line_of map (Cost cost) = codes "cost " ++ decimal cost
line_of map (Label entry) = codes "label " ++ entry_text map entry
line_of map End = codes "end"

-- lines, each ended by the byte 10
abbrev pub lines_of : MapValue → List Form → List ℕ
lines_of map [] = []
lines_of map (form ∷ forms) = line_of map form ++ (10 ∷ lines_of map forms)

-- ---- What may stand in a line

-- a cost in millionths is below 2^127
abbrev pub IsCost : ℕ → Type 0
IsCost cost = cost < 2 ^ 127

-- a buffer isn't negative, and has 64 bits with its sign
abbrev pub IsBuffer : ℤ → Type 0
IsBuffer buffer = (pos 0 ≤ℤ buffer) × FitsSigned w64 buffer

-- a link of the map
abbrev pub IsLink : MapValue → ℕ → Type 0
IsLink map link = link < length map.links

-- links of the map
abbrev pub AreLinks : MapValue → List ℕ → Type 0
AreLinks map walk = AllByRecursion (IsLink map) walk

-- a label that may be written
pub record IsEntry (map : MapValue) (entry : Entry) : Type 0 where
  pub link : IsLink map entry.link
  pub cost : IsCost entry.cost
  pub down : IsBuffer entry.down
  pub up : IsBuffer entry.up

-- a line that may be written
abbrev pub IsForm : MapValue → Form → Type 0
IsForm map (Head bound) = Unit {0}
IsForm map (Leg walk) = AreLinks map walk
IsForm map (Cost cost) = IsCost cost
IsForm map (Label entry) = IsEntry map entry
IsForm map End = Unit {0}

-- ---- Where a line may stand

-- what the line before says of the next one
pub data Stage : Type 0 where
  Unbegun : Stage
  Opened : Stage
  Walked : Stage
  Labelled : Stage
  Ended : Stage

-- what a line says of the next one
abbrev pub stage_after : Form → Stage
stage_after (Head bound) = Opened
stage_after (Leg walk) = Walked
stage_after (Cost cost) = Labelled
stage_after (Label entry) = Labelled
stage_after End = Ended

-- what the last of these lines says of the next one
abbrev pub stage_from : Stage → List Form → Stage
stage_from stage [] = stage
stage_from stage (form ∷ forms) = stage_from (stage_after form) forms

-- a line may stand here: the first one at the beginning, a leg behind it and behind a leg, a cost behind a
-- walk, a label behind a cost and behind a label, the last one where a leg may stand
abbrev pub Stands : Stage → Form → Type 0
Stands Unbegun (Head bound) = Unit {0}
Stands Opened (Leg walk) = Unit {0}
Stands Opened End = Unit {0}
Stands Walked (Cost cost) = Unit {0}
Stands Labelled (Leg walk) = Unit {0}
Stands Labelled (Label entry) = Unit {0}
Stands Labelled End = Unit {0}
Stands _ _ = ⊥

-- each line may be written and stands where it may
abbrev pub AreStanding : MapValue → Stage → List Form → Type 0
AreStanding map stage [] = Unit {0}
AreStanding map stage (form ∷ forms) =
    Stands stage form × (IsForm map form × AreStanding map (stage_after form) forms)

-- the first line at fault has this number, from 1: all before it stand; no line that may stand here does, ended
-- by the byte 10, or the text ends before the last line
pub record IsFirstFault (map : MapValue) (text : List ℕ) (line : ℕ) : Type 0 where
  pub before : List Form
  pub rest : List ℕ
  pub text_is : text ≡ lines_of map before ++ rest
  pub number : line ≡ length before + 1
  pub standing : AreStanding map Unbegun before
  pub fault : (form : Form) (more : List ℕ) → Stands (stage_from Unbegun before) form → IsForm map form →
      rest ≡ line_of map form ++ (10 ∷ more) → ⊥
  pub open_end : rest ≡ [] → stage_from Unbegun before ≡ Ended → ⊥
