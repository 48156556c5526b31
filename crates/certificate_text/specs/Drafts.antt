-- How the code takes one line after the other; no public clause cites this.
use Rattle.std.specs.Prelude.{◌≡◌, ℕ, ◌+◌, ◌<◌, ◌^◌, Bool, true, false, List, [], ◌∷◌, ◌++◌, map, length, Option, Some, None}
use Rattle.overpass_graph.specs.Maps.{MapValue}
use Rattle.certificate_text.specs.declared.certificate.LowerBound.{LowerBound}
use Rattle.certificate_text.specs.declared.draft.Draft.{Draft}
use Rattle.certificate_text.specs.declared.draft.Place.{Place}
use Rattle.certificate_text.specs.declared.draft.Place.TheVariants as place_
use Rattle.certificate_text.specs.declared.line.Line.{Line}
use Rattle.certificate_text.specs.declared.line.Line.TheVariants as line_
use Rattle.certificate_text.specs.Lines.{Form, Head, Leg, Cost, Label, End, Stage, Unbegun, Opened, Walked, Labelled, Ended, Stands, AreStanding, IsForm, line_of, lines_of, stage_after, stage_from}
use Rattle.certificate_text.specs.Texts.{LegValue, leg_of, leg_forms, legs_forms}

-- what a line that was read says
abbrev pub form_of : Line → Form
form_of (line_.Head bound) = Head bound
form_of (line_.Leg walk) = Leg walk.items
form_of (line_.Cost cost) = Cost cost
form_of (line_.Label entry) = Label entry
form_of line_.End = End

-- what the place of a draft says of the next line
abbrev pub stage_at : Place → Stage
stage_at place_.Opened = Opened
stage_at place_.Walked = Walked
stage_at place_.Labelled = Labelled
stage_at place_.Ended = Ended

-- the last line was taken
abbrev pub is_ended : Place → Bool
is_ended place_.Ended = true
is_ended place = false

-- the lines of these legs and of the one that is being read, behind the first line
abbrev pub forms_at : Place → List LegValue → LegValue → List Form
forms_at place_.Opened legs now = legs_forms legs
forms_at place_.Walked legs now = legs_forms legs ++ (Leg now.walk ∷ [])
forms_at place_.Labelled legs now = legs_forms legs ++ leg_forms now
forms_at place_.Ended legs now = legs_forms legs ++ (End ∷ [])

-- the lines of a draft, behind the first one
abbrev pub forms_now : Draft → List Form
forms_now draft = forms_at draft.place (map leg_of draft.legs.items) (leg_of draft.leg)

-- a line is taken behind those of a draft
pub record IsTaken (old new : Draft) (form : Form) : Type 0 where
  pub stands : Stands (stage_at old.place) form
  pub place : stage_at new.place ≡ stage_after form
  pub forms : forms_now new ≡ forms_now old ++ (form ∷ [])

-- a line is taken, or it can't stand there
abbrev pub Takes : Draft → Draft → Form → Bool → Type 0
Takes old new form true = IsTaken old new form
Takes old new form false = Stands (stage_at old.place) form → ⊥

-- the first line of a text is taken behind those of a draft, and this follows it
pub record IsRead (map : MapValue) (old new : Draft) (text rest : List ℕ) : Type 0 where
  pub form : Form
  pub fits : IsForm map form
  pub text_is : text ≡ line_of map form ++ (10 ∷ rest)
  pub taken : IsTaken old new form

-- the first line of a text is taken, with what follows it, or no line that can stand there begins the text
abbrev pub ReadsOn : MapValue → Draft → Draft → List ℕ → Option (List ℕ) → Type 0
ReadsOn map old new text (Some rest) = IsRead map old new text rest
ReadsOn map old new text None =
    (form : Form) (rest : List ℕ) → Stands (stage_at old.place) form → IsForm map form → text ≡ line_of map form ++ (10 ∷ rest) → ⊥

-- the first line, with a lower bound, and the lines of a draft
abbrev pub begun : LowerBound → Draft → List Form
begun bound draft = Head bound ∷ forms_now draft

-- what is left of a text from a line of this number on, where a first line and a draft were read of all before it
pub record IsReading (map : MapValue) (text : List ℕ) (bound : LowerBound) (number : ℕ) (rest : List ℕ) (draft : Draft)
    : Type 0 where
  pub text_is : text ≡ lines_of map (begun bound draft) ++ rest
  pub number_is : number ≡ length (begun bound draft) + 1
  pub standing : AreStanding map Unbegun (begun bound draft)
  pub stage : stage_from Unbegun (begun bound draft) ≡ stage_at draft.place
  pub few : number + length rest < 2 ^ 32
