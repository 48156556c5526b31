-- Certificates as texts (this project's own format).
use Rattle.std.specs.Prelude.{◌≡◌, ◌<◌, ◌^◌, length, ℕ, List, [], ◌∷◌, ◌++◌, map, MatchResult, Result}
use Rattle.std.specs.List.{AllByRecursion}
use Rattle.overpass_graph.specs.Maps.{MapValue}
use Rattle.certificate_text.specs.declared.certificate.Certificate.{Certificate}
use Rattle.certificate_text.specs.declared.certificate.Entry.{Entry}
use Rattle.certificate_text.specs.declared.certificate.LowerBound.{LowerBound}
use Rattle.certificate_text.specs.declared.certificate.Proof.{Proof}
use Rattle.certificate_text.specs.declared.error.CertError.{CertError}
use Rattle.certificate_text.specs.declared.error.CertError.TheVariants.{Line, NoMemory}
use Rattle.certificate_text.specs.Lines.{Form, Head, Leg, Cost, Label, End, lines_of, IsCost, IsEntry, AreLinks, IsFirstFault}

-- a leg: its walk, what that costs, and the labels that show it least
pub record LegValue : Type 0 where
  pub walk : List ℕ
  pub cost : ℕ
  pub entries : List Entry

-- the leg that a proof is of
abbrev pub leg_of : Proof → LegValue
leg_of proof = record { walk = proof.walk.items; cost = proof.cost; entries = proof.entries.items }

-- the legs of a certificate
abbrev pub legs_of : Certificate → List LegValue
legs_of certificate = map leg_of certificate.legs.items

-- what a certificate says: its lower bound, and its legs
pub record CertificateValue : Type 0 where
  pub bound : LowerBound
  pub legs : List LegValue

-- what this certificate says
abbrev pub value_of : Certificate → CertificateValue
value_of certificate = record { bound = certificate.bound; legs = legs_of certificate }

-- the lines of labels
abbrev pub labels_of : List Entry → List Form
labels_of entries = map Label entries

-- the lines of a leg
abbrev pub leg_forms : LegValue → List Form
leg_forms leg = Leg leg.walk ∷ Cost leg.cost ∷ labels_of leg.entries

-- the lines of legs
abbrev pub legs_forms : List LegValue → List Form
legs_forms [] = []
legs_forms (leg ∷ legs) = leg_forms leg ++ legs_forms legs

-- the lines of a certificate that says this
abbrev pub forms_of : CertificateValue → List Form
forms_of value = Head value.bound ∷ (legs_forms value.legs ++ (End ∷ []))

-- the text of a certificate that says this
unfoldable pub certificate_text : MapValue → CertificateValue → List ℕ
certificate_text map value = lines_of map (forms_of value)

-- a leg that may be written
pub record IsLeg (map : MapValue) (leg : LegValue) : Type 0 where
  pub walk : AreLinks map leg.walk
  pub cost : IsCost leg.cost
  pub entries : AllByRecursion (IsEntry map) leg.entries

-- legs that may be written
abbrev pub AreLegs : MapValue → List LegValue → Type 0
AreLegs map legs = AllByRecursion (IsLeg map) legs

-- each walk has fewer than 2^32 links
abbrev pub AreShort : List LegValue → Type 0
AreShort legs = AllByRecursion (λ leg. length leg.walk < 2 ^ 32) legs

-- a text is that of a certificate that says this
pub record IsTextOf (map : MapValue) (text : List ℕ) (value : CertificateValue) : Type 0 where
  pub legs_are : AreLegs map value.legs
  pub text_is : text ≡ certificate_text map value

-- why a text is none: memory ran out, or a line is the first at fault
abbrev pub IsRefusal : MapValue → List ℕ → CertError → Type 0
IsRefusal map text NoMemory = Unit {0}
IsRefusal map text (Line line) = IsFirstFault map text line

-- a text is read: as the certificate that it is of, or it is refused
abbrev pub ReadsText : MapValue → List ℕ → Result Certificate CertError → Type 0
ReadsText map text result =
    MatchResult result (λ certificate. IsTextOf map text (value_of certificate)) (IsRefusal map text)

-- this is what is read, where memory doesn't run out
abbrev pub IsSame : CertificateValue → Result Certificate CertError → Type 0
IsSame value result = MatchResult result (λ certificate. value_of certificate ≡ value) (λ e. e ≡ NoMemory)
