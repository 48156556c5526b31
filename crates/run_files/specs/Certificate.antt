-- The stage of a certificate. This project's own rule.
use Rattle.std.specs.Prelude.{◌≡◌, ℕ, List, Result, Ok, Err}
use Rattle.certificate_text.specs.Lines.{IsFirstFault}
use Rattle.certificate_text.specs.Texts.{IsTextOf, value_of}
use Rattle.certificate_text.specs.declared.certificate.Certificate.{Certificate}
use Rattle.certificate_text.specs.declared.error.CertError.TheVariants.{Line}
use Rattle.command_words.specs.Given.{Named}
use Rattle.overpass_graph.specs.Maps.{MapValue}
use Rattle.run_files.specs.Chain.{Leaves, Stage, Then}
use Rattle.run_files.specs.File.{TakesFile}
use Rattle.run_files.specs.Limits.{most_certificate}
use Rattle.run_files.specs.NoteLines.{certificate_note}
use Rattle.run_files.specs.Notes.{NotedStage, Noting}
use Rattle.run_files.specs.declared.status.Status.{Status}
use Rattle.run_files.specs.declared.status.Status.TheVariants as told

-- the certificate that a text is of over a map; its first line at fault, told with the word of the file; or
-- want of memory
abbrev pub IsCertificateIn : MapValue → ℕ → List ℕ → Result Certificate Status → Type 0
IsCertificateIn map word text (Ok certificate) = IsTextOf map text (value_of certificate)
IsCertificateIn map word text (Err (told.Certificate at (Line line))) = (at ≡ word) × IsFirstFault map text line
IsCertificateIn map word text (Err told.NoMemory) = Unit {0}
IsCertificateIn map word text (Err status) = ⊥

-- the file is taken in, and then its certificate is read
abbrev pub TakesCertificate : MapValue → Named → Stage Certificate
TakesCertificate map file =
    Then (TakesFile file most_certificate) (λ text. Leaves (IsCertificateIn map file.word text))

-- so it is, and then noted
abbrev pub NotesCertificate : MapValue → Named → NotedStage Certificate
NotesCertificate map file = Noting (TakesCertificate map file) (λ certificate. certificate_note file)
