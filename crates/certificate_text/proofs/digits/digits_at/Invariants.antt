use Rattle.certificate_text.specs.Parts.{IsScanned}
use Rattle.certificate_text.proofs.digits.digits_at.Given as goal

abbrev pub invariant-digits : goal.invariant-digits
invariant-digits l = IsScanned l.text l.place l.number
