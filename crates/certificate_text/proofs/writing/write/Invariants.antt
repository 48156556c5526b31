use Rattle.std.proofs.Common.{◌≡◌, ◌++◌, ◌∷◌, [], map, take}
use Rattle.certificate_text.specs.Lines.{head_text, lines_of}
use Rattle.certificate_text.specs.Texts.{leg_of, legs_forms}
use Rattle.certificate_text.proofs.writing.write.Given as goal

abbrev pub invariant-legs : goal.invariant-legs
invariant-legs l =
    l.text.items ≡ (head_text l.certificate.bound ++ (10 ∷ [])) ++ lines_of l.map (legs_forms (map leg_of (take l.place l.certificate.legs.items)))
