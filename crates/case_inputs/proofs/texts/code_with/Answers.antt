-- The code is that of the profile that was read and checked, and has as many tags of each part as its table.
use Rattle.std.proofs.Common.{◌≡◌, ◌∙◌, ap, length, refl}
use Rattle.context_check.specs.Checked.{Subject}
use Rattle.context_check.specs.Subject.{subject_of}
use Rattle.lookup_table.specs.First.{rows_of}
use Rattle.lookup_table.specs.declared.part.Part.{Part}
use Rattle.lookup_table.specs.declared.part.Part.TheVariants.{Way, Node}
use Rattle.profile_code.specs.Flat.{Flat, flat_of, tags_of}
use Rattle.profile_text.specs.Expr.{sections_in}
use Rattle.case_inputs.proofs.texts.code_with.Goals as goal

-- the code has as many tags as its table
tags_are : (subject : Subject) (part : Part) → tags_of (flat_of subject) part ≡ length (rows_of subject.table part)
unfolding flat_of
tags_are subject Way = refl
tags_are subject Node = refl

pub returns-in-Ok-compile-clause-only : goal.returns-in-Ok-compile-clause-only
returns-in-Ok-compile-clause-only c = record {
  sections = sections_in c.in_ok-profile.profile;
  read = c.in_ok-profile.ensures.only;
  accepted = c.in-Ok.ensures.exact;
  code_is = c.in-Ok-compile.ensures.value ∙ ap flat_of c.in-Ok.ensures.value;
}

pub returns-in-Ok-compile-clause-fits : goal.returns-in-Ok-compile-clause-fits
returns-in-Ok-compile-clause-fits c =
    let has = λ (part : Part).
    ap (λ (flat : Flat). tags_of flat part) c.in-Ok-compile.ensures.value
    ∙ tags_are (subject_of c.in-Ok.checked) part
    ∙ ap (λ (subject : Subject). length (rows_of subject.table part)) c.in-Ok.ensures.value in
    record { way = has Way; node = has Node }
