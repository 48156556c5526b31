-- What a checked profile stands for.
use Rattle.context_check.specs.Checked.{Subject}
use Rattle.context_check.specs.declared.checked.Checked.{Checked}
use Rattle.profile_text.specs.Expr.{sections_in}

-- the profile with the tag table and the overrides that it was checked with
abbrev pub subject_of : Checked → Subject
subject_of c = record {
  table = c.table.now;
  sections = sections_in c.profile.now;
  overrides = c.overrides.now;
}
