-- What crates above may cite of profiles that were checked.
use Rattle.std.proofs.Common.{◌≡◌, None}
use Rattle.context_check.specs.Checked.{HaveKnownNames, IsAccepted, IsDefined, Subject}
use Rattle.context_check.specs.Refusal.{names_in, override_refusal, refusal_of, sections_refusal}
use Rattle.context_check.proofs.DefinedLemmas.{IsDefined-accepted, SectionsPass, option_or-none, sections_pass}
-- what arithmetic gives; two refusals, of which neither comes; names and overrides; the values of a section, and the names that they have
pub use Rattle.context_check.proofs.DefinedLemmas.{IsKnown-arithmetic, option_or-none, overridden_refusal, SectionsPass}
pub use Rattle.context_check.proofs.NameLemmas.{names_of, names_more, replaced_name, overridden_name, overridden_names, values_names, global_values_names}

-- neither the overrides nor the sections of an accepted profile are at fault
parts_pass : (subject : Subject) → IsAccepted subject →
    HaveKnownNames subject.overrides subject.sections × (sections_refusal subject.table subject.sections ≡ None)
unfolding refusal_of
parts_pass subject none =
    option_or-none (override_refusal 0 subject.overrides (names_in subject.sections.global))
    (sections_refusal subject.table subject.sections) none

-- an accepted profile never meets what isn't known
pub accepted_is_defined : (subject : Subject) → IsAccepted subject → IsDefined subject.table subject.sections
accepted_is_defined subject none = IsDefined-accepted subject.table subject.sections (parts_pass subject none).1

-- the overrides of an accepted profile have names that its global section assigns
pub accepted_names : (subject : Subject) → IsAccepted subject → HaveKnownNames subject.overrides subject.sections
accepted_names subject none = (parts_pass subject none).0

-- nothing is at fault in the sections of an accepted profile
pub accepted_sections : (subject : Subject) → IsAccepted subject → SectionsPass subject.table subject.sections
accepted_sections subject none = sections_pass subject.table subject.sections (parts_pass subject none).1
