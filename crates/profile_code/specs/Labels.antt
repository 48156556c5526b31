-- What the code's labels stand for.
use Rattle.profile_code.specs.Listing.{Naming}
use Rattle.profile_code.specs.declared.labels.Labels.{Labels}

-- what the variables of a section are called
abbrev pub naming_in : Labels → Naming
naming_in labels = record { section = labels.section; own = labels.own.now; global = labels.global.now }
