-- What a line that was read stands for.
use Rattle.lookup_table.specs.declared.line.Line.{Line}
use Rattle.lookup_table.specs.declared.line.Line.TheVariants.{Skip, LookupVersion, MinorVersion, Open, Tag, Fault}
use Rattle.lookup_table.specs.Line.{LineForm}
use Rattle.lookup_table.specs.Line as form
use Rattle.lookup_table.specs.Words.{words_of}

-- the form of a line that was read: the spellings of a tag line are the words of its rest
abbrev pub form_of : Line → LineForm
form_of Skip = form.Skipped
form_of LookupVersion = form.LookupVersion
form_of MinorVersion = form.MinorVersion
form_of (Open part) = form.Opens part
form_of (Tag name spellings) = form.TagLine name.now (words_of spellings.now)
form_of Fault = form.Malformed
