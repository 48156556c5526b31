use Rattle.std.proofs.Common.{◌≡◌, drop}
use Rattle.std.specs.List.{list_all}
use Rattle.command_words.specs.FileNames.{is_name_byte}
use Rattle.command_words.proofs.file_names.are_name_bytes.Given as goal

abbrev pub invariant-bytes : goal.invariant-bytes
invariant-bytes l = list_all is_name_byte l.name ≡ list_all is_name_byte (drop l.byte-index l.name)
