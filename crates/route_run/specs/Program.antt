-- Why a command line could not be read. This project's own rule.
use Rattle.std.specs.declared.io.ErrorKind.{ErrorKind}
use Rattle.std.specs.declared.io.ErrorKind.TheVariants.{OutOfMemory}
use Rattle.run_files.specs.declared.status.Status.{Status}
use Rattle.run_files.specs.declared.status.Status.TheVariants.{Usage, NoMemory}

-- want of memory is told as such; anything else is a faulty first word
abbrev pub fault_of : ErrorKind → Status
fault_of OutOfMemory = NoMemory
fault_of kind = Usage 0
