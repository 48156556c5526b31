-- What a read of a file comes to, told as a text. This project's own rule.
use Rattle.std.specs.Prelude.{ℕ, List, Result, Ok, Err, Vec, codes}
use Rattle.std.specs.declared.alloc.Global.{Global}
use Rattle.edge_io.specs.declared.whole_error.WholeError.{WholeError}
use Rattle.edge_io.specs.declared.whole_error.WholeError.TheVariants.{Fault, TooLong, NoMemory}

-- what kept a file from being read, in words
abbrev pub words_of : WholeError → List ℕ
words_of Fault = codes "(fault)"
words_of TooLong = codes "(too long)"
words_of NoMemory = codes "(no memory)"

-- the bytes of the file, or why it can't be read
abbrev pub told_of : Result (Vec ℕ Global) WholeError → List ℕ
told_of (Ok bytes) = bytes.items
told_of (Err error) = words_of error
