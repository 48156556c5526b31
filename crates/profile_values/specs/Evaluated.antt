-- What the code's evaluation gives, as the meaning of expressions has it.
use Rattle.std.specs.Prelude.{ℤ, Result, Ok, Err}
use Rattle.profile_text.specs.Meaning.{Fault, Unknown, Faulty, value_of, variable_in}
use Rattle.profile_values.specs.Scope.{looks_among}
use Rattle.profile_text.specs.Tree.{Tree}
use Rattle.profile_values.specs.declared.fault.Fault as Code
use Rattle.profile_values.specs.declared.scope.Scope.{Scope}

-- the fault that the code's one stands for
abbrev pub fault_in : Code.Fault → Fault
fault_in (Code.TheVariants.Unknown line) = Unknown line
fault_in (Code.TheVariants.Faulty kind) = Faulty kind

-- a value or its fault, as the meaning has it
abbrev pub outcome_in : Result ℤ Code.Fault → Result ℤ Fault
outcome_in (Ok n) = Ok n
outcome_in (Err fault) = Err (fault_in fault)

-- the value of an expression in a scope
abbrev pub value_in : Scope → Tree → Result ℤ Fault
value_in scope tree =
    value_of (variable_in scope.global.now scope.own.now) (looks_among scope.has_looks scope.tagged.now) tree
