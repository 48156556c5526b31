-- What the code of an operator has besides that of its operands. This project's own rule.
use Rattle.std.specs.Prelude.{ℕ, ◌+◌, List, [], ◌∷◌, pos}
use Rattle.profile_code.specs.declared.instr.Instr.{Instr}
use Rattle.profile_code.specs.declared.instr.Instr.TheVariants.{Number, Truth, Two, JumpZero, Jump}
use Rattle.profile_text.specs.declared.expr.Op.{Op}
use Rattle.profile_text.specs.declared.expr.Op.TheVariants.{Or, And}

-- what stands between the operands, where the second has so many operations
abbrev pub between : Op → ℕ → List Instr
between And second = JumpZero (second + 2) ∷ []
between Or second = JumpZero 2 ∷ Number (pos 1000000) ∷ Jump (second + 1) ∷ []
between op second = []

-- what stands behind the second
abbrev pub behind : Op → List Instr
behind And = Truth ∷ Jump 1 ∷ Number (pos 0) ∷ []
behind Or = Truth ∷ []
behind op = Two op ∷ []
