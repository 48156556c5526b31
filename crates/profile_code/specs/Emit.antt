-- The flat code of a profile. This project's own rule.
use Rattle.std.specs.Prelude.{ℕ, suc, ◌+◌, max, List, [], ◌∷◌, ◌++◌, length, pos, nat_lt, ◌==◌, Option, Some, None, Result, IfOk, ◌≡◌, if◌then◌else◌}
use Rattle.lookup_table.specs.Tag.{TagRow, place_of}
use Rattle.profile_code.specs.declared.instr.Instr.{Instr}
use Rattle.profile_code.specs.declared.instr.Instr.TheVariants.{Number, Own, Global, Look, Not, Truth, Two, JumpZero, Jump, Set}
use Rattle.profile_text.specs.Meaning.{look_at}
use Rattle.profile_text.specs.Names.{last_place}
use Rattle.profile_text.specs.Tree.{Tree, Constant, Variable, TagLook, Negation, Operation, Choice, Assignment}
use Rattle.profile_text.specs.declared.expr.Op.{Op}
use Rattle.profile_text.specs.declared.expr.Op.TheVariants.{Or, And}

-- a number put among ascending ones, unless it is there
abbrev pub put_ascending : ℕ → List ℕ → List ℕ
put_ascending n [] = n ∷ []
put_ascending n (m ∷ ms) =
    if nat_lt n m then n ∷ m ∷ ms else (if n == m then m ∷ ms else m ∷ put_ascending n ms)

-- the same numbers, ascending and each once
abbrev pub ascending : List ℕ → List ℕ
ascending [] = []
ascending (n ∷ ns) = put_ascending n (ascending ns)

-- the operation of a look whose tag and values are known; no checked profile has another
abbrev pub look_instr : List ℕ → Option (ℕ × List ℕ) → Instr
look_instr tag None = Number (pos 0)
look_instr tag (Some look) = Look (record { name = tag; numbers = ascending look.1; tag = look.0 })

-- the operation of a variable that its section assigned last at one place, or else the global section at the
-- other; no checked profile has another
abbrev pub variable_instr : Option ℕ → Option ℕ → Instr
variable_instr (Some place) global = Own place
variable_instr None (Some place) = Global place
variable_instr None None = Number (pos 0)

-- the code of an operator from that of its operands
abbrev pub operation_code : Op → List Instr → List Instr → List Instr
operation_code And a b = a ++ JumpZero (length b + 2) ∷ (b ++ Truth ∷ Jump 1 ∷ Number (pos 0) ∷ [])
operation_code Or a b = a ++ JumpZero 2 ∷ Number (pos 1000000) ∷ Jump (length b + 1) ∷ (b ++ Truth ∷ [])
operation_code op a b = a ++ (b ++ Two op ∷ [])

-- the code of a choice
abbrev pub choice_code : List Instr → List Instr → List Instr → List Instr
choice_code a b c = a ++ JumpZero (length b + 1) ∷ (b ++ Jump (length c) ∷ c)

-- the code of an expression, after these names of the global section and its own
abbrev pub expr_code : List TagRow → List (List ℕ) → List (List ℕ) → Tree → List Instr
expr_code rows global own (Constant n) = Number n ∷ []
expr_code rows global own (Variable name line) =
    variable_instr (last_place own name) (last_place global name) ∷ []
expr_code rows global own (TagLook tag values line) =
    look_instr tag (look_at rows (place_of rows tag) values) ∷ []
expr_code rows global own (Negation a) = expr_code rows global own a ++ Not ∷ []
expr_code rows global own (Operation op a b) =
    operation_code op (expr_code rows global own a) (expr_code rows global own b)
expr_code rows global own (Choice a b c) =
    choice_code (expr_code rows global own a) (expr_code rows global own b) (expr_code rows global own c)

-- the code of assignments, after those of these names
abbrev pub section_code : List TagRow → List (List ℕ) → List (List ℕ) → List Assignment → List Instr
section_code rows global own [] = []
section_code rows global own (a ∷ rest) =
    expr_code rows global own a.value ++ Set ∷ section_code rows global (own ++ a.name ∷ []) rest

-- how many numbers an expression has on the stack at most
abbrev pub height_of : Tree → ℕ
height_of (Constant n) = 1
height_of (Variable name line) = 1
height_of (TagLook tag values line) = 1
height_of (Negation a) = height_of a
height_of (Operation op a b) = max (height_of a) (suc (height_of b))
height_of (Choice a b c) = max (height_of a) (max (height_of b) (height_of c))

-- how many the assignments of a section have
abbrev pub section_height : List Assignment → ℕ
section_height [] = 0
section_height (a ∷ rest) = max (height_of a.value) (section_height rest)

-- ---- What a call appends

-- operations, and how many numbers they have on the stack at most
pub record Piece : Type 0 where
  pub ops : List Instr
  pub height : ℕ

-- those of an expression, after these names of the global section and its own
abbrev pub piece_of : List TagRow → List (List ℕ) → List (List ℕ) → Tree → Piece
piece_of rows global own t = record { ops = expr_code rows global own t; height = height_of t }

-- and then the operation that sets the next variable
abbrev pub with_set : Piece → Piece
with_set piece = record { ops = piece.ops ++ Set ∷ []; height = piece.height }

-- the operations were put behind those that there were, and their height was answered
pub record Emitted (piece : Piece) (old new : List Instr) (height : ℕ) : Type 0 where
  pub value : new ≡ old ++ piece.ops
  pub exact : height ≡ piece.height

-- so a call says, unless memory ran out
abbrev pub Emits : {E : Type 0} → Piece → List Instr → List Instr → Result ℕ E → Type 0
Emits piece old new result = IfOk result (λ height. Emitted piece old new height)
