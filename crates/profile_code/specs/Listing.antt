-- The text of flat code: the operations of each section with their numbers. This project's own rule.
use Rattle.std.specs.Prelude.{ℕ, ◌+◌, List, [], ◌∷◌, ◌++◌, slice_index_or}
use Rattle.std.specs.Fmt.{decimal}
use lib.Chars.{codes}
use Rattle.fixed_num.specs.Text.{mil6}
use Rattle.profile_code.specs.declared.instr.Instr.{Instr}
use Rattle.profile_code.specs.declared.instr.Instr.TheVariants.{Number, Own, Global, Look, Not, Truth, Two, JumpZero, Jump, Set}
use Rattle.profile_code.specs.Flat.{Flat, section_of}
use Rattle.profile_text.specs.declared.expr.Op.{Op}
use Rattle.profile_text.specs.declared.expr.Op.TheVariants.{Or, And, Xor, Multiply, Divide, Add, Sub, Max, Min, Equal, Greater, Lesser}
use Rattle.profile_text.specs.declared.kind.Section.{Section}
use Rattle.profile_text.specs.declared.kind.Section.TheVariants as section

-- what the variables of a section are called: the section, its names, and those of the global one
pub record Naming : Type 0 where
  pub section : Section
  pub own : List (List ℕ)
  pub global : List (List ℕ)

-- ---- Operations

-- the word of an operator
abbrev pub op_word : Op → List ℕ
op_word Or = codes "or"
op_word And = codes "and"
op_word Xor = codes "xor"
op_word Multiply = codes "multiply"
op_word Divide = codes "divide"
op_word Add = codes "add"
op_word Sub = codes "sub"
op_word Max = codes "max"
op_word Min = codes "min"
op_word Equal = codes "equal"
op_word Greater = codes "greater"
op_word Lesser = codes "lesser"

-- what the name of a section's own variable stands behind
abbrev pub own_word : Section → List ℕ
own_word section.Global = codes "get global "
own_word section.Way = codes "get way "
own_word section.Node = codes "get node "

-- the name at a place
abbrev pub name_at : List (List ℕ) → ℕ → List ℕ
name_at names place = slice_index_or names place []

-- numbers, each after a space
abbrev pub numbers_text : List ℕ → List ℕ
numbers_text [] = []
numbers_text (n ∷ ns) = (32 ∷ decimal n) ++ numbers_text ns

-- the text of an operation with this number, which sets the value at this place if it sets one
abbrev pub instr_text : Naming → ℕ → ℕ → Instr → List ℕ
instr_text naming number place (Number n) = codes "num " ++ mil6 n
instr_text naming number place (Own at) = own_word naming.section ++ name_at naming.own at
instr_text naming number place (Global at) = codes "get global " ++ name_at naming.global at
instr_text naming number place (Look look) = (codes "look " ++ look.name) ++ numbers_text look.numbers
instr_text naming number place Not = codes "not"
instr_text naming number place Truth = codes "bool"
instr_text naming number place (Two op) = op_word op
instr_text naming number place (JumpZero passed) = codes "jumpzero " ++ decimal (number + 1 + passed)
instr_text naming number place (Jump passed) = codes "jump " ++ decimal (number + 1 + passed)
instr_text naming number place Set = codes "set " ++ name_at naming.own place

-- ---- Lines

-- how many values are set after an operation, where so many were before
abbrev pub set_after : ℕ → Instr → ℕ
set_after place Set = place + 1
set_after place (Number n) = place
set_after place (Own at) = place
set_after place (Global at) = place
set_after place (Look look) = place
set_after place Not = place
set_after place Truth = place
set_after place (Two op) = place
set_after place (JumpZero passed) = place
set_after place (Jump passed) = place

-- the line of an operation: its number, a space and its text
abbrev pub line_text : Naming → ℕ → ℕ → Instr → List ℕ
line_text naming number place instr = decimal number ++ (32 ∷ instr_text naming number place instr ++ 10 ∷ [])

-- the lines of operations whose first has this number, after so many values were set
abbrev pub lines_text : Naming → ℕ → ℕ → List Instr → List ℕ
lines_text naming number place [] = []
lines_text naming number place (i ∷ rest) =
    line_text naming number place i ++ lines_text naming (number + 1) (set_after place i) rest

-- the line that opens a section
abbrev pub section_line : Section → List ℕ
section_line section.Global = codes "section global\n"
section_line section.Way = codes "section way\n"
section_line section.Node = codes "section node\n"

-- a section with its operations
abbrev pub section_text : Flat → Section → List ℕ
section_text flat section =
    let code = section_of flat section in
    let naming : Naming = record { section = section; own = code.names; global = flat.global.names } in
    section_line section ++ lines_text naming 0 0 code.instrs

-- the text of flat code
unfoldable pub listing_of : Flat → List ℕ
listing_of flat =
    section_text flat section.Global ++ (section_text flat section.Way ++ section_text flat section.Node)
