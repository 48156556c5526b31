-- The first thing at fault in a profile. This project's own rule.
use Rattle.std.specs.Option.{option_or}
use Rattle.std.specs.Prelude.{ℕ, suc, ◌||◌, List, [], ◌∷◌, ◌++◌, map, ℤ, Option, Some, None, if◌then◌else◌}
use Rattle.context_check.specs.Context.{Context, context_in}
use Rattle.context_check.specs.Effects.{global_names, costfactor_name}
use Rattle.context_check.specs.declared.error.CheckError.{CheckError}
use Rattle.context_check.specs.declared.error.CheckError.TheVariants.{UnknownOverride, WrongSection, UnknownName, UnknownTag, UnknownValue, NoCostfactor}
use Rattle.lookup_table.specs.First.{TagTable}
use Rattle.lookup_table.specs.Tag.{TagRow, place_of}
use Rattle.profile_text.specs.Meaning.{look_numbers, row_at}
use Rattle.profile_text.specs.Names.{is_among}
use Rattle.profile_text.specs.Tree.{Tree, Constant, Variable, TagLook, Negation, Operation, Choice, Assignment, Sections}
use Rattle.profile_text.specs.declared.kind.Section.{Section}
use Rattle.profile_text.specs.declared.kind.Section.TheVariants.{Global, Way, Node}

-- ---- Expressions

-- a look whose tag is known asks for values that are listed
abbrev pub value_refusal : Option (List ℕ) → ℕ → Option CheckError
value_refusal None line = Some (UnknownValue line)
value_refusal (Some numbers) line = None

-- a look's tag is in the part of the table, and then its values are listed there
abbrev pub tag_refusal : List TagRow → Option ℕ → List (List ℕ) → ℕ → Option CheckError
tag_refusal rows None values line = Some (UnknownTag line)
tag_refusal rows (Some place) values line = value_refusal (look_numbers (row_at rows place) values) line

-- a look, where a part of the table belongs to the section; the global section has none, and so no looks
abbrev pub look_refusal : Option (List TagRow) → List ℕ → List (List ℕ) → ℕ → Option CheckError
look_refusal None tag values line = Some (WrongSection line)
look_refusal (Some rows) tag values line = tag_refusal rows (place_of rows tag) values line

-- a variable is assigned earlier in its section, or in the global one
abbrev pub variable_refusal : List (List ℕ) → List (List ℕ) → List ℕ → ℕ → Option CheckError
variable_refusal global own name line =
    if is_among own name || is_among global name then None else Some (UnknownName line)

-- the first thing at fault in an expression, from the left, in a context and after these names of its section
abbrev pub expr_refusal : Context → List (List ℕ) → Tree → Option CheckError
expr_refusal c own (Constant n) = None
expr_refusal c own (Variable name line) = variable_refusal c.global own name line
expr_refusal c own (TagLook tag values line) = look_refusal c.rows tag values line
expr_refusal c own (Negation a) = expr_refusal c own a
expr_refusal c own (Operation op a b) = option_or (expr_refusal c own a) (expr_refusal c own b)
expr_refusal c own (Choice a b c') =
    option_or (expr_refusal c own a) (option_or (expr_refusal c own b) (expr_refusal c own c'))

-- ---- Sections

-- the way section assigns none of the seven names of the global section
abbrev pub name_refusal : Section → Assignment → Option CheckError
name_refusal Way a = if is_among global_names a.name then Some (WrongSection a.line) else None
name_refusal Global a = None
name_refusal Node a = None

-- the first thing at fault in the assignments of a section, after those of these names: of each its own name,
-- then its expression
abbrev pub section_refusal : Context → List (List ℕ) → List Assignment → Option CheckError
section_refusal c own [] = None
section_refusal c own (a ∷ rest) =
    option_or (name_refusal c.section a)
    (option_or (expr_refusal c own a.value) (section_refusal c (own ++ a.name ∷ []) rest))

-- the names of assignments in order
abbrev pub names_in : List Assignment → List (List ℕ)
names_in assignments = map (λ a. a.name) assignments

-- the first override, by its place, whose name isn't one of these
abbrev pub override_refusal : ℕ → List (List ℕ × ℤ) → List (List ℕ) → Option CheckError
override_refusal place [] names = None
override_refusal place (o ∷ os) names =
    if is_among names o.0 then override_refusal (suc place) os names else Some (UnknownOverride place)

-- the way section assigns `costfactor`
abbrev pub costfactor_refusal : List Assignment → Option CheckError
costfactor_refusal way = if is_among (names_in way) costfactor_name then None else Some NoCostfactor

-- the first thing at fault in the three sections, the global one first
abbrev pub sections_refusal : TagTable → Sections → Option CheckError
sections_refusal table s =
    option_or (section_refusal (context_in table Global []) [] s.global)
    (option_or (section_refusal (context_in table Way (names_in s.global)) [] s.way)
    (option_or (section_refusal (context_in table Node (names_in s.global)) [] s.node)
    (costfactor_refusal s.way)))

-- the first thing at fault in a profile: the overrides, and then the sections
unfoldable pub refusal_of : TagTable → Sections → List (List ℕ × ℤ) → Option CheckError
refusal_of table s overrides =
    option_or (override_refusal 0 overrides (names_in s.global)) (sections_refusal table s)
