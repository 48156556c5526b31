-- The grammar of profiles as a relation on tokens, after the routing profiles of the developers guide.
-- Brackets, `=`, and the choice between `switch` and `if` leave no trace in the tree.
use Rattle.std.specs.Prelude.{◌≡◌, ℕ, suc, false, List, [], ◌∷◌, Option, Some, None, ℤ, pos}
use Rattle.profile_text.specs.declared.expr.Op.{Op}
use Rattle.profile_text.specs.declared.kind.Section.{Section}
use Rattle.profile_text.specs.declared.kind.Kind.TheVariants.{Open, Close, Opens, Assign, Equals, Then, Else, True, False, Not, Switch, If, Two, Number, Look, Name}
use Rattle.profile_text.specs.Kind.{kind_of}
use Rattle.profile_text.specs.Look.{tag_of, values_of}
use Rattle.profile_text.specs.Read.{most_depth, no_sections, put_first}
use Rattle.profile_text.specs.Token.{Token, tokens_from}
use Rattle.profile_text.specs.Tree.{Tree, Constant, Variable, TagLook, Negation, Operation, Choice, Assignment, Sections}

-- these tokens begin with an expression of at most this depth that spells the tree, and the rest follows it
pub data SpellsExpr : ℕ → List Token → Tree → List Token → Type 0 where
  a_number : (depth : ℕ) (t : Token) (n : ℤ) (rest : List Token) → kind_of t.text ≡ Number n
      → SpellsExpr (suc depth) (t ∷ rest) (Constant n) rest
  a_true : (depth : ℕ) (t : Token) (rest : List Token) → kind_of t.text ≡ True
      → SpellsExpr (suc depth) (t ∷ rest) (Constant (pos 1000000)) rest
  a_false : (depth : ℕ) (t : Token) (rest : List Token) → kind_of t.text ≡ False
      → SpellsExpr (suc depth) (t ∷ rest) (Constant (pos 0)) rest
  a_name : (depth : ℕ) (t : Token) (rest : List Token) → kind_of t.text ≡ Name
      → SpellsExpr (suc depth) (t ∷ rest) (Variable t.text t.line) rest
  a_look : (depth : ℕ) (t : Token) (rest : List Token) → kind_of t.text ≡ Look
      → SpellsExpr (suc depth) (t ∷ rest) (TagLook (tag_of t.text) (values_of t.text) t.line) rest
  a_not : (depth : ℕ) (t : Token) (ts : List Token) (a : Tree) (rest : List Token) → kind_of t.text ≡ Not
      → SpellsExpr depth ts a rest → SpellsExpr (suc depth) (t ∷ ts) (Negation a) rest
  a_two : (depth : ℕ) (t : Token) (op : Op) (ts us : List Token) (a b : Tree) (rest : List Token)
      → kind_of t.text ≡ Two op → SpellsExpr depth ts a us → SpellsExpr depth us b rest
      → SpellsExpr (suc depth) (t ∷ ts) (Operation op a b) rest
  a_switch : (depth : ℕ) (t : Token) (ts us vs : List Token) (a b c : Tree) (rest : List Token)
      → kind_of t.text ≡ Switch → SpellsExpr depth ts a us → SpellsExpr depth us b vs
      → SpellsExpr depth vs c rest → SpellsExpr (suc depth) (t ∷ ts) (Choice a b c) rest
  an_if : (depth : ℕ) (t u v : Token) (ts us vs : List Token) (a b c : Tree) (rest : List Token)
      → kind_of t.text ≡ If → SpellsExpr depth ts a (u ∷ us) → kind_of u.text ≡ Then
      → SpellsExpr depth us b (v ∷ vs) → kind_of v.text ≡ Else → SpellsExpr depth vs c rest
      → SpellsExpr (suc depth) (t ∷ ts) (Choice a b c) rest
  a_bracket : (depth : ℕ) (t u : Token) (ts : List Token) (a : Tree) (rest : List Token)
      → kind_of t.text ≡ Open → SpellsExpr depth ts a (u ∷ rest) → kind_of u.text ≡ Close
      → SpellsExpr (suc depth) (t ∷ ts) a rest

-- the assignment of a tree to the name of a token
abbrev pub assigned_to : Token → Tree → Assignment
assigned_to name a = record { name = name.text; line = name.line; value = a }

-- these tokens spell sections whose expressions have at most this depth, where one may be open already
pub data SpellsSections (depth : ℕ) : Option Section → List Token → Sections → Type 0 where
  the_end : (current : Option Section) → SpellsSections depth current [] no_sections
  a_section : (current : Option Section) (t : Token) (section : Section) (ts : List Token) (s : Sections)
      → kind_of t.text ≡ Opens section → SpellsSections depth (Some section) ts s
      → SpellsSections depth current (t ∷ ts) s
  assigned : (section : Section) (t name : Token) (ts rest : List Token) (a : Tree) (s : Sections)
      → kind_of t.text ≡ Assign → kind_of name.text ≡ Name
      → SpellsExpr depth ts a rest → SpellsSections depth (Some section) rest s
      → SpellsSections depth (Some section) (t ∷ name ∷ ts) (put_first section (assigned_to name a) s)
  assigned_by : (section : Section) (t name equals : Token) (ts rest : List Token) (a : Tree) (s : Sections)
      → kind_of t.text ≡ Assign → kind_of name.text ≡ Name → kind_of equals.text ≡ Equals
      → SpellsExpr depth ts a rest → SpellsSections depth (Some section) rest s
      → SpellsSections depth (Some section) (t ∷ name ∷ equals ∷ ts)
      (put_first section (assigned_to name a) s)

-- the text spells the sections of a profile
abbrev pub Spells : List ℕ → Sections → Type 0
Spells text s = SpellsSections most_depth None (tokens_from false 1 text) s
