-- The trees that the code's expressions and profiles stand for.
use Rattle.std.specs.Prelude.{map}
use Rattle.profile_text.specs.declared.expr.Expr.{Expr}
use Rattle.profile_text.specs.declared.expr.Expr.TheVariants.{Number, Var, Look, Not', Two', Pick'}
use Rattle.profile_text.specs.declared.profile.Assign.{Assign}
use Rattle.profile_text.specs.declared.profile.Profile.{Profile}
use Rattle.profile_text.specs.Tree.{Tree, Constant, Variable, TagLook, Negation, Operation, Choice, Assignment, Sections}

-- the tree of an expression
abbrev pub tree_of : Expr → Tree
tree_of (Number n) = Constant n
tree_of (Var name line) = Variable name line
tree_of (Look tag values line) = TagLook tag values line
tree_of (Not' p a) = Negation (tree_of a)
tree_of (Two' op p a q b) = Operation op (tree_of a) (tree_of b)
tree_of (Pick' p a q b r c) = Choice (tree_of a) (tree_of b) (tree_of c)

-- the assignment that the code's one stands for
abbrev pub assignment_in : Assign → Assignment
assignment_in a = record { name = a.name; line = a.line; value = tree_of a.value }

-- the sections of a profile
abbrev pub sections_in : Profile → Sections
sections_in p =
    record {
      global = map assignment_in p.global;
      way = map assignment_in p.way;
      node = map assignment_in p.node;
    }
