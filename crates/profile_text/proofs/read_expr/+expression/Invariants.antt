use Rattle.std.proofs.Common.{◌+◌, ◌*◌}
use Rattle.profile_text.proofs.read_expr.+expression.Given as goal

abbrev pub decreases-read_expr : goal.decreases-read_expr
decreases-read_expr l = 4 * l.room

abbrev pub decreases-read_form : goal.decreases-read_form
decreases-read_form l = 4 * l.room + 3

abbrev pub decreases-read_not : goal.decreases-read_not
decreases-read_not l = 4 * l.room + 2

abbrev pub decreases-read_two : goal.decreases-read_two
decreases-read_two l = 4 * l.room + 2

abbrev pub decreases-read_switch : goal.decreases-read_switch
decreases-read_switch l = 4 * l.room + 2

abbrev pub decreases-read_if : goal.decreases-read_if
decreases-read_if l = 4 * l.room + 2

abbrev pub decreases-read_bracket : goal.decreases-read_bracket
decreases-read_bracket l = 4 * l.room + 2

abbrev pub decreases-read_after : goal.decreases-read_after
decreases-read_after l = 4 * l.room + 1
