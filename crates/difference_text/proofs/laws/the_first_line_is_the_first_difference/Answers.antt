use Rattle.difference_text.proofs.OnFirstLine.{differences_tell}
use Rattle.difference_text.proofs.laws.the_first_line_is_the_first_difference.Goals as goal

pub returns-clause-first : goal.returns-clause-first
returns-clause-first c = λ a b d left right is. (differences_tell a b left right).some d is

pub returns-clause-none : goal.returns-clause-none
returns-clause-none c = λ a b left right is. (differences_tell a b left right).none is
