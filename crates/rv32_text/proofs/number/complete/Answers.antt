use Rattle.std.proofs.Common.{◌∙◌, ap}
use Rattle.rv32_text.specs.Numbers.{digits_so_far}
use Rattle.rv32_text.proofs.Decimals.{refuses_nothing, refuses_other}
use Rattle.rv32_text.proofs.number.complete.Goals as goal

pub returns-in-None : goal.returns-in-None
returns-in-None c = λ n h e. refuses_nothing c.args.range c.requires.usable n h (e ∙ ap digits_so_far c.in-None.is)

pub returns-else-contains : goal.returns-else-contains
returns-else-contains c = λ n h e.
    refuses_other c.args.range c.requires.usable c.in-Some.number n (rw c.in-Some.is at c.requires.begun)
    (λ k. let held = c.contains.ensures.1 k in cc) h (e ∙ ap digits_so_far c.in-Some.is)
