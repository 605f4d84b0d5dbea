use Rattle.std.proofs.Common.{◌∙◌, ◌++◌, ◌∷◌, [], ℕ, ap, sym}
use Rattle.rv32_text.specs.Numbers.{digits_so_far}
use Rattle.rv32_text.proofs.Decimals.{refuses_letter, refuses_zero, refuses_long}
use Rattle.rv32_text.proofs.number.longer.Goals as goal

pub returns-in_default : goal.returns-in_default
returns-in_default c = refuses_letter c.args.range c.requires.usable c.args.number c.args.letter c.in_default.ensures

pub returns-in_default-with_digit : goal.returns-in_default-with_digit
returns-in_default-with_digit c = refuses_zero c.args.range c.requires.usable c.args.number c.args.letter c.in_default-with_digit.ensures

pub returns-else-may_begin : goal.returns-else-may_begin
returns-else-may_begin c =
    refuses_long c.args.range c.requires.usable c.args.number c.args.letter c.in-Some-with_digit.longer c.in-Some-with_digit.ensures.0
    (c.in-Some-with_digit.ensures.1 ∙ ap (λ (x : ℕ). digits_so_far c.args.number ++ (x ∷ [])) (sym c.in-Some.ensures.1))
    (λ k. let held = c.may_begin.ensures.1 k in cc)
