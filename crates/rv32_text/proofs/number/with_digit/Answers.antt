use Rattle.std.proofs.Common.{◌∙◌, ◌+◌, ◌<◌, ◌^◌, ◌++◌, ◌∷◌, [], ℕ, Option, ap, sym, arith}
use Rattle.rv32_text.specs.Numbers.{digits_so_far}
use Rattle.std.proofs.lemmas.Fmt.{decimal_digit}
use Rattle.rv32_text.proofs.Decimals.{digit_more}
use Rattle.rv32_text.proofs.number.with_digit.Goals as goal

pub returns-in-None : goal.returns-in-None
returns-in-None c =
    (omega arith, decimal_digit c.args.digit (omega arith) ∙ ap (λ (o : Option ℕ). digits_so_far o ++ ((48 + c.args.digit) ∷ [])) (sym c.in-None.is))

pub returns-else-number-eq0 : goal.returns-else-number-eq0
returns-else-number-eq0 c =
    let small : c.in-Some.number < 2 ^ 24 = rw c.in-Some.is at c.requires.small in (
      omega arith,
      digit_more c.in-Some.number c.args.digit (omega (arith, c.if-number-eq0.false)) (omega arith) (omega arith)
          ∙ ap (λ (o : Option ℕ). digits_so_far o ++ ((48 + c.args.digit) ∷ [])) (sym c.in-Some.is),
    )
