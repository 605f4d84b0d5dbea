use Rattle.std.proofs.Common.{◌+◌, refl, subst, sym}
use Rattle.rv32_text.specs.declared.digits.Digits.{Digits}
use Rattle.rv32_text.specs.Hexadecimals.{CanComplete}
use Rattle.rv32_text.proofs.Steps.{upper_step}
use Rattle.rv32_text.proofs.digits.may_begin.Goals as goal

pub returns-in-Upper : goal.returns-in-Upper
returns-in-Upper c = (
  λ t. subst (λ (d : Digits). CanComplete d (c.args.place + 1) c.args.value) (sym c.in-Upper.is)
      (upper_step c.args.place c.args.value (rw c.in-Upper.is at c.requires.inside) (rw c.in-Upper.is at c.requires.begun)),
  λ h. refl,
)
