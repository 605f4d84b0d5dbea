use Rattle.std.proofs.Common.{◌%◌, refl, arith}
use Rattle.std.proofs.lemmas.Bool.{eqb-true, eq-eqb}
use Rattle.rv32_text.proofs.Steps.{fence_step, fence_digit}
use Rattle.rv32_text.proofs.digits.fence_may_begin.Goals as goal

pub returns-then-place-eq4 : goal.returns-then-place-eq4
returns-then-place-eq4 c = (
  λ t. fence_step c.args.place c.args.value c.requires.inside c.requires.begun
      (record { funct3 = λ e. eqb-true (c.args.value % 8) 0 t; opcode_high = λ e. absurd (omega (arith, e, c.if-place-eq4.true)); opcode_low = λ e. absurd (omega (arith, e, c.if-place-eq4.true)) }),
  λ h. eq-eqb (c.args.value % 8) 0 ((fence_digit c.args.place c.args.value h).funct3 c.if-place-eq4.true),
)

pub returns-then-place-eq6 : goal.returns-then-place-eq6
returns-then-place-eq6 c = (
  λ t. fence_step c.args.place c.args.value c.requires.inside c.requires.begun
      (record { funct3 = λ e. absurd (omega (arith, e, c.if-place-eq6.true)); opcode_high = λ e. eqb-true (c.args.value % 8) 0 t; opcode_low = λ e. absurd (omega (arith, e, c.if-place-eq6.true)) }),
  λ h. eq-eqb (c.args.value % 8) 0 ((fence_digit c.args.place c.args.value h).opcode_high c.if-place-eq6.true),
)

pub returns-then-place-eq7 : goal.returns-then-place-eq7
returns-then-place-eq7 c = (
  λ t. fence_step c.args.place c.args.value c.requires.inside c.requires.begun
      (record { funct3 = λ e. absurd (omega (arith, e, c.if-place-eq7.true)); opcode_high = λ e. absurd (omega (arith, e, c.if-place-eq7.true)); opcode_low = λ e. eqb-true (c.args.value % 16) 15 t }),
  λ h. eq-eqb (c.args.value % 16) 15 ((fence_digit c.args.place c.args.value h).opcode_low c.if-place-eq7.true),
)

pub returns : goal.returns
returns c = (
  λ t. fence_step c.args.place c.args.value c.requires.inside c.requires.begun
      (record { funct3 = λ e. absurd (c.if-place-eq4.false e); opcode_high = λ e. absurd (c.if-place-eq6.false e); opcode_low = λ e. absurd (c.if-place-eq7.false e) }),
  λ h. refl,
)
