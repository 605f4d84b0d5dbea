use Rattle.std.proofs.Common.{◌≡◌, ℕ, ◌+◌, ◌<◌, ◌^◌, Bool, true, false, not, Option, Some, None, arith, refl, subst, sym, ◌∙◌}
use Rattle.std.specs.Option.{is_some}
use Rattle.guest_model.specs.declared.instr.Instr.{Instr}
use Rattle.guest_model.specs.InstructionTable.{instr}
use Rattle.rv32_text.specs.declared.digits.Digits.TheVariants as Rows
use Rattle.rv32_text.specs.Hexadecimals.{CanComplete}
use Rattle.rv32_text.proofs.Steps.{word_step, last_small}
use Rattle.rv32_text.proofs.digits.word_may_begin.Goals as goal

pub returns-then-place-lt7 : goal.returns-then-place-lt7
returns-then-place-lt7 c = (λ t. word_step c.args.place c.args.value c.if-place-lt7.true c.requires.begun, λ h. refl)

none_if : (o : Option Instr) (b : Bool) → is_some o ≡ not b → b ≡ true → o ≡ None
none_if None b e t = refl
none_if (Some i) true e t = absurd (cc)
none_if (Some i) false e t = absurd (cc)

if_none : (o : Option Instr) (b : Bool) → is_some o ≡ not b → o ≡ None → b ≡ true
if_none None true e n = refl
if_none None false e n = absurd (cc)
if_none (Some i) b e n = absurd (cc)

pub returns : goal.returns
returns c =
    let last : 7 ≡ c.args.place = omega (arith, c.requires.inside, c.if-place-lt7.false) in
    let row : c.decode.result ≡ instr c.args.value = c.decode.ensures.row in (
      λ t. subst (λ (p : ℕ). CanComplete Rows.Word (p + 1) c.args.value) last
          (let small : c.args.value < 2 ^ 32 = last_small c.args.value (rw (sym last) at c.requires.begun) in
          (small, (small, sym row ∙ none_if c.decode.result c.is_none.result c.is_none.ensures t))),
      λ h. (let there : CanComplete Rows.Word 8 c.args.value = subst (λ (p : ℕ). CanComplete Rows.Word (p + 1) c.args.value) (sym last) h in
          if_none c.decode.result c.is_none.result c.is_none.ensures (row ∙ there.1.1)),
    )
