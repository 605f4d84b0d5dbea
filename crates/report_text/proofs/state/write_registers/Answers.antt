use Rattle.std.proofs.Common.{◌≡◌, ◌-◌, [], ◌∷◌, ◌++◌, string_bytes, ap, ◌∙◌, append_assoc, arith}
use Rattle.std.specs.Prelude.{codes}
use Rattle.report_text.specs.Texts.{address_text}
use Rattle.report_text.specs.States.{registers_text}
use Rattle.report_text.proofs.OnStates.{text-register}
use Rattle.report_text.proofs.state.write_registers.Goals as goal

pub loop-r-init : goal.loop-r-init
unfolding registers_text
loop-r-init c = c.in_ok-write.ensures.bytes ∙ ap (λ v. string_bytes c.args.text.now ++ (codes "x1 " ++ address_text v)) c.get.ensures.value

pub loop-r-preserved : goal.loop-r-preserved
loop-r-preserved c =
    text-register c.args.regs.now c.loop-r.r-counter c.get-in-loop-r.result (string_bytes c.args.text.now) (string_bytes c.loop-r.text) (string_bytes c.write-in-loop-r.new.self)
    c.loop-r.auto.r-counter c.get-in-loop-r.ensures.value c.loop-r.invariant c.in_ok-write-2.ensures.bytes

pub returns : goal.returns
returns c =
    let last : c.loop-r.r-counter - 2 ≡ 30 = omega arith in
    c.in_ok-write-3.ensures.bytes ∙ ap (λ xs. xs ++ 10 ∷ []) c.loop-r.invariant ∙ append_assoc (string_bytes c.args.text.now) (registers_text c.args.regs.now (c.loop-r.r-counter - 2)) (10 ∷ [])
    ∙ ap (λ n. string_bytes c.args.text.now ++ (registers_text c.args.regs.now n ++ 10 ∷ [])) last
