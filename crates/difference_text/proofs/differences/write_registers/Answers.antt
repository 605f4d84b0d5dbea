use Rattle.std.proofs.Common.{◌≡◌, ◌-◌, ◌++◌, string_bytes, sym, ap, ◌∙◌, append-nil, arith}
use Rattle.difference_text.specs.Differences.{registers_lines}
use Rattle.difference_text.proofs.OnDifferences.{text-register}
use Rattle.difference_text.proofs.differences.write_registers.Goals as goal

pub loop-r-init : goal.loop-r-init
unfolding registers_lines
loop-r-init c = sym (append-nil (string_bytes c.args.text.now))

pub loop-r-preserved : goal.loop-r-preserved
loop-r-preserved c =
    text-register c.args.original.now c.args.fast.now c.loop-r.r c.get.result c.get-in-loop-r.result (string_bytes c.args.text.now) (string_bytes c.loop-r.text) (string_bytes c.write_register.new.text)
    c.loop-r.auto.r c.get.ensures.value c.get-in-loop-r.ensures.value c.loop-r.invariant c.in_ok-write_register.ensures

pub returns : goal.returns
returns c =
    let last : c.loop-r.r - 1 ≡ 31 = omega (arith, c.loop-r-test.false, c.loop-r.auto.r-end (omega arith)) in
    c.loop-r.invariant ∙ ap (λ n. string_bytes c.args.text.now ++ registers_lines c.args.original.now c.args.fast.now n) last
