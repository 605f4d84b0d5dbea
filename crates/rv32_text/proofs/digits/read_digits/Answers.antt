use Rattle.std.proofs.Common.{◌≡◌, ℕ, length, get_or, refl, arith}
use Rattle.rv32_text.specs.Texts.{hex_text}
use Rattle.rv32_text.specs.Hexadecimals.{digit_count, HasDigits}
use Rattle.rv32_text.proofs.Languages.{reads_part, reads_all}
use Rattle.rv32_text.proofs.Hexadecimals.{can_begin}
use Rattle.rv32_text.proofs.digits.read_digits.Goals as goal

pub returns-in-None-clause-reads : goal.returns-in-None-clause-reads
returns-in-None-clause-reads c =
    let i = c.loop-used.invariant in
    reads_part (HasDigits c.args.digits) (λ (n : ℕ). hex_text (digit_count c.args.digits) n) c.args.text.now (hex_text c.loop-used.used c.loop-used.value) c.complete-value.result
    (can_begin c.args.digits c.loop-used.used c.loop-used.value i.0 i.1) c.complete-value.ensures
    c.loop-used.used (get_or c.args.text.now c.loop-used.used 0) c.loop-used-test.true refl i.2 c.in-None.ensures

pub returns-clause-reads : goal.returns-clause-reads
returns-clause-reads c =
    let done : c.loop-used.used ≡ length c.args.text.now = omega arith in
    let i = c.loop-used.invariant in
    reads_all (HasDigits c.args.digits) (λ (n : ℕ). hex_text (digit_count c.args.digits) n) c.args.text.now (hex_text (length c.args.text.now) c.loop-used.value) c.complete-value-2.result
    (can_begin c.args.digits (length c.args.text.now) c.loop-used.value (rw done at i.0) (rw done at i.1)) c.complete-value-2.ensures (rw done at i.2)
