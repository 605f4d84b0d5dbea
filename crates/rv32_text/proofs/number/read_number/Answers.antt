use Rattle.std.proofs.Common.{◌≡◌, ℕ, length, get_or, decimal, refl, arith}
use Rattle.rv32_text.specs.Numbers.{InRange, digits_so_far}
use Rattle.rv32_text.proofs.Languages.{reads_part, reads_all}
use Rattle.rv32_text.proofs.Decimals.{can_begin_so_far}
use Rattle.rv32_text.proofs.number.read_number.Goals as goal

pub returns-in-None-clause-reads : goal.returns-in-None-clause-reads
returns-in-None-clause-reads c =
    reads_part (InRange c.args.range) (λ (n : ℕ). decimal n) c.args.text.now (digits_so_far c.loop-used.number) c.complete-number.result
    (can_begin_so_far c.args.range c.requires c.loop-used.number c.loop-used.invariant.1) c.complete-number.ensures
    c.loop-used.used (get_or c.args.text.now c.loop-used.used 0) c.loop-used-test.true refl c.loop-used.invariant.0 c.in-None.ensures

pub returns-clause-reads : goal.returns-clause-reads
returns-clause-reads c =
    let done : c.loop-used.used ≡ length c.args.text.now = omega arith in
    reads_all (InRange c.args.range) (λ (n : ℕ). decimal n) c.args.text.now (digits_so_far c.loop-used.number) c.complete-number-2.result
    (can_begin_so_far c.args.range c.requires c.loop-used.number c.loop-used.invariant.1) c.complete-number-2.ensures
    (rw done at c.loop-used.invariant.0)
