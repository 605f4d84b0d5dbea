use Rattle.std.proofs.Common.{◌+◌, ◌*◌, ◌<◌, ◌^◌, arith}
use Rattle.rv32_text.specs.Hexadecimals.{digit_count}
use Rattle.rv32_text.proofs.Hexadecimals.{hex_next, small_part, small_next, refuses_letter, refuses_digit}
use Rattle.rv32_text.proofs.digits.longer.Goals as goal

pub returns-in_default : goal.returns-in_default
returns-in_default c = refuses_letter c.args.digits c.args.used c.args.value c.args.letter c.in_default.ensures

pub overflow_mul-longer : goal.overflow_mul-longer
overflow_mul-longer c =
    let inside : c.args.used < digit_count c.args.digits = omega (arith, c.requires.inside, c.if-used-count.false, c.count.ensures) in
    let small : c.args.value < 2 ^ 28 = small_part c.args.digits c.args.used c.args.value inside c.requires.begun in
    omega arith

pub overflow_add-longer : goal.overflow_add-longer
overflow_add-longer c =
    let inside : c.args.used < digit_count c.args.digits = omega (arith, c.requires.inside, c.if-used-count.false, c.count.ensures) in
    let small : c.args.value < 2 ^ 28 = small_part c.args.digits c.args.used c.args.value inside c.requires.begun in
    omega (arith, c.in-Some.ensures.0)

pub returns-then-may_begin : goal.returns-then-may_begin
returns-then-may_begin c = (
  omega (arith, c.requires.inside, c.if-used-count.false, c.count.ensures),
  c.may_begin.ensures.0 c.if-may_begin.true,
  hex_next c.args.used c.args.value c.in-Some.digit c.args.letter c.in-Some.ensures.0 c.in-Some.ensures.1,
)

pub returns-else-may_begin : goal.returns-else-may_begin
returns-else-may_begin c =
    let inside : c.args.used < digit_count c.args.digits = omega (arith, c.requires.inside, c.if-used-count.false, c.count.ensures) in
    refuses_digit c.args.digits c.args.used c.args.value c.args.letter (c.args.value * 16 + c.in-Some.digit) inside
    (small_next c.args.used c.args.value c.in-Some.digit c.requires.begun.0 c.in-Some.ensures.0)
    (hex_next c.args.used c.args.value c.in-Some.digit c.args.letter c.in-Some.ensures.0 c.in-Some.ensures.1)
    (λ k. let held = c.may_begin.ensures.1 k in cc)
