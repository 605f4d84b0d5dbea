use Rattle.std.proofs.Common.{◌≡◌, ◌+◌, ◌*◌, length, ap, ◌∙◌, sym, arith}
use Rattle.rv32_asm.specs.Assembly.{Assembly, size}
use Rattle.rv32_asm.proofs.Programs.{all_written}
use Rattle.rv32_asm.proofs.builder.Assembler.link.Goals as goal

pub returns-clause-answer : goal.returns-clause-answer
returns-clause-answer c =
    let a = c.args.self.now in
    let placed = c.deref.ensures.value ∙ ap (λ (b : Assembly). b.placed) c.self.view_is in
    let sized : 4 * length c.self.inside.items.items + length c.self.inside.placed.items ≡ size a = ap size c.self.view_is in
    all_written a _ _ _ _ _ _ (sym c.unbound_label.ensures ∙ c.in_default.is)
    (omega (arith, c.self.inside.items.ok, c.self.inside.placed.ok)) c.in_ok-bytes.ensures c.in_ok-write_code.ensures.answer
    c.in_ok-extend_from_slice.ensures.items placed c.from_vec.ensures
