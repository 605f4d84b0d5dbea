use Rattle.std.proofs.Common.{◌∙◌, sym, arith}
use Rattle.rv32_text.specs.declared.fields.Field.TheVariants as Fields
use Rattle.rv32_text.proofs.FieldReads.{value_same}
use Rattle.rv32_text.proofs.InstructionReads.{upper_read}
use Rattle.rv32_text.proofs.instruction.read_upper.Goals as goal

pub returns-in-Ok : goal.returns-in-Ok
returns-in-Ok c =
    let r = c.in-Ok.ensures in
    upper_read c.args.op c.args.text.now c.args.from c.register-rd.result c.upper_immediate-imm.result c.in-Ok.rd c.in-Ok.digits
    (c.register-rd.ensures.value ∙ value_same Fields.Register c.in-Ok.rd r.0) c.register-rd.ensures.bound (omega arith) c.upper_immediate-imm.ensures.low
    (sym (value_same Fields.Upper c.in-Ok.digits r.1) ∙ c.upper_immediate-imm.ensures.value) r.2
