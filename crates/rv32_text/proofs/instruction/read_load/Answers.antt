use Rattle.std.proofs.Common.{◌∙◌}
use mir.Val.{to_z, of_z}
use mir.Syntax.{w32}
use Rattle.rv32_text.specs.declared.fields.Offset.TheVariants as Offsets
use Rattle.rv32_text.specs.declared.fields.Field.TheVariants as Fields
use Rattle.rv32_text.proofs.FieldReads.{value_same}
use Rattle.rv32_text.proofs.InstructionReads.{load_read, offset_same}
use Rattle.rv32_text.proofs.instruction.read_load.Goals as goal

pub returns-in-Ok : goal.returns-in-Ok
returns-in-Ok c =
    let r = c.in-Ok.ensures in
    load_read c.args.text.now c.args.from c.register-rd.result c.register-rs1.result c.in-Ok.rd c.in-Ok.rs1 c.in-Ok.offset (to_z w32 (of_z w32 c.immediate-offset.result))
    (offset_same Offsets.Short c.in-Ok.offset c.immediate-offset.result r.1 (c.immediate-offset.ensures ∙ value_same (Fields.Offset Offsets.Short) c.in-Ok.offset r.1))
    (c.register-rd.ensures.value ∙ value_same Fields.Register c.in-Ok.rd r.0) c.register-rd.ensures.bound (c.register-rs1.ensures.value ∙ value_same Fields.Register c.in-Ok.rs1 r.2) c.register-rs1.ensures.bound c.args.width r.1 r.3
