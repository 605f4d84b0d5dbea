use Rattle.std.proofs.Common.{◌∙◌}
use mir.Val.{to_z, of_z}
use mir.Syntax.{w32}
use Rattle.rv32_text.specs.declared.fields.Offset.TheVariants as Offsets
use Rattle.rv32_text.specs.declared.fields.Field.TheVariants as Fields
use Rattle.rv32_text.proofs.FieldReads.{value_same}
use Rattle.rv32_text.proofs.InstructionReads.{branch_read, offset_same}
use Rattle.rv32_text.proofs.instruction.read_branch.Goals as goal

pub returns-in-Ok : goal.returns-in-Ok
returns-in-Ok c =
    let r = c.in-Ok.ensures in
    branch_read c.args.text.now c.args.from c.register-rs1.result c.register-rs2.result c.in-Ok.rs1 c.in-Ok.rs2 c.in-Ok.offset (to_z w32 (of_z w32 c.immediate-offset.result))
    (offset_same Offsets.Branch c.in-Ok.offset c.immediate-offset.result r.2 (c.immediate-offset.ensures ∙ value_same (Fields.Offset Offsets.Branch) c.in-Ok.offset r.2))
    (c.register-rs1.ensures.value ∙ value_same Fields.Register c.in-Ok.rs1 r.0) c.register-rs1.ensures.bound (c.register-rs2.ensures.value ∙ value_same Fields.Register c.in-Ok.rs2 r.1) c.register-rs2.ensures.bound c.args.cond r.2 r.3
