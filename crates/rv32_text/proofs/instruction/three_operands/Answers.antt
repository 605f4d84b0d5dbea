use Rattle.std.proofs.Common.{◌++◌, codes, refl}
use Rattle.rv32_text.specs.declared.fields.Field.TheVariants as Fields
use Rattle.rv32_text.specs.Languages.{ended, Joined}
use Rattle.rv32_text.specs.Fields.{Fits, write_field}
use Rattle.rv32_text.specs.Shapes.{Operand}
use Rattle.rv32_text.proofs.FieldReads.{field_letters}
use Rattle.rv32_text.proofs.OperandReads.{ends_itself, stops_at_first, stops_at_second, comma}
use Rattle.rv32_text.proofs.WordShapes.{pair_example}
use Rattle.rv32_text.proofs.instruction.three_operands.Goals as goal

pub returns-in-Err : goal.returns-in-Err
returns-in-Err c =
    let example = pair_example c.args.second c.args.third c.args.between.now (ended c.args.after.now) in
    stops_at_first (Operand Fields.Register (codes ", ")) (Joined (Operand c.args.second c.args.between.now) (Operand c.args.third (ended c.args.after.now)))
    c.args.text.now example.text c.args.from c.in-Err.place example.holds c.in-Err.ensures

pub returns-in-Err-two_operands : goal.returns-in-Err-two_operands
returns-in-Err-two_operands c =
    let r = c.in-Ok.ensures in
    stops_at_second (Operand Fields.Register (codes ", ")) (Joined (Operand c.args.second c.args.between.now) (Operand c.args.third (ended c.args.after.now)))
    c.args.text.now (write_field Fields.Register c.in-Ok.one ++ codes ", ") c.args.from c.in-Ok.next c.in-Err-two_operands.place
    (ends_itself (Fits Fields.Register) (write_field Fields.Register) (field_letters Fields.Register) (codes ", ") comma)
    (record { value = c.in-Ok.one; fits = r.0; is = refl }) r.1 r.2 r.3 c.in-Err-two_operands.ensures
