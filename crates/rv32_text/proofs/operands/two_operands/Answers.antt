use Rattle.std.proofs.Common.{◌++◌, refl}
use Rattle.rv32_text.specs.Languages.{ended, OneOf}
use Rattle.rv32_text.specs.Fields.{Fits, write_field}
use Rattle.rv32_text.proofs.FieldReads.{field_letters}
use Rattle.rv32_text.proofs.OperandReads.{ends_itself, stops_at_first, stops_at_second}
use Rattle.rv32_text.proofs.WordShapes.{operand_example}
use Rattle.rv32_text.proofs.operands.two_operands.Goals as goal

pub returns-in-Err : goal.returns-in-Err
returns-in-Err c =
    stops_at_first (OneOf (Fits c.args.first) (write_field c.args.first) c.args.between.now) (OneOf (Fits c.args.second) (write_field c.args.second) (ended c.args.after.now))
    c.args.text.now _ c.args.from c.in-Err.place (operand_example c.args.second (ended c.args.after.now)) c.in-Err.ensures

pub returns-in-Err-last_operand : goal.returns-in-Err-last_operand
returns-in-Err-last_operand c =
    let r = c.in-Ok.ensures in
    stops_at_second (OneOf (Fits c.args.first) (write_field c.args.first) c.args.between.now) (OneOf (Fits c.args.second) (write_field c.args.second) (ended c.args.after.now))
    c.args.text.now (write_field c.args.first c.in-Ok.one ++ c.args.between.now) c.args.from c.in-Ok.next c.in-Err-last_operand.place
    (ends_itself (Fits c.args.first) (write_field c.args.first) (field_letters c.args.first) c.args.between.now c.requires.between)
    (record { value = c.in-Ok.one; fits = r.0; is = refl }) r.1 r.2 r.3 c.in-Err-last_operand.ensures
