use Rattle.std.proofs.Common.{ℤ, ℕ, ◌+◌, List, Option, drop, decimal, sym, subst}
use Rattle.std.proofs.lemmas.List.{take_rest}
use Rattle.rv32_text.specs.Languages.{Reads}
use Rattle.rv32_text.specs.Numbers.{InRange}
use Rattle.rv32_text.specs.Fields.{Fits, write_field}
use Rattle.rv32_text.specs.declared.number.Range.{Range}
use Rattle.rv32_text.specs.declared.fields.Field.TheVariants as Fields
use Rattle.rv32_text.proofs.FieldReads.{positive_reads, negative_reads}
use Rattle.rv32_text.proofs.fields.read_offset.Goals as goal

pub returns-then-begins_by-clause-reads : goal.returns-then-begins_by-clause-reads
returns-then-begins_by-clause-reads c =
    let b = c.begins_by.ensures.0 c.if-begins_by.true in
    subst (λ (o : Option ℤ). Reads (Fits (Fields.Offset c.args.offset)) (write_field (Fields.Offset c.args.offset)) c.args.text.now (1 + c.read_number-read.result.used) o) (sym c.negative.ensures)
    (negative_reads c.args.offset c.args.text.now c.read_number-read.result.used c.read_number-read.result.number b
    (subst (λ (r : Range). Reads (InRange r) (λ n. decimal n) (drop 1 c.args.text.now) c.read_number-read.result.used c.read_number-read.result.number) c.negative_range.ensures
    (subst (λ (x : List ℕ). Reads (InRange c.negative_range.result) (λ n. decimal n) x c.read_number-read.result.used c.read_number-read.result.number) (take_rest c.args.text.now 1) c.read_number-read.ensures.reads)))

pub returns-clause-reads : goal.returns-clause-reads
returns-clause-reads c =
    subst (λ (o : Option ℤ). Reads (Fits (Fields.Offset c.args.offset)) (write_field (Fields.Offset c.args.offset)) c.args.text.now c.read_number-read-2.result.used o) (sym c.positive.ensures)
    (positive_reads c.args.offset c.args.text.now c.read_number-read-2.result.used c.read_number-read-2.result.number (λ b. let held = c.begins_by.ensures.1 b in cc)
    (subst (λ (r : Range). Reads (InRange r) (λ n. decimal n) c.args.text.now c.read_number-read-2.result.used c.read_number-read-2.result.number) c.positive_range.ensures c.read_number-read-2.ensures.reads))
