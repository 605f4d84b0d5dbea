use Rattle.std.proofs.Common.{ℤ, Option, sym, subst}
use Rattle.rv32_text.specs.Languages.{Reads}
use Rattle.rv32_text.specs.Fields.{Fits, write_field}
use Rattle.rv32_text.specs.declared.fields.Field.TheVariants as Fields
use Rattle.rv32_text.proofs.FieldReads.{amount_reads}
use Rattle.rv32_text.proofs.fields.read_amount.Goals as goal

pub returns-clause-reads : goal.returns-clause-reads
returns-clause-reads c =
    subst (λ (o : Option ℤ). Reads (Fits Fields.Amount) (write_field Fields.Amount) c.args.text.now c.read_number-read.result.used o) (sym c.positive.ensures)
    (amount_reads c.args.text.now c.read_number-read.result.used c.read_number-read.result.number c.read_number-read.ensures.reads)
