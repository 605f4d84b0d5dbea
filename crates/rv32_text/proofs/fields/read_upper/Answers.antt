use Rattle.std.proofs.Common.{ℤ, Option, sym, subst}
use Rattle.rv32_text.specs.Languages.{Reads}
use Rattle.rv32_text.specs.Fields.{Fits, write_field}
use Rattle.rv32_text.specs.declared.fields.Field.TheVariants as Fields
use Rattle.rv32_text.proofs.FieldReads.{upper_reads}
use Rattle.rv32_text.proofs.fields.read_upper.Goals as goal

pub returns-clause-reads : goal.returns-clause-reads
returns-clause-reads c =
    subst (λ (o : Option ℤ). Reads (Fits Fields.Upper) (write_field Fields.Upper) c.args.text.now c.read_digits-read.result.used o) (sym c.positive.ensures)
    (upper_reads c.args.text.now c.read_digits-read.result.used c.read_digits-read.result.value c.read_digits-read.ensures.reads)
