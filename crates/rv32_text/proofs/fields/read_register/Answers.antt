use Rattle.std.proofs.Common.{ℤ, ℕ, ◌+◌, List, decimal, Option, sym, subst}
use Rattle.std.proofs.lemmas.List.{take_rest}
use Rattle.rv32_text.specs.Numbers.{InRange}
use Rattle.rv32_text.specs.Languages.{Reads}
use Rattle.rv32_text.specs.Fields.{Fits, write_field}
use Rattle.rv32_text.specs.declared.fields.Field.TheVariants as Fields
use Rattle.rv32_text.proofs.FieldReads.{below_32, register_reads, no_register}
use Rattle.rv32_text.proofs.fields.read_register.Goals as goal

pub returns-then-not-begins_by-clause-reads : goal.returns-then-not-begins_by-clause-reads
returns-then-not-begins_by-clause-reads c = no_register c.args.text.now (λ b. let held = c.begins_by.ensures.1 b in cc)

pub returns-clause-reads : goal.returns-clause-reads
returns-clause-reads c =
    let b = c.begins_by.ensures.0 c.if-not-begins_by.false in
    subst (λ (o : Option ℤ). Reads (Fits Fields.Register) (write_field Fields.Register) c.args.text.now (1 + c.read_number-read.result.used) o) (sym c.positive.ensures)
    (register_reads c.args.text.now c.read_number-read.result.used c.read_number-read.result.number b (subst (λ (x : List ℕ). Reads (InRange below_32) (λ n. decimal n) x c.read_number-read.result.used c.read_number-read.result.number) (take_rest c.args.text.now 1) c.read_number-read.ensures.reads))
