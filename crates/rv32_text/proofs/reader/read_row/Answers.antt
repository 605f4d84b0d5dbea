use Rattle.std.proofs.Common.{ℕ, ◌+◌, List, [], Option, drop, subst}
use Rattle.std.proofs.lemmas.List.{take_rest}
use Rattle.rv32_text.specs.Texts.{hex_text}
use Rattle.rv32_text.specs.Languages.{ended, Reads, Differs}
use Rattle.rv32_text.specs.Hexadecimals.{HasDigits}
use Rattle.rv32_text.proofs.FieldReads.{row_letters}
use Rattle.rv32_text.proofs.OperandReads.{stops_at_field, stops_at_literal, text_end}
use Rattle.rv32_text.proofs.reader.read_row.Goals as goal

pub returns-in-None : goal.returns-in-None
returns-in-None c =
    let some : Reads (HasDigits c.args.digits) (λ n. hex_text 8 n) (drop c.args.from c.args.text.now) c.read_digits-read.result.used c.read_digits-read.result.value =
    subst (λ (x : List ℕ). Reads (HasDigits c.args.digits) (λ n. hex_text 8 n) x c.read_digits-read.result.used c.read_digits-read.result.value) (take_rest c.args.text.now c.args.from)
    (rw c.requires.row at c.read_digits-read.ensures.reads) in
    stops_at_field (HasDigits c.args.digits) (λ n. hex_text 8 n) (λ n h. row_letters 8 n) (ended []) text_end c.args.text.now c.args.from c.read_digits-read.result.used
    (subst (λ (o : Option ℕ). Reads (HasDigits c.args.digits) (λ n. hex_text 8 n) (drop c.args.from c.args.text.now) c.read_digits-read.result.used o) c.in-None.is some)

pub returns-in-Err : goal.returns-in-Err
returns-in-Err c =
    let some : Reads (HasDigits c.args.digits) (λ n. hex_text 8 n) (drop c.args.from c.args.text.now) c.read_digits-read.result.used c.read_digits-read.result.value =
    subst (λ (x : List ℕ). Reads (HasDigits c.args.digits) (λ n. hex_text 8 n) x c.read_digits-read.result.used c.read_digits-read.result.value) (take_rest c.args.text.now c.args.from)
    (rw c.requires.row at c.read_digits-read.ensures.reads) in
    stops_at_literal (HasDigits c.args.digits) (λ n. hex_text 8 n) (λ n h. row_letters 8 n) (ended []) text_end c.args.text.now c.args.from c.read_digits-read.result.used c.in-Err.shared c.in-Some.value
    (subst (λ (o : Option ℕ). Reads (HasDigits c.args.digits) (λ n. hex_text 8 n) (drop c.args.from c.args.text.now) c.read_digits-read.result.used o) c.in-Some.is some)
    (subst (λ (x : List ℕ). Differs (ended []) (ended x) c.in-Err.shared) (take_rest c.args.text.now (c.args.from + c.read_digits-read.result.used)) c.in-Err.ensures.ends)
