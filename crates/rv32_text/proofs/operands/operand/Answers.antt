use Rattle.std.proofs.Common.{◌≡◌, ℤ, ℕ, ◌+◌, ◌-◌, ◌≤◌, List, ◌++◌, Option, Some, length, drop, arith, sym, subst}
use Rattle.std.proofs.lemmas.List.{length-drop, take_rest}
use mir.Val.{to_z, of_z}
use mir.Syntax.{w64}
use Rattle.rv32_text.specs.Languages.{rest, ended, Reads, Differs}
use Rattle.rv32_text.specs.Fields.{Fits, write_field}
use Rattle.rv32_text.proofs.FieldReads.{field_letters, value_same}
use Rattle.rv32_text.proofs.OperandReads.{stops_at_field, stops_at_literal, takes_operand}
use Rattle.rv32_text.proofs.operands.operand.Goals as goal

pub returns-in-None : goal.returns-in-None
returns-in-None c =
    let whole : Reads (Fits c.args.field) (write_field c.args.field) (drop c.args.from c.args.text.now) c.read_field-read.result.used c.read_field-read.result.value =
    subst (λ (x : List ℕ). Reads (Fits c.args.field) (write_field c.args.field) x c.read_field-read.result.used c.read_field-read.result.value) (take_rest c.args.text.now c.args.from) c.read_field-read.ensures.reads in
    stops_at_field (Fits c.args.field) (write_field c.args.field) (field_letters c.args.field) c.args.after.now c.requires.after c.args.text.now c.args.from c.read_field-read.result.used
    (subst (λ (o : Option ℤ). Reads (Fits c.args.field) (write_field c.args.field) (drop c.args.from c.args.text.now) c.read_field-read.result.used o) c.in-None.is whole)

pub returns-in-Ok : goal.returns-in-Ok
returns-in-Ok c =
    let whole : Reads (Fits c.args.field) (write_field c.args.field) (drop c.args.from c.args.text.now) c.read_field-read.result.used c.read_field-read.result.value =
    subst (λ (x : List ℕ). Reads (Fits c.args.field) (write_field c.args.field) x c.read_field-read.result.used c.read_field-read.result.value) (take_rest c.args.text.now c.args.from) c.read_field-read.ensures.reads in
    let h : Reads (Fits c.args.field) (write_field c.args.field) (drop c.args.from c.args.text.now) c.read_field-read.result.used (Some c.in-Some.value) =
    subst (λ (o : Option ℤ). Reads (Fits c.args.field) (write_field c.args.field) (drop c.args.from c.args.text.now) c.read_field-read.result.used o) c.in-Some.is whole in
    let same : c.in-Some.value ≡ to_z w64 (of_z w64 c.in-Some.value) = sym (value_same c.args.field c.in-Some.value h.value_is.0) in
    let begins : ended (drop (c.args.from + c.read_field-read.result.used) c.args.text.now) ≡ c.args.after.now ++ rest (drop (c.args.from + c.read_field-read.result.used) c.args.text.now) (length c.args.after.now) =
    subst (λ (x : List ℕ). ended x ≡ c.args.after.now ++ rest x (length c.args.after.now)) (take_rest c.args.text.now (c.args.from + c.read_field-read.result.used)) c.in-Ok.ensures.begins.0 in
    let fits : length c.args.after.now ≤ length (drop (c.args.from + c.read_field-read.result.used) c.args.text.now) =
    subst (λ (x : List ℕ). length c.args.after.now ≤ length x) (take_rest c.args.text.now (c.args.from + c.read_field-read.result.used)) c.in-Ok.ensures.begins.1 in
    let used : c.read_field-read.result.used ≤ length (drop c.args.from c.args.text.now) =
    subst (λ (x : List ℕ). c.read_field-read.result.used ≤ length x) (take_rest c.args.text.now c.args.from) c.read_field-read.ensures.within in
    let long : length (drop (c.args.from + c.read_field-read.result.used) c.args.text.now) ≡ length c.args.text.now - (c.args.from + c.read_field-read.result.used) = length-drop (c.args.from + c.read_field-read.result.used) c.args.text.now in
    let longer : length (drop c.args.from c.args.text.now) ≡ length c.args.text.now - c.args.from = length-drop c.args.from c.args.text.now in (
      subst (λ (z : ℤ). Fits c.args.field z) same h.value_is.0,
      omega arith,
      omega (arith, c.requires.from),
      subst (λ (z : ℤ). rest c.args.text.now c.args.from ≡ (write_field c.args.field z ++ c.args.after.now) ++ rest c.args.text.now (c.args.from + c.read_field-read.result.used + length c.args.after.now)) same
          (takes_operand (Fits c.args.field) (write_field c.args.field) (field_letters c.args.field) c.args.after.now c.requires.after c.args.text.now c.args.from c.read_field-read.result.used c.in-Some.value h begins),
    )

pub returns-in-Err : goal.returns-in-Err
returns-in-Err c =
    let whole : Reads (Fits c.args.field) (write_field c.args.field) (drop c.args.from c.args.text.now) c.read_field-read.result.used c.read_field-read.result.value =
    subst (λ (x : List ℕ). Reads (Fits c.args.field) (write_field c.args.field) x c.read_field-read.result.used c.read_field-read.result.value) (take_rest c.args.text.now c.args.from) c.read_field-read.ensures.reads in
    stops_at_literal (Fits c.args.field) (write_field c.args.field) (field_letters c.args.field) c.args.after.now c.requires.after c.args.text.now c.args.from c.read_field-read.result.used c.in-Err.shared c.in-Some.value
    (subst (λ (o : Option ℤ). Reads (Fits c.args.field) (write_field c.args.field) (drop c.args.from c.args.text.now) c.read_field-read.result.used o) c.in-Some.is whole)
    (subst (λ (x : List ℕ). Differs c.args.after.now (ended x) c.in-Err.shared) (take_rest c.args.text.now (c.args.from + c.read_field-read.result.used)) c.in-Err.ensures.begins)
