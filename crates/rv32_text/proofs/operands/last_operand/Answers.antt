use Rattle.std.proofs.Common.{◌≡◌, ℤ, ℕ, ◌+◌, List, [], ◌++◌, Option, Some, drop, sym, subst, ◌∙◌}
use Rattle.std.proofs.lemmas.List.{take_rest, append-nil}
use mir.Val.{to_z, of_z}
use mir.Syntax.{w64}
use Rattle.rv32_text.specs.Languages.{rest, ended, Reads, Differs}
use Rattle.rv32_text.specs.Fields.{Fits, write_field}
use Rattle.rv32_text.proofs.FieldReads.{field_letters, value_same}
use Rattle.rv32_text.proofs.OperandReads.{stops_at_field, stops_at_literal, takes_literal}
use Rattle.rv32_text.proofs.operands.last_operand.Goals as goal

pub returns-in-None : goal.returns-in-None
returns-in-None c =
    let whole : Reads (Fits c.args.field) (write_field c.args.field) (drop c.args.from c.args.text.now) c.read_field-read.result.used c.read_field-read.result.value =
    subst (λ (x : List ℕ). Reads (Fits c.args.field) (write_field c.args.field) x c.read_field-read.result.used c.read_field-read.result.value) (take_rest c.args.text.now c.args.from) c.read_field-read.ensures.reads in
    stops_at_field (Fits c.args.field) (write_field c.args.field) (field_letters c.args.field) (ended c.args.after.now) c.requires.after c.args.text.now c.args.from c.read_field-read.result.used
    (subst (λ (o : Option ℤ). Reads (Fits c.args.field) (write_field c.args.field) (drop c.args.from c.args.text.now) c.read_field-read.result.used o) c.in-None.is whole)

pub returns-in-Ok : goal.returns-in-Ok
returns-in-Ok c =
    let whole : Reads (Fits c.args.field) (write_field c.args.field) (drop c.args.from c.args.text.now) c.read_field-read.result.used c.read_field-read.result.value =
    subst (λ (x : List ℕ). Reads (Fits c.args.field) (write_field c.args.field) x c.read_field-read.result.used c.read_field-read.result.value) (take_rest c.args.text.now c.args.from) c.read_field-read.ensures.reads in
    let h : Reads (Fits c.args.field) (write_field c.args.field) (drop c.args.from c.args.text.now) c.read_field-read.result.used (Some c.in-Some.value) =
    subst (λ (o : Option ℤ). Reads (Fits c.args.field) (write_field c.args.field) (drop c.args.from c.args.text.now) c.read_field-read.result.used o) c.in-Some.is whole in
    let same : c.in-Some.value ≡ to_z w64 (of_z w64 c.in-Some.value) = sym (value_same c.args.field c.in-Some.value h.value_is.0) in
    let ends : ended (drop (c.args.from + c.read_field-read.result.used) c.args.text.now) ≡ ended c.args.after.now =
    subst (λ (x : List ℕ). ended x ≡ ended c.args.after.now) (take_rest c.args.text.now (c.args.from + c.read_field-read.result.used)) c.in-Ok.ensures.ends in (
      subst (λ (z : ℤ). Fits c.args.field z) same h.value_is.0,
      subst (λ (z : ℤ). rest c.args.text.now c.args.from ≡ write_field c.args.field z ++ ended c.args.after.now) same
          (takes_literal (Fits c.args.field) (write_field c.args.field) (field_letters c.args.field) (ended c.args.after.now) c.requires.after c.args.text.now [] c.args.from c.read_field-read.result.used c.in-Some.value h
          (ends ∙ sym (append-nil (ended c.args.after.now))) ∙ append-nil (write_field c.args.field c.in-Some.value ++ ended c.args.after.now)),
    )

pub returns-in-Err : goal.returns-in-Err
returns-in-Err c =
    let whole : Reads (Fits c.args.field) (write_field c.args.field) (drop c.args.from c.args.text.now) c.read_field-read.result.used c.read_field-read.result.value =
    subst (λ (x : List ℕ). Reads (Fits c.args.field) (write_field c.args.field) x c.read_field-read.result.used c.read_field-read.result.value) (take_rest c.args.text.now c.args.from) c.read_field-read.ensures.reads in
    stops_at_literal (Fits c.args.field) (write_field c.args.field) (field_letters c.args.field) (ended c.args.after.now) c.requires.after c.args.text.now c.args.from c.read_field-read.result.used c.in-Err.shared c.in-Some.value
    (subst (λ (o : Option ℤ). Reads (Fits c.args.field) (write_field c.args.field) (drop c.args.from c.args.text.now) c.read_field-read.result.used o) c.in-Some.is whole)
    (subst (λ (x : List ℕ). Differs (ended c.args.after.now) (ended x) c.in-Err.shared) (take_rest c.args.text.now (c.args.from + c.read_field-read.result.used)) c.in-Err.ensures.ends)
