use Rattle.std.proofs.Common.{ap, length, arith}
use Rattle.rv32_text.proofs.FaultPlaces.{stops_before_start, fault_place, no_word, word_result}
use Rattle.rv32_text.proofs.reader.read_word.Goals as goal

pub returns-in-Err : goal.returns-in-Err
returns-in-Err c =
    let s = stops_before_start c.args.text.now c.in-Err.place c.in-Err.ensures in
    (fault_place c.args.text.now c.in-Err.place (λ i. omega (arith, c.type_inv.text i)) s, no_word c.args.text.now c.in-Err.place (λ i. omega (arith, c.type_inv.text i)) s)

pub returns-in-Ok : goal.returns-in-Ok
returns-in-Ok c =
    word_result c.in-Ok.mnemonic c.args.text.now (λ i. omega (arith, c.type_inv.text i)) (length c.start.result.now) c.in-Ok.ensures.0 (ap length c.start.ensures) c.read_rest.result c.read_rest.ensures
