use Rattle.rv32_text.proofs.MnemonicTable.{start_result}
use Rattle.rv32_text.proofs.start.read_start.Goals as goal

pub returns : goal.returns
returns c = start_result c.args.text.now c.find_start.result c.find_start.ensures
