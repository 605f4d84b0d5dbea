use Rattle.rv32_asm.proofs.words.encode.Goals as goal
use Rattle.rv32_asm.proofs.ReadsBack.{reads_back}

pub returns-clause-reads_back : goal.returns-clause-reads_back
returns-clause-reads_back c = reads_back c.args.instruction c.word.result c.word.ensures c.requires
