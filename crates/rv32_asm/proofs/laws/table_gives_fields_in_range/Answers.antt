use Rattle.rv32_asm.proofs.TableInRange.{table_in_range}
use Rattle.rv32_asm.proofs.laws.table_gives_fields_in_range.Goals as goal

pub returns : goal.returns
returns c = table_in_range
