use Rattle.board_events.proofs.Telling.{entry_told}
use Rattle.board_events.proofs.laws.lines_tell_entries.Goals as goal

pub returns : goal.returns
returns c = entry_told
