-- A board as the value of a lock: the part that no call changes, and the board that such a part and a list of entries make
use Rattle.std.specs.Prelude.{List}
use Rattle.speculation.specs.declared.history.Entry.{Entry}
use Rattle.track_board.specs.declared.kept.Program.{Program}
use Rattle.track_board.specs.Value.{Posted}

-- settings, image and input
abbrev pub program_of : Posted → Program
program_of v = record { settings = v.settings; loaded = v.loaded; input = v.input }

-- the board of this program with these entries
abbrev pub posted_by : Program → List Entry → Posted
posted_by p es = record { settings = p.settings; loaded = p.loaded; input = p.input; entries = es }
