use Rattle.std.proofs.Common.{sym, ◌∙◌}
use Rattle.journal_check.proofs.Following.{halt-refused, halt-follows}
use Rattle.journal_check.proofs.replay.Replay.halt.Goals as goal

pub returns-then-over : goal.returns-then-over
returns-then-over c = halt-refused c.args.self.now.board c.args.seat (sym c.over.ensures.result ∙ c.if-over.true)

pub returns : goal.returns
returns c = halt-follows c.args.self.now c.halt.new.self c.requires c.halt.ensures.known c.args.seat (sym c.over.ensures.result ∙ c.if-over.false) c.halt.ensures.entry
