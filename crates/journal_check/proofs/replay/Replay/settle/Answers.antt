use Rattle.std.proofs.Common.{Option, subst}
use Rattle.speculation.specs.declared.history.Entry.{Entry}
use Rattle.track_board.specs.Settles.{SettlesOne}
use Rattle.journal_check.proofs.Following.{undue-refused, settle-follows}
use Rattle.journal_check.proofs.replay.Replay.settle.Goals as goal

pub returns-in_ok-drop_empty-in-Some : goal.returns-in_ok-drop_empty-in-Some
returns-in_ok-drop_empty-in-Some c =
    rw c.drop_empty.ensures.same
    (settle-follows c.args.self.now c.settle_one.new.self c.requires.on c.settle_one.ensures.known c.in-Some.done c.args.entry c.is_same_event.result c.requires.due
    (subst (λ (o : Option Entry). SettlesOne c.args.self.now.board c.settle_one.new.self o) c.in-Some.is c.in_ok-done.ensures.one) c.is_same_event.ensures)

pub returns-in-None : goal.returns-in-None
returns-in-None c =
    undue-refused c.args.self.now.board c.args.entry c.requires.due
    (subst (λ (o : Option Entry). SettlesOne c.args.self.now.board c.settle_one.new.self o) c.in-None.is c.in_ok-done.ensures.one).1
