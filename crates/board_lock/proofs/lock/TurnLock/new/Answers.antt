use Rattle.std.proofs.Common.{rules, ◌≡◌, [], ◌∷◌, Some, refl, arith}
use Rattle.board_lock.proofs.Turning.{starts}
use Rattle.board_lock.proofs.lock.TurnLock.new.Goals as goal

pub new-requires : goal.new-requires
new-requires g c =
    let started = starts g.T.Kept.fixed g.T.Kept.entries g.T.Kept.belongs (g.T.Kept.fixed c.args.value) c.args.value c.length-count.result refl c.length-count.ensures (omega arith) c.requires in
    let items : c.push.new.self.items ≡ Some c.args.value ∷ [] = search rules in
    rw (c.of-about.ensures, items) started
