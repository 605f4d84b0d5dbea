use Rattle.std.proofs.Common.{Some, sym, subst, arith}
use Rattle.speculation.specs.declared.history.Entry.TheVariants as E
use Rattle.track_board.specs.declared.board.Board.TheInside.{Inside}
use Rattle.track_board.specs.declared.due.Due.TheVariants.{Finish}
use Rattle.track_board.specs.Value.{Posted}
use Rattle.track_board.specs.Settles.{IsDue, due_of}
use Rattle.track_board.specs.Invariant.{view_of_board}
use Rattle.track_board.proofs.Finishes.{IsPushed, finish-room, finish-stands}
use Rattle.track_board.proofs.board.Board.finish.Goals as goal

pub push_reserved-requires : goal.push_reserved-requires
push_reserved-requires c =
    let i = c.self.inside in
    let d : IsDue (Some (Finish c.args.finished)) (due_of (view_of_board i)) = subst (λ (v : Posted). IsDue (Some (Finish c.args.finished)) (due_of v)) (sym c.self.view_is) c.requires in
    let room = finish-room i c.self.invariant.0 c.args.finished c.self.invariant.1 d in
    omega (arith, room)

pub invariant_of-self : goal.invariant_of-self
invariant_of-self c =
    let i = c.self.inside in
    let d : IsDue (Some (Finish c.args.finished)) (due_of (view_of_board i)) = subst (λ (v : Posted). IsDue (Some (Finish c.args.finished)) (due_of v)) (sym c.self.view_is) c.requires in
    let j : Inside = record i { entries = c.push_reserved.new.self } in
    let pushed : IsPushed i j E.Finish = record { items = c.push_reserved.ensures.items; len = c.push_reserved.ensures.len; capacity = omega (arith, c.push_reserved.ensures.capacity) } in
    (_, finish-stands i c.self.invariant.0 c.args.finished c.self.invariant.1 d j pushed)
