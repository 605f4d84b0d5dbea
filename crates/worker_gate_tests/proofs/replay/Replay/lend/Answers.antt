use Rattle.std.proofs.Common.{Option, IfSome, subst}
use Rattle.track_board.specs.declared.loan.Loan.{Loan}
use Rattle.track_board.specs.Others.{MayComeHome}
use Rattle.track_board.proofs.Seats.{all-same, all-stay, all-pushed}
use Rattle.worker_gate_tests.proofs.replay.Replay.lend.Goals as goal

pub invariant_of-self : goal.invariant_of-self
invariant_of-self c = (c.self.invariant.0, all-same c.self.inside.board c.self.inside.out.items c.reserve.new.self.items c.self.invariant.1 c.reserve.ensures.items)

pub invariant_of-self-in_err-lent : goal.invariant_of-self-in_err-lent
invariant_of-self-in_err-lent c = (
  c.lend_and_run.ensures.known,
  all-stay c.self.inside.board c.lend_and_run.new.board c.self.invariant.0 c.lend_and_run.ensures.known c.reserve.new.self.items
      (all-same c.self.inside.board c.self.inside.out.items c.reserve.new.self.items c.self.invariant.1 c.reserve.ensures.items)
      c.next_seat-seat.result c.next_seat-seat.ensures c.lend_and_run.ensures.others,
)

pub invariant_of-self-in_default : goal.invariant_of-self-in_default
invariant_of-self-in_default c = (
  c.lend_and_run.ensures.known,
  all-stay c.self.inside.board c.lend_and_run.new.board c.self.invariant.0 c.lend_and_run.ensures.known c.reserve.new.self.items
      (all-same c.self.inside.board c.self.inside.out.items c.reserve.new.self.items c.self.invariant.1 c.reserve.ensures.items)
      c.next_seat-seat.result c.next_seat-seat.ensures c.lend_and_run.ensures.others,
)

pub invariant_of-self-2 : goal.invariant_of-self-2
invariant_of-self-2 c = (
  c.lend_and_run.ensures.known,
  all-pushed c.self.inside.board c.lend_and_run.new.board c.self.invariant.0 c.lend_and_run.ensures.known c.reserve.new.self.items
      (all-same c.self.inside.board c.self.inside.out.items c.reserve.new.self.items c.self.invariant.1 c.reserve.ensures.items)
      c.next_seat-seat.result c.in-Some.loan c.push_reserved.new.self.items c.next_seat-seat.ensures c.lend_and_run.ensures.others
      (subst (λ (o : Option Loan). IfSome o (MayComeHome c.lend_and_run.new.board c.next_seat-seat.result)) c.in-Some.is c.in_ok-lent.ensures.home)
      c.push_reserved.ensures.items,
)
