use Rattle.track_board.proofs.Settling.{weight_of}
use Rattle.serial_run.specs.Rounds.{GoesOn}
use Rattle.guest_streams.specs.GuestStreams.{sinks_of}
use Rattle.serial_run.proofs.serial.go_rounds.Given as goal

abbrev pub invariant-loop : goal.invariant-loop
invariant-loop g l =
    GoesOn l.fn.board l.board
    (sinks_of g.O.Sink g.N.Sink l.fn.out l.fn.notes)
    (sinks_of g.O.Sink g.N.Sink l.out l.notes)

abbrev pub decreases-loop : goal.decreases-loop
decreases-loop g l = weight_of l.board
