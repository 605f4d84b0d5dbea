use Rattle.std.proofs.Common.{sym, subst}
use Rattle.speculation.specs.declared.tracks.Name.{Name}
use Rattle.track_board.specs.Loans.{IsLoanOf}
use Rattle.track_board.proofs.Others.{run-home}
use Rattle.worker_gate.specs.Seats.{seen_of}
use Rattle.worker_gate.proofs.rounds.run.Goals as goal

pub end-requires-clause-home : goal.end-requires-clause-home
end-requires-clause-home g c =
    run-home (seen_of c.args.pass.now) c.args.pass.now.seat c.args.loan c.run.new.self c.in-Ok.field-0 c.requires.out c.in-Ok.ensures.name c.in-Ok.ensures.ran.0 c.in-Ok.ensures.ran.1

pub end_lost-requires-clause-lent : goal.end_lost-requires-clause-lent
end_lost-requires-clause-lent g c = subst (λ (n : Name). IsLoanOf (seen_of c.args.pass.now) c.args.pass.now.seat n) (sym c.in-Err.ensures.name) c.requires.out.lent
