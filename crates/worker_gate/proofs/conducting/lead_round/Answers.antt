use Rattle.std.proofs.Common.{sym, ◌∙◌, subst}
use Rattle.guest_streams.specs.GuestStreams.{sinks_of}
use Rattle.worker_gate.specs.Seats.{seen_of}
use Rattle.worker_gate.specs.Conducting.{LedIs}
use Rattle.worker_gate.proofs.Concluding.{led-more, led-short, short-same, round-led}
use Rattle.worker_gate.proofs.Working.{same-seat}
use Rattle.worker_gate.proofs.conducting.lead_round.Goals as goal
use Rattle.worker_gate.proofs.conducting.lead_round.Goals.{in_default-round-2, in_default-round}

pub returns-in_default-write_chunks-clause-led : goal.returns-in_default-write_chunks-clause-led
returns-in_default-write_chunks-clause-led g c first got =
    short-same (seen_of c.release.new.pass) (seen_of c.halt.new.pass) first _
    (led-short (seen_of c.args.pass.now) (seen_of c.release.new.pass) first _ _ c.in-Ok.verified.bytes got c.in-Ok.ensures.hands.0 c.in_default-write_chunks.ensures) c.halt.ensures.hands

pub returns-then-verified-clause-led : goal.returns-then-verified-clause-led
returns-then-verified-clause-led g c first got =
    led-more (seen_of c.args.pass.now) (seen_of c.release.new.pass) first _ _ c.in-Ok.verified.bytes got c.in-Ok.ensures.hands.0 c.in-Ok-write_chunks.ensures

pub returns-in-Idle-clause-led : goal.returns-in-Idle-clause-led
returns-in-Idle-clause-led g c first got =
    round-led c.release.new.pass c.round.new.pass first _ c.round.result (same-seat c.args.pass.now c.release.new.pass c.release.ensures.pass ∙ c.requires.seat) c.round.ensures.round c.round.ensures.known
    (led-more (seen_of c.args.pass.now) (seen_of c.release.new.pass) first _ _ c.in-Ok.verified.bytes got c.in-Ok.ensures.hands.0 c.in-Ok-write_chunks.ensures)

pub returns-clause-led : goal.returns-clause-led
returns-clause-led g c first got =
    let led =
    round-led c.release.new.pass c.round.new.pass first (sinks_of g.O.Sink g.N.Sink c.write_chunks.new.out c.write_chunks.new.notes) c.round.result (same-seat c.args.pass.now c.release.new.pass c.release.ensures.pass ∙ c.requires.seat) c.round.ensures.round c.round.ensures.known
    (led-more (seen_of c.args.pass.now) (seen_of c.release.new.pass) first _ _ c.in-Ok.verified.bytes got c.in-Ok.ensures.hands.0 c.in-Ok-write_chunks.ensures) in
    elim c.match-round.branch [
      | in_default-round-2 w ↦ subst (λ r. LedIs (seen_of c.round.new.pass) first (sinks_of g.O.Sink g.N.Sink c.write_chunks.new.out c.write_chunks.new.notes) r) (sym w.result-is) led
      | in_default-round w ↦ subst (λ r. LedIs (seen_of c.round.new.pass) first (sinks_of g.O.Sink g.N.Sink c.write_chunks.new.out c.write_chunks.new.notes) r) (sym w.result-is) led
    ]
