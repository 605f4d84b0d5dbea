use Rattle.std.proofs.Common.{sym, ◌∙◌}
use Rattle.serial_run.proofs.OnChunks.{none-bytes, some-bytes}
use Rattle.serial_run.proofs.OnOutcomes.{round-untaken, round-unwritten, round-last, round-released, round-can_lend, round-slice, round-fails}
use Rattle.serial_run.proofs.serial.go_round.Goals as goal

pub returns-in_default-clause-round : goal.returns-in_default-clause-round
returns-in_default-clause-round g c = round-untaken c.args.board.now c.take_verified.new.board _ c.in_default.ensures.taken c.take_verified.ensures.known c.requires

pub returns-in_default-write_chunks-clause-round : goal.returns-in_default-write_chunks-clause-round
returns-in_default-write_chunks-clause-round g c =
    round-unwritten c.args.board.now c.take_verified.new.board c.in-Ok.verified c.in-Ok.ensures.taken c.take_verified.ensures.known c.requires _ _ c.in_default-write_chunks.ensures

pub returns-then-over-clause-round : goal.returns-then-over-clause-round
returns-then-over-clause-round g c =
    round-last c.args.board.now c.take_verified.new.board c.in-Ok.verified c.in-Ok.ensures.taken c.take_verified.ensures.known c.requires _ _
    c.in-Ok-write_chunks.ensures (sym c.over.ensures.result ∙ c.if-over.true)

pub returns-then-not-is_empty-clause-round : goal.returns-then-not-is_empty-clause-round
returns-then-not-is_empty-clause-round g c =
    round-released c.args.board.now c.take_verified.new.board c.in-Ok.verified c.in-Ok.ensures.taken c.take_verified.ensures.known c.requires _ _
    c.in-Ok-write_chunks.ensures (some-bytes c.in-Ok.verified (sym c.is_empty.ensures ∙ c.if-not-is_empty.true))

pub run_slice-requires : goal.run_slice-requires
run_slice-requires g c =
    round-can_lend c.args.board.now c.take_verified.new.board c.in-Ok.verified c.in-Ok.ensures.taken c.take_verified.ensures.known c.requires
    (none-bytes c.in-Ok.verified (sym c.is_empty.ensures ∙ c.if-not-is_empty.false)) (sym c.over.ensures.result ∙ c.if-over.false)

pub returns-in-Ok-run_slice-clause-round : goal.returns-in-Ok-run_slice-clause-round
returns-in-Ok-run_slice-clause-round g c =
    round-slice c.args.board.now c.take_verified.new.board c.in-Ok.verified c.in-Ok.ensures.taken c.take_verified.ensures.known c.requires
    (none-bytes c.in-Ok.verified (sym c.is_empty.ensures ∙ c.if-not-is_empty.false)) c.run_slice.new.board _ _ c.in-Ok-write_chunks.ensures c.in-Ok-run_slice.ensures.slice

pub returns-clause-round : goal.returns-clause-round
returns-clause-round g c =
    round-fails c.args.board.now c.take_verified.new.board c.in-Ok.verified c.in-Ok.ensures.taken c.take_verified.ensures.known c.requires
    (none-bytes c.in-Ok.verified (sym c.is_empty.ensures ∙ c.if-not-is_empty.false)) c.run_slice.new.board _ _ c.in-Ok-write_chunks.ensures c.in-Err.ensures.slice
