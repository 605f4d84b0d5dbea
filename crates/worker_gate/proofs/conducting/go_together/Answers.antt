use denote.Param.Send.{sendable}
use Rattle.board_lock.proofs.lock.TurnLock.TheSendSync as lock
use Rattle.board_lock.proofs.pass.Pass.TheSendSync as pass
use Rattle.worker_gate.proofs.Sending.{board_send}
use Rattle.worker_gate.proofs.conducting.go_together.Goals as goal

pub beside-requires-send-P : goal.beside-requires-send-P
beside-requires-send-P g c κs within = search (sendable, board_send, pass.the_send) depth 12

pub beside-requires-sync-L : goal.beside-requires-sync-L
beside-requires-sync-L g c κs within = search (sendable, board_send, lock.the_sync) depth 12
