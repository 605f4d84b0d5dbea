-- A worker's parts may go to another thread.
use Rattle.board_lock.proofs.pass.Pass.TheSendSync as pass
use Rattle.worker_gate.proofs.Sending.{board_send}
use Rattle.job_batch.specs.contracts.shares.Share as share
use denote.Param.Send.{IsSend, sendable}
use denote.Param.SendFields.{declared_send}

pub share_send : IsSend share.the_row
share_send = declared_send share.the_type (search sendable, (search (sendable, board_send, pass.the_send) depth 12, (search sendable, tt)))
