use Rattle.board_lock.proofs.lock.TurnLock.TheSendSync as lock
use Rattle.std_alloc.proofs.vec.Vec.TheSendSync as vec
use Rattle.std_heap.proofs.Global.TheSendSync as heap
use Rattle.std_heap.proofs.GlobalAllocator.TheSendSync as allocator
use Rattle.worker_gate.proofs.Sending.{board_send}
use Rattle.job_batch.proofs.Sending.{share_send}
use Rattle.job_batch.proofs.batching.go_together.Goals as goal
use denote.Param.Send.{sendable}

pub beside-requires-send-P : goal.beside-requires-send-P
beside-requires-send-P g c κs within = search (sendable, vec.the_send, share_send, heap.the_send, allocator.the_frees) depth 14

pub beside-requires-sync-L : goal.beside-requires-sync-L
beside-requires-sync-L g c κs within = search (sendable, vec.the_sync, lock.the_sync, board_send, heap.the_sync) depth 14
