-- A board may go to another thread, and so a pass of its lock; its lock may be shared.
use Rattle.basic_types.proofs.bytes.Bytes.TheSendSync as bytes
use Rattle.core.proofs.option.Option.TheSendSync as option
use Rattle.guest_model.proofs.end.End.TheSendSync as end
use Rattle.guest_model.proofs.registers.Regs.TheSendSync as regs
use Rattle.guest_model.proofs.state.Heap.TheSendSync as brk
use Rattle.guest_model.proofs.state.State.TheSendSync as state
use Rattle.held_output.proofs.held.Held.TheSendSync as held
use Rattle.paged_image.proofs.image.PagedImage.TheSendSync as image
use Rattle.region_ledger.proofs.finished.Finished.TheSendSync as finished
use Rattle.region_ledger.proofs.row.Row.TheSendSync as row
use Rattle.seniority_queue.proofs.queue.Queue.TheSendSync as queue
use Rattle.speculation.proofs.history.Entry.TheSendSync as entry
use Rattle.speculation.proofs.tracks.Kind.TheSendSync as kind
use Rattle.std_alloc.proofs.arc.Arc.TheSendSync as arc
use Rattle.std_alloc.proofs.vec.Vec.TheSendSync as vec
use Rattle.std_heap.proofs.Global.TheSendSync as heap
use Rattle.std_heap.proofs.GlobalAllocator.TheSendSync as allocator
use Rattle.track_board.proofs.loan.Lent.TheSendSync as lent
use Rattle.track_board.proofs.ready.Ready.TheSendSync as ready
use Rattle.track_board.proofs.region.Between.TheSendSync as between
use Rattle.track_board.proofs.region.FastVersion.TheSendSync as fast
use Rattle.track_board.specs.contracts.board.Board.TheInside as inside
use Rattle.track_board.specs.contracts.board.Board.{the_row}
use Rattle.track_board.specs.contracts.region.Region as region
use Rattle.track_board.specs.contracts.slot.Slot as slot
use Rattle.track_state.specs.contracts.start.Start as start
use Rattle.track_state.specs.contracts.track.Track as track
use denote.Param.Send.{IsSend, view_send, sendable}
use denote.Param.SendFields.{FieldsHave, declared_send, variants_send, as_row_send}

-- ---- tracks

start_send : IsSend start.the_row
start_send = declared_send start.the_type (search (sendable, regs.the_send), (search sendable, (search (sendable, brk.the_send), (search sendable depth 10, tt))))

track_send : IsSend track.the_row
track_send = declared_send track.the_type (
  search sendable,
  (
    search (sendable, kind.the_send),
    (
      start_send,
      (
        search (sendable, as_row_send, state.the_send, image.the_send) depth 12,
        (
          search sendable,
          (
            search (sendable, held.the_send),
            (
              search (sendable, as_row_send, option.the_send, end.the_send) depth 12,
              (search sendable, tt),
            ),
          ),
        ),
      ),
    ),
  ),
)

-- ---- the board

slot_send : IsSend slot.the_row
slot_send = variants_send slot.enum ((track_send, tt), ((search sendable, tt), tt))

region_send : IsSend region.the_row
region_send = declared_send region.the_type (
  search sendable,
  (
    slot_send,
    (
      search (sendable, fast.the_send),
      (
        search (sendable, as_row_send, option.the_send, between.the_send) depth 12,
        tt,
      ),
    ),
  ),
)

board_fields : FieldsHave IsSend inside.the_type.parts
board_fields = (
  search sendable,
  (
    search sendable,
    (
      search sendable,
      (
        search (sendable, as_row_send, arc.the_send, bytes.the_send, bytes.the_sync, heap.the_send, heap.the_sync, allocator.the_frees) depth 12,
        (
          search sendable,
          (
            search (sendable, as_row_send, vec.the_send, ready.the_send, heap.the_send, allocator.the_frees) depth 12,
            (
              search (sendable, as_row_send, vec.the_send, row.the_send, heap.the_send, allocator.the_frees) depth 12,
              (
                search sendable,
                (
                  search sendable,
                  (
                    search (sendable, as_row_send, queue.the_send, region_send) depth 12,
                    (
                      slot_send,
                      (
                        search (sendable, as_row_send, vec.the_send, lent.the_send, heap.the_send, allocator.the_frees) depth 12,
                        (
                          search (sendable, as_row_send, option.the_send, finished.the_send) depth 12,
                          (
                            search sendable,
                            (
                              search (sendable, as_row_send, vec.the_send, entry.the_send, heap.the_send, allocator.the_frees) depth 12,
                              tt,
                            ),
                          ),
                        ),
                      ),
                    ),
                  ),
                ),
              ),
            ),
          ),
        ),
      ),
    ),
  ),
)

pub board_send : IsSend the_row
board_send = view_send _ _ _ _ _ (declared_send inside.the_type board_fields)
