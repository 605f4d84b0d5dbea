use Rattle.std.proofs.Common.{take}
use Rattle.held_output.specs.Chunks.{chunk_marks}
use Rattle.guest_streams.specs.GuestStreams.{GetsAll, sinks_of}
use Rattle.serial_run.proofs.serial.write_chunks.Given as goal

abbrev pub invariant-loop-chunk : goal.invariant-loop-chunk
invariant-loop-chunk g l =
    GetsAll
    (sinks_of g.O.Sink g.N.Sink l.fn.out l.fn.notes)
    (sinks_of g.O.Sink g.N.Sink l.out l.notes)
    (chunk_marks (take l.chunk-index l.chunk-items))
