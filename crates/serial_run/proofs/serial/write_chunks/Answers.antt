use Rattle.std.proofs.lemmas.Result.{err_from_is_err_and}
use Rattle.serial_run.proofs.OnChunks.{chunks-more, chunks-short}
use Rattle.serial_run.proofs.serial.write_chunks.Goals as goal

pub loop-chunk-preserved : goal.loop-chunk-preserved
loop-chunk-preserved g c =
    chunks-more c.as_slice-chunk-items.result.now c.loop-chunk.chunk-index c.chunk-item.result c.loop-chunk-test.true c.chunk-item.is c.as_slice.result.now c.as_slice.ensures _ _ _ c.loop-chunk.invariant c.in_ok-write_piece.ensures

pub returns-in_err-write_piece : goal.returns-in_err-write_piece
returns-in_err-write_piece g c =
    let failed = err_from_is_err_and c.from_residual.result c.from_residual.ensures.1 in
    rw (failed.1, ← c.as_slice-chunk-items.ensures.bytes)
    (chunks-short c.as_slice-chunk-items.result.now c.loop-chunk.chunk-index c.chunk-item.result c.loop-chunk-test.true c.chunk-item.is c.as_slice.result.now c.as_slice.ensures _ _ _ c.loop-chunk.invariant c.in_err-write_piece.ensures)
