use Rattle.std.proofs.Common.{[], ◌∷◌}
use Rattle.std.proofs.lemmas.Result.{err_from_is_err_and}
use Rattle.sink_text.proofs.OnTexts.{TextSoFar-first, TextSoFar-next, TextSoFar-stops, TextSoFar-last}
use Rattle.job_listing.specs.Listing.{stream_text}
use Rattle.job_listing.proofs.written.write_stream.Goals as goal

pub returns-in_err-write_bytes : goal.returns-in_err-write_bytes
returns-in_err-write_bytes g c =
    let p = err_from_is_err_and c.from_residual.result c.from_residual.ensures.1 in
    let text = stream_text c.as_slice.result.now in
    rw (← c.as_slice.ensures, p.1, p.2)
    (TextSoFar-stops (Unit {0}) (Unit {0}) _ _ _ _ _ _ text c.as_slice.result.now (10 ∷ []) c.in_err-write_bytes.field-0.0 (TextSoFar-first _ _ text) c.in_err-write_bytes.ensures)

pub returns : goal.returns
returns g c =
    let text = stream_text c.as_slice.result.now in
    let first = TextSoFar-next _ _ _ _ _ _ text c.as_slice.result.now (10 ∷ []) c.in_ok-write_bytes.field-0 (TextSoFar-first _ _ text) c.in_ok-write_bytes.ensures in
    rw (← c.as_slice.ensures) (TextSoFar-last _ _ _ _ _ _ _ text (10 ∷ []) c.write_text.result first c.write_text.ensures)
