use Rattle.std.proofs.Common.{◌++◌, length}
use Rattle.std.proofs.lemmas.Result.{err_from_is_err_and}
use Rattle.sink_text.proofs.OnTexts.{TextSoFar-first, TextSoFar-next, TextSoFar-stops, TextSoFar-last}
use Rattle.job_listing.specs.Listing.{sizes_line, stream_text, outcome_line, ran_text}
use Rattle.job_listing.proofs.written.write_ran.Goals as goal

pub returns-in_err-write_made : goal.returns-in_err-write_made
returns-in_err-write_made g c =
    let p = err_from_is_err_and c.from_residual.result c.from_residual.ensures.1 in
    let end = c.args.end.now in
    let text = ran_text c.args.number end in
    let sizes = sizes_line c.args.number (length end.out) (length end.notes) in
    let rest = stream_text end.out ++ (stream_text end.notes ++ outcome_line end.outcome) in
    rw (p.1, p.2)
    (TextSoFar-stops (Unit {0}) (Unit {0}) _ _ _ _ _ _ text sizes rest c.in_err-write_made.field-0.0 (TextSoFar-first _ _ text) (c.in_err-write_made.ensures sizes c.sizes_text.ensures))

pub returns-in_err-write_stream : goal.returns-in_err-write_stream
returns-in_err-write_stream g c =
    let p = err_from_is_err_and c.from_residual-in_err-write_stream.result c.from_residual-in_err-write_stream.ensures.1 in
    let end = c.args.end.now in
    let text = ran_text c.args.number end in
    let sizes = sizes_line c.args.number (length end.out) (length end.notes) in
    let rest = stream_text end.notes ++ outcome_line end.outcome in
    let first = TextSoFar-next _ _ _ _ _ _ text sizes (stream_text end.out ++ rest) c.in_ok-write_made.field-0 (TextSoFar-first _ _ text) (c.in_ok-write_made.ensures sizes c.sizes_text.ensures) in
    rw (p.1, p.2)
    (TextSoFar-stops (Unit {0}) (Unit {0}) _ _ _ _ _ _ text (stream_text end.out) rest c.in_err-write_stream.field-0.0 first c.in_err-write_stream.ensures)

pub returns-in_err-write_stream-2 : goal.returns-in_err-write_stream-2
returns-in_err-write_stream-2 g c =
    let p = err_from_is_err_and c.from_residual-in_err-write_stream-2.result c.from_residual-in_err-write_stream-2.ensures.1 in
    let end = c.args.end.now in
    let text = ran_text c.args.number end in
    let sizes = sizes_line c.args.number (length end.out) (length end.notes) in
    let rest = stream_text end.notes ++ outcome_line end.outcome in
    let first = TextSoFar-next _ _ _ _ _ _ text sizes (stream_text end.out ++ rest) c.in_ok-write_made.field-0 (TextSoFar-first _ _ text) (c.in_ok-write_made.ensures sizes c.sizes_text.ensures) in
    let second = TextSoFar-next _ _ _ _ _ _ text (stream_text end.out) rest c.in_ok-write_stream.field-0 first c.in_ok-write_stream.ensures in
    rw (p.1, p.2)
    (TextSoFar-stops (Unit {0}) (Unit {0}) _ _ _ _ _ _ text (stream_text end.notes) (outcome_line end.outcome) c.in_err-write_stream-2.field-0.0 second c.in_err-write_stream-2.ensures)

pub returns : goal.returns
returns g c =
    let end = c.args.end.now in
    let text = ran_text c.args.number end in
    let sizes = sizes_line c.args.number (length end.out) (length end.notes) in
    let rest = stream_text end.notes ++ outcome_line end.outcome in
    let first = TextSoFar-next _ _ _ _ _ _ text sizes (stream_text end.out ++ rest) c.in_ok-write_made.field-0 (TextSoFar-first _ _ text) (c.in_ok-write_made.ensures sizes c.sizes_text.ensures) in
    let second = TextSoFar-next _ _ _ _ _ _ text (stream_text end.out) rest c.in_ok-write_stream.field-0 first c.in_ok-write_stream.ensures in
    let third = TextSoFar-next _ _ _ _ _ _ text (stream_text end.notes) (outcome_line end.outcome) c.in_ok-write_stream-2.field-0 second c.in_ok-write_stream-2.ensures in
    TextSoFar-last _ _ _ _ _ _ _ text (outcome_line end.outcome) c.write_made-2.result third (c.write_made-2.ensures (outcome_line end.outcome) c.outcome_text.ensures)
