use Rattle.std.proofs.Common.{drop}
use Rattle.sink_text.proofs.OnTexts.{TextSoFar}
use Rattle.job_listing.specs.Listing.{jobs_text, texts_from}
use Rattle.job_listing.proofs.written.write_jobs.Given as goal

abbrev pub invariant-loop-number : goal.invariant-loop-number
invariant-loop-number g l =
    TextSoFar (g.O.Sink.contents l.fn.out) (g.O.Sink.contents l.out) (g.O.Sink.faults l.fn.out) (g.O.Sink.faults l.out) (jobs_text l.reports) (texts_from l.number (drop l.number l.reports))
