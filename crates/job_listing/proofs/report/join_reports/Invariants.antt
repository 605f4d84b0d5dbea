use Rattle.std.proofs.Common.{◌≡◌, ◌++◌, drop}
use Rattle.std.specs.Vec.Iter.{into_iter_items}
use Rattle.job_listing.specs.Listing.{merged}
use Rattle.job_listing.proofs.report.join_reports.Given as goal

abbrev pub invariant-loop-start : goal.invariant-loop-start
invariant-loop-start l = l.reports.items ++ merged (drop l.start-index l.starts) (into_iter_items l.ends) ≡ merged l.starts l.fn.ends
