use Rattle.std.proofs.Common.{◌-◌, ◌≤◌, length}
use Rattle.state_listing.specs.Counts.{BeginsWith}
use Rattle.state_listing.proofs.counts.read_lines.Given as goal

abbrev pub invariant-loop-rest : goal.invariant-loop-rest
invariant-loop-rest l = record {
  begins : BeginsWith l.text l.requests.items l.rest;
  few : length l.requests.items ≤ 1024;
}

abbrev pub decreases-loop-rest : goal.decreases-loop-rest
decreases-loop-rest l = 1024 - length l.requests.items
