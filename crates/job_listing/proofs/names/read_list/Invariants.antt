use Rattle.std.proofs.Common.{◌≤◌, length, map, string_bytes, vec_len}
use Rattle.job_listing.proofs.OnReading.{IsRead}
use Rattle.job_listing.proofs.names.read_list.Given as goal

abbrev pub invariant-loop-rest : goal.invariant-loop-rest
invariant-loop-rest l = record {
  short : length l.list ≤ 4096;
  few : vec_len l.names ≤ 16;
  read : IsRead l.list (map string_bytes l.names.items) l.rest;
}

abbrev pub decreases-loop-rest : goal.decreases-loop-rest
decreases-loop-rest l = length l.rest
