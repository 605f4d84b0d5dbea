use Rattle.std.proofs.Common.{[], refl, arith}
use Rattle.seniority_queue.proofs.Linked.{IsLinked-none}
use Rattle.seniority_queue.proofs.queue.Queue.new.Goals as goal

pub invariant_of-result : goal.invariant_of-result
invariant_of-result g c = rw c.new.ensures.items record {
  live = [];
  vacant = [];
  linked = IsLinked-none;
  count = refl;
  named = omega arith;
  fits = omega arith;
}
