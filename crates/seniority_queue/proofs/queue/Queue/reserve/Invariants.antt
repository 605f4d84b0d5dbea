use Rattle.std.proofs.Common.{◌+◌, ◌-◌, ◌≤◌, length, max, vec_capacity}
use Rattle.seniority_queue.proofs.Leaves.{Leaves}
use Rattle.seniority_queue.proofs.queue.Queue.reserve.Given as goal

abbrev pub invariant-loop-self : goal.invariant-loop-self
invariant-loop-self g l = record {
  left : Leaves l.self-inside.nodes.items l.self-inside.front l.self-inside.back l.self-inside.free l.self-inside.len l.self-inside.made (record l.fn.self { spare = length l.self-inside.nodes.items - l.self-inside.len });
  within : length l.self-inside.nodes.items - l.self-inside.len ≤ max l.fn.self.spare l.wanted;
  grown : l.fn.self.spare ≤ length l.self-inside.nodes.items - l.self-inside.len;
  room : l.self-inside.len + l.wanted ≤ vec_capacity l.self-inside.nodes;
}

abbrev pub decreases-loop-self : goal.decreases-loop-self
decreases-loop-self g l = l.wanted - (length l.self-inside.nodes.items - l.self-inside.len)
