use Rattle.std.proofs.Common.{length, sym, ap, ◌∙◌}
use Rattle.seniority_queue.proofs.Stood.{nodes_are, IsSound-stands}
use Rattle.seniority_queue.proofs.queue.Queue.len.Goals as goal

pub returns-clause-count : goal.returns-clause-count
returns-clause-count g c = c.self.invariant.count ∙ ap length (sym (nodes_are c.self.invariant c.self.view_is))

pub returns-clause-sound : goal.returns-clause-sound
returns-clause-sound g c = IsSound-stands c.self.invariant c.self.view_is
