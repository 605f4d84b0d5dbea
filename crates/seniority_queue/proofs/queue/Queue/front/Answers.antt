use Rattle.std.proofs.Common.{◌∙◌}
use Rattle.seniority_queue.proofs.Stood.{IsSound-stands}
use Rattle.seniority_queue.proofs.Seen.{front_among, inside_among, front_read}
use Rattle.seniority_queue.proofs.queue.Queue.front.Goals as goal

pub key_at-requires : goal.key_at-requires
key_at-requires g c = λ i is. rw c.deref.ensures.value (inside_among c.self.invariant i (front_among c.self.invariant i is))

pub returns-clause-key : goal.returns-clause-key
returns-clause-key g c = c.key_at.ensures ∙ rw c.deref.ensures.value (front_read c.self.invariant c.self.view_is)

pub returns-clause-sound : goal.returns-clause-sound
returns-clause-sound g c = IsSound-stands c.self.invariant c.self.view_is
