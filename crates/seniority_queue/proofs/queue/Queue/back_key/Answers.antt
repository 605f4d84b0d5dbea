use Rattle.std.proofs.Common.{◌∙◌}
use Rattle.seniority_queue.proofs.Stood.{IsSound-stands}
use Rattle.seniority_queue.proofs.Seen.{back_among, inside_among, back_read}
use Rattle.seniority_queue.proofs.queue.Queue.back_key.Goals as goal

pub key_at-requires : goal.key_at-requires
key_at-requires g c = λ i is. rw c.deref.ensures.value (inside_among c.self.invariant i (back_among c.self.invariant i is))

pub returns-clause-key : goal.returns-clause-key
returns-clause-key g c = c.key_at.ensures ∙ rw c.deref.ensures.value (back_read c.self.invariant c.self.view_is)

pub returns-clause-sound : goal.returns-clause-sound
returns-clause-sound g c = IsSound-stands c.self.invariant c.self.view_is
