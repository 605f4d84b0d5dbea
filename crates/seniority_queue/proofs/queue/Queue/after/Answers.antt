use Rattle.std.proofs.Common.{◌∙◌}
use Rattle.seniority_queue.proofs.Stood.{IsSound-stands}
use Rattle.seniority_queue.proofs.Seen.{after_found, after_inside}
use Rattle.seniority_queue.proofs.queue.Queue.after.Goals as goal

pub returns-in_err-node-clause-key : goal.returns-in_err-node-clause-key
returns-in_err-node-clause-key g c =
    c.from_residual.ensures
    ∙ rw c.in_err-node.was at (after_found c.self.invariant c.self.view_is c.args.key _ c.deref.ensures.value _ c.find.ensures)

pub returns-in_err-node-clause-sound : goal.returns-in_err-node-clause-sound
returns-in_err-node-clause-sound g c = IsSound-stands c.self.invariant c.self.view_is

pub key_at-requires : goal.key_at-requires
key_at-requires g c = λ i leads.
    rw c.deref-2.ensures.value
    (after_inside c.self.invariant c.self.view_is c.args.key _ c.deref.ensures.value _ (rw c.in_ok-node.was at c.find.ensures) i leads)

pub returns-clause-key : goal.returns-clause-key
returns-clause-key g c =
    c.key_at.ensures
    ∙ rw (c.deref-2.ensures.value, ← c.deref.ensures.value) (rw c.in_ok-node.was at (after_found c.self.invariant c.self.view_is c.args.key _ c.deref.ensures.value _ c.find.ensures))

pub returns-clause-sound : goal.returns-clause-sound
returns-clause-sound g c = IsSound-stands c.self.invariant c.self.view_is
