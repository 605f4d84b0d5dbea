use Rattle.std.proofs.Common.{option_copied, ap, ◌∙◌}
use Rattle.seniority_queue.proofs.Stood.{IsSound-stands}
use Rattle.seniority_queue.proofs.Seen.{get_found}
use Rattle.seniority_queue.proofs.queue.Queue.get.Goals as goal

pub returns-in_err-find-clause-value : goal.returns-in_err-find-clause-value
returns-in_err-find-clause-value g c =
    ap option_copied c.from_residual.ensures
    ∙ rw c.in_err-find.was at (get_found c.self.invariant c.self.view_is c.args.key _ c.deref.ensures.value _ c.find.ensures)

pub returns-in_err-find-clause-sound : goal.returns-in_err-find-clause-sound
returns-in_err-find-clause-sound g c = IsSound-stands c.self.invariant c.self.view_is

pub returns-clause-value : goal.returns-clause-value
returns-clause-value g c =
    c.as_ref.ensures.value
    ∙ rw c.in_ok-find.was at (get_found c.self.invariant c.self.view_is c.args.key _ c.deref.ensures.value _ c.find.ensures)

pub returns-clause-sound : goal.returns-clause-sound
returns-clause-sound g c = IsSound-stands c.self.invariant c.self.view_is
