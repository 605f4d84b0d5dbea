use Rattle.std.proofs.Common.{◌≡◌, is_some, sym, ◌∙◌}
use Rattle.seniority_queue.specs.Listing.{get}
use Rattle.seniority_queue.proofs.Stood.{IsSound-stands}
use Rattle.seniority_queue.proofs.Seen.{live_found, is_some-map}
use Rattle.seniority_queue.proofs.queue.Queue.is_live.Goals as goal

pub returns-clause-live : goal.returns-clause-live
returns-clause-live g c =
    let tells : c.is_some.result ≡ is_some (get c.args.self.now c.args.key) =
    c.is_some.ensures ∙ sym (is_some-map _ c.find.result) ∙ live_found c.self.invariant c.self.view_is c.args.key _ c.deref.ensures.value _ c.find.ensures in
    (λ yes. sym tells ∙ yes, λ live. tells ∙ live)

pub returns-clause-sound : goal.returns-clause-sound
returns-clause-sound g c = IsSound-stands c.self.invariant c.self.view_is
