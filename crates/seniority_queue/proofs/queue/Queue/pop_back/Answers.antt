use Rattle.std.proofs.Common.{◌-◌, take, length, refl, ◌∙◌, arith}
use Rattle.seniority_queue.specs.Listing.{keeping}
use Rattle.seniority_queue.proofs.Nodes.{before_at-read}
use Rattle.seniority_queue.proofs.Stood.{IsSound-stands}
use Rattle.seniority_queue.proofs.Seen.{back_among, inside_among, before_among, holds_among}
use Rattle.seniority_queue.proofs.Leaves.{Leaves, pop_back-leaves}
use Rattle.seniority_queue.proofs.queue.Queue.pop_back.Given.{Over}
use Rattle.seniority_queue.proofs.queue.Queue.pop_back.Goals.{After-vacate}
use Rattle.seniority_queue.proofs.queue.Queue.pop_back.Goals as goal

pub returns-in_err-index-clause-sound : goal.returns-in_err-index-clause-sound
returns-in_err-index-clause-sound g c = IsSound-stands c.self.invariant c.self.view_is

pub index-requires : goal.index-requires
index-requires g c =
    let s = c.self.invariant in
    omega (arith, inside_among s c.in_ok-index.index (back_among s c.in_ok-index.index c.in_ok-index.was), c.self.inside.nodes.ok.0)

pub link_after-requires : goal.link_after-requires
link_after-requires g c = λ i is.
    let s = c.self.invariant in
    let at = back_among s c.in_ok-index.index c.in_ok-index.was in
    let leads = before_at-read _ _ _ (inside_among s c.in_ok-index.index at) c.index.ensures in
    omega (arith, before_among s c.in_ok-index.index i at (leads ∙ is), c.self.inside.nodes.ok.0)

pub vacate-requires-clause-inside : goal.vacate-requires-clause-inside
vacate-requires-clause-inside g c =
    let s = c.self.invariant in
    let within = inside_among s c.in_ok-index.index (back_among s c.in_ok-index.index c.in_ok-index.was) in
    omega (arith, within, c.link_after.ensures.nodes.size, c.link_after.new.nodes.ok.0)

pub vacate-requires-clause-live : goal.vacate-requires-clause-live
vacate-requires-clause-live g c =
    let s = c.self.invariant in
    rw c.link_after.ensures.nodes.live (holds_among s c.in_ok-index.index (back_among s c.in_ok-index.index c.in_ok-index.was))

popped : (g : Over) (c : After-vacate g) → Leaves c.vacate.new.nodes.items c.link_after.new.front c.index.result.now.before c.vacate.new.free (c.self.inside.len - 1) c.self.inside.made (keeping c.args.self.now (take (length c.args.self.now.nodes - 1) c.args.self.now.nodes))
popped g c =
    let s = c.self.invariant in
    let within = inside_among s c.in_ok-index.index (back_among s c.in_ok-index.index c.in_ok-index.was) in
    let leads = before_at-read _ _ _ within c.index.ensures in
    rw (c.link_after.ensures.front, c.vacate.ensures.free)
    (pop_back-leaves s c.self.view_is _ _ c.in_ok-index.index _ _ c.in_ok-index.was leads c.link_after.ensures.nodes c.vacate.ensures.nodes)

pub invariant_of-self : goal.invariant_of-self
invariant_of-self g c = (popped g c).stands

pub returns-clause-popped : goal.returns-clause-popped
returns-clause-popped g c = (popped g c).listing_is

pub returns-clause-sound : goal.returns-clause-sound
returns-clause-sound g c = IsSound-stands (popped g c).stands refl
