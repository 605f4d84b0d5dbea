use Rattle.std.proofs.Common.{◌≡◌, ◌-◌, drop, slice_get, Some, option_map, IfSome, refl, sym, ap, subst, ◌∙◌, arith}
use Rattle.seniority_queue.specs.Listing.{Listing, keeping, first_key, IsGone}
use Rattle.seniority_queue.specs.Node.{key_of}
use Rattle.seniority_queue.proofs.Nodes.{after_at-read}
use Rattle.seniority_queue.proofs.Stood.{IsSound-stands}
use Rattle.seniority_queue.proofs.Seen.{front_among, inside_among, after_among, holds_among, front_read}
use Rattle.seniority_queue.proofs.Gone.{IsGone-drop}
use Rattle.seniority_queue.proofs.Leaves.{Leaves, pop_front-leaves}
use Rattle.seniority_queue.proofs.queue.Queue.pop_front.Given.{Over}
use Rattle.seniority_queue.proofs.queue.Queue.pop_front.Goals.{After-vacate}
use Rattle.seniority_queue.proofs.queue.Queue.pop_front.Goals as goal

pub returns-in_err-index-clause-sound : goal.returns-in_err-index-clause-sound
returns-in_err-index-clause-sound g c = IsSound-stands c.self.invariant c.self.view_is

pub index-requires : goal.index-requires
index-requires g c =
    let s = c.self.invariant in
    omega (arith, inside_among s c.in_ok-index.index (front_among s c.in_ok-index.index c.in_ok-index.was), c.self.inside.nodes.ok.0)

pub link_before-requires : goal.link_before-requires
link_before-requires g c = λ i is.
    let s = c.self.invariant in
    let at = front_among s c.in_ok-index.index c.in_ok-index.was in
    let leads = after_at-read _ _ _ (inside_among s c.in_ok-index.index at) c.index.ensures in
    omega (arith, after_among s c.in_ok-index.index i at (leads ∙ is), c.self.inside.nodes.ok.0)

pub vacate-requires-clause-inside : goal.vacate-requires-clause-inside
vacate-requires-clause-inside g c =
    let s = c.self.invariant in
    let within = inside_among s c.in_ok-index.index (front_among s c.in_ok-index.index c.in_ok-index.was) in
    omega (arith, within, c.link_before.ensures.nodes.size, c.link_before.new.nodes.ok.0)

pub vacate-requires-clause-live : goal.vacate-requires-clause-live
vacate-requires-clause-live g c =
    let s = c.self.invariant in
    rw c.link_before.ensures.nodes.live (holds_among s c.in_ok-index.index (front_among s c.in_ok-index.index c.in_ok-index.was))

popped : (g : Over) (c : After-vacate g) → Leaves c.vacate.new.nodes.items c.index.result.now.after c.link_before.new.back c.vacate.new.free (c.self.inside.len - 1) c.self.inside.made (keeping c.args.self.now (drop 1 c.args.self.now.nodes)) × (Some c.vacate.result ≡ option_map (λ n. n.value) (slice_get c.args.self.now.nodes 0))
popped g c =
    let s = c.self.invariant in
    let within = inside_among s c.in_ok-index.index (front_among s c.in_ok-index.index c.in_ok-index.was) in
    let leads = after_at-read _ _ _ within c.index.ensures in
    rw (c.link_before.ensures.back, c.vacate.ensures.free)
    (pop_front-leaves s c.self.view_is _ _ c.in_ok-index.index _ _ c.in_ok-index.was leads c.link_before.ensures.nodes c.vacate.ensures.nodes)

pub invariant_of-self : goal.invariant_of-self
invariant_of-self g c = (popped g c).0.stands

pub returns-clause-value : goal.returns-clause-value
returns-clause-value g c = (popped g c).1

pub returns-clause-popped : goal.returns-clause-popped
returns-clause-popped g c = (popped g c).0.listing_is

pub returns-clause-sound : goal.returns-clause-sound
returns-clause-sound g c = IsSound-stands (popped g c).0.stands refl

pub returns-in_err-index-clause-gone : goal.returns-in_err-index-clause-gone
returns-in_err-index-clause-gone g c =
    let none = sym (front_read c.self.invariant c.self.view_is) ∙ ap (option_map (key_of c.self.inside.nodes.items)) c.in_err-index.was in
    rw none tt

pub returns-clause-gone : goal.returns-clause-gone
returns-clause-gone g c =
    let P : Listing g.row.T.Denot → Type 0 = λ q. IfSome (first_key c.args.self.now.nodes) (IsGone q) in
    subst P (sym (popped g c).0.listing_is) (IsGone-drop c.args.self.now.nodes (IsSound-stands c.self.invariant c.self.view_is).indices_apart)
