use Rattle.std.proofs.Common.{◌+◌, Some, refl, ap, arith}
use Rattle.seniority_queue.specs.Listing.{Listing, pushed}
use Rattle.seniority_queue.proofs.Stood.{IsSound-stands}
use Rattle.seniority_queue.proofs.Seen.{back_among, free_among, free_some, inside_among, inside_vacant}
use Rattle.seniority_queue.proofs.Gone.{IsGone-unmade}
use Rattle.seniority_queue.proofs.Leaves.{Leaves, push-leaves}
use Rattle.seniority_queue.proofs.queue.Queue.push_back.Given.{Over}
use Rattle.seniority_queue.proofs.queue.Queue.push_back.Goals.{After-link_after}
use Rattle.seniority_queue.proofs.queue.Queue.push_back.Goals as goal

pub occupy-index-requires-clause-free : goal.occupy-index-requires-clause-free
occupy-index-requires-clause-free g c = free_some c.self.invariant c.self.view_is c.requires.spare

pub occupy-index-requires-clause-inside : goal.occupy-index-requires-clause-inside
occupy-index-requires-clause-inside g c = λ i is. omega (arith, inside_vacant c.self.invariant i (free_among c.self.invariant i is), c.self.inside.nodes.ok.0)

pub link_after-requires : goal.link_after-requires
link_after-requires g c = λ i is.
    let s = c.self.invariant in
    omega (arith, inside_among s i (back_among s i is), c.occupy-index.ensures.nodes.size, c.occupy-index.new.nodes.ok.0)

left : (g : Over) (c : After-link_after g) → Leaves c.link_after.new.nodes.items c.link_after.new.front (Some c.occupy-index.result) c.occupy-index.new.free (c.self.inside.len + 1) (c.self.inside.made + 1) (pushed c.args.self.now (record { index = c.occupy-index.result; name = c.self.inside.made }) c.args.value)
left g c =
    rw (c.link_after.ensures.front, c.occupy-index.ensures.free)
    (push-leaves c.self.invariant c.self.view_is _ _ c.occupy-index.result _ _ c.args.value refl refl c.occupy-index.ensures.index c.occupy-index.ensures.nodes c.link_after.ensures.nodes)

pub invariant_of-self : goal.invariant_of-self
invariant_of-self g c = (left g (goal.at.invariant_of-self g c).After-link_after).stands

pub returns-clause-pushed : goal.returns-clause-pushed
returns-clause-pushed g c = (left g (goal.at.returns-clause-pushed g c).After-link_after).listing_is

pub returns-clause-sound : goal.returns-clause-sound
returns-clause-sound g c = IsSound-stands (left g (goal.at.returns-clause-sound g c).After-link_after).stands refl

pub returns-clause-fresh : goal.returns-clause-fresh
returns-clause-fresh g c = IsGone-unmade c.args.self.now _ (IsSound-stands c.self.invariant c.self.view_is) (ap (λ (q : Listing g.row.T.Denot). q.made) c.self.view_is)
