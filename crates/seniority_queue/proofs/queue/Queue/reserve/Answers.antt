use Rattle.std.proofs.Common.{◌≡◌, ◌+◌, ◌-◌, length, refl, ap, arith, length-append}
use Rattle.seniority_queue.proofs.Stood.{nodes_are, IsSound-stands}
use Rattle.seniority_queue.proofs.Leaves.{push_free-leaves}
use Rattle.seniority_queue.proofs.queue.Queue.reserve.Goals as goal

pub returns-in_err-reserve-clause-sound : goal.returns-in_err-reserve-clause-sound
returns-in_err-reserve-clause-sound g c = rw c.reserve.ensures.items (IsSound-stands c.self.invariant refl)

pub push_free-requires-clause-fits : goal.push_free-requires-clause-fits
push_free-requires-clause-fits g c =
    let left = c.loop-self.invariant.left in
    let live = ap length (nodes_are left.stands left.listing_is) in
    omega (arith, c.requires, left.stands.count, c.loop-self.self-inside.nodes.ok.0)

pub loop-self-preserved : goal.loop-self-preserved
loop-self-preserved g c =
    let s = c.loop-self.self-inside in
    let kept = c.loop-self.invariant in
    let longer = ap length c.push_free.ensures.nodes in
    let total = kept.left.stands.linked.total in
    let one_more : length c.push_free.new.nodes.items ≡ length s.nodes.items + 1 = simp length-append at longer in
    let spares : length c.push_free.new.nodes.items - s.len ≡ length s.nodes.items - s.len + 1 = omega (arith, one_more, total, kept.left.stands.count) in
    let live = ap length (nodes_are kept.left.stands kept.left.listing_is) in
    record {
      left = rw (spares, c.push_free.ensures.nodes, c.push_free.ensures.free, s.nodes.ok.0) (push_free-leaves kept.left.stands kept.left.listing_is _ refl refl (omega (arith, c.requires, live, kept.left.stands.count, s.nodes.ok.0)));
      within = omega arith;
      grown = omega arith;
      room = omega (arith, kept.room, c.push_free.ensures.capacity);
    }

pub returns-clause-sound : goal.returns-clause-sound
returns-clause-sound g c = IsSound-stands c.loop-self.invariant.left.stands refl
