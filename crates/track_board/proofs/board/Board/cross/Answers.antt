use Rattle.std.proofs.Common.{◌≡◌, ◌+◌, ◌≤◌, false, Some, vec_len, vec_capacity, sym, subst, arith}
use Rattle.track_board.specs.declared.board.Board.TheInside.{Inside}
use Rattle.track_board.specs.declared.due.Due.TheVariants.{Cross}
use Rattle.track_board.specs.Value.{Posted}
use Rattle.track_board.specs.Settles.{IsDue, due_of}
use Rattle.track_board.specs.Invariant.{view_of_board}
use Rattle.track_board.proofs.Crosses.{cross-closes, cross-name, cross-pushed, cross-view, cross-stands}
use Rattle.track_board.proofs.board.Board.cross.Goals as goal

pub cross_lead-requires : goal.cross_lead-requires
cross_lead-requires c =
    let i = c.self.inside in
    let d : IsDue (Some Cross) (due_of (view_of_board i)) = subst (λ (v : Posted). IsDue (Some Cross) (due_of v)) (sym c.self.view_is) c.requires in
    cross-closes i c.self.invariant.0 c.self.invariant.1 d

pub invariant_of-self-2 : goal.invariant_of-self-2
invariant_of-self-2 c =
    let i = c.self.inside in
    let k = c.self.invariant.0 in
    let h = c.self.invariant.1 in
    let d : IsDue (Some Cross) (due_of (view_of_board i)) = subst (λ (v : Posted). IsDue (Some Cross) (due_of v)) (sym c.self.view_is) c.requires in
    let j : Inside = record i { entries = c.push_reserved.new.self; lead = c.cross_lead.new.lead; regions = c.close_youngest.new.regions } in
    let len : vec_len j.entries ≡ vec_len i.entries + 1 = omega (arith, c.push_reserved.ensures.len, c.reserve.ensures.len) in
    let capacity : vec_capacity i.entries ≤ vec_capacity j.entries = omega (arith, c.push_reserved.ensures.capacity, c.reserve.ensures.capacity) in
    let room : vec_len i.entries + (vec_len i.loans + 2) ≤ vec_capacity j.entries =
    omega (arith, c.in_ok-reserve.ensures.ok, c.reserve.ensures.len, c.len.ensures, c.push_reserved.ensures.capacity) in
    let pushed = cross-pushed i k h d j c.reserve.new.self.items (record { generation = i.generation; region = i.last; normal = false }) c.push_reserved.ensures.items c.reserve.ensures.items (cross-name i k h d) len capacity in
    (_, cross-stands i k h d j c.in_ok-crossed.crossed pushed c.in_ok-crossed.ensures c.close_youngest.ensures room)

pub returns : goal.returns
returns c =
    let i = c.self.inside in
    let k = c.self.invariant.0 in
    let h = c.self.invariant.1 in
    let d : IsDue (Some Cross) (due_of (view_of_board i)) = subst (λ (v : Posted). IsDue (Some Cross) (due_of v)) (sym c.self.view_is) c.requires in
    let j : Inside = record i { entries = c.push_reserved.new.self; lead = c.cross_lead.new.lead; regions = c.close_youngest.new.regions } in
    let len : vec_len j.entries ≡ vec_len i.entries + 1 = omega (arith, c.push_reserved.ensures.len, c.reserve.ensures.len) in
    let capacity : vec_capacity i.entries ≤ vec_capacity j.entries = omega (arith, c.push_reserved.ensures.capacity, c.reserve.ensures.capacity) in
    let pushed = cross-pushed i k h d j c.reserve.new.self.items (record { generation = i.generation; region = i.last; normal = false }) c.push_reserved.ensures.items c.reserve.ensures.items (cross-name i k h d) len capacity in
    cross-view i k h d j c.args.self.now pushed c.self.view_is
