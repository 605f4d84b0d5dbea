use Rattle.std.proofs.Common.{◌*◌, ◌-◌, List, map, ap, arith}
use Rattle.std.proofs.lemmas.List.{length-map}
use Rattle.guest_model.specs.MachineState.{MachineState}
use Rattle.track_state.specs.Kept.{flat_state}
use Rattle.time_points.specs.Points.{view_of}
use Rattle.time_points.proofs.OnPoints.{IsLastPoint, last-point, point-place, point-count, point-view, same-states}
use Rattle.time_points.proofs.OnSaved.{saved-some}
use Rattle.time_points.proofs.OnViews.{count-within}
use Rattle.time_points.proofs.points.Points.at.Goals as goal

pub point_before-point-requires : goal.point_before-point-requires
unfolding view_of
point_before-point-requires g c =
    omega (
      arith,
      length-map c.args.self.now.saved.items flat_state,
      saved-some c.args.input.now (flat_state c.args.self.now.start.value) c.args.self.now.every c.args.self.now.greatest (map flat_state c.args.self.now.saved.items) c.requires.points,
    )

pub returns-in_err-saved-clause-same : goal.returns-in_err-saved-clause-same
unfolding view_of
returns-in_err-saved-clause-same g c =
    ap (λ (ss : List MachineState). record (view_of c.args.self.now) { saved = ss })
    (same-states c.args.self.now.saved.items c.point_before-point.result c.index_mut.result.now c.snapshot_of.new.state c.index_mut.ensures.value c.snapshot_of.ensures.same)

pub returns-in_err-view-clause-same : goal.returns-in_err-view-clause-same
unfolding view_of
returns-in_err-view-clause-same g c =
    ap (λ (ss : List MachineState). record (view_of c.args.self.now) { saved = ss })
    (same-states c.args.self.now.saved.items c.point_before-point.result c.index_mut.result.now c.snapshot_of.new.state c.index_mut.ensures.value c.snapshot_of.ensures.same)

pub returns-clause-same : goal.returns-clause-same
unfolding view_of
returns-clause-same g c =
    ap (λ (ss : List MachineState). record (view_of c.args.self.now) { saved = ss })
    (same-states c.args.self.now.saved.items c.point_before-point.result c.index_mut.result.now c.snapshot_of.new.state c.index_mut.ensures.value c.snapshot_of.ensures.same)

pub of-requires-clause-place : goal.of-requires-clause-place
unfolding view_of
of-requires-clause-place g c =
    let last : IsLastPoint c.args.input.now (flat_state c.args.self.now.start.value) c.args.self.now.every c.args.self.now.greatest c.args.count (map flat_state c.args.self.now.saved.items) c.point_before-point.result (flat_state c.in_ok-saved.saved)
    = last-point c.args.input.now (flat_state c.args.self.now.start.value) c.args.self.now.every c.args.self.now.greatest c.args.count c.args.self.now.saved c.point_before-point.result c.index_mut.result.now c.in_ok-saved.saved
    c.requires.points c.point_before-point.ensures.saved c.index_mut.ensures.value c.in_ok-saved.ensures.snapshot c.requires.within c.point_before-point.ensures.before c.point_before-point.ensures.last in
    point-place c.args.input.now (flat_state c.args.self.now.start.value) c.args.self.now.every c.args.self.now.greatest c.args.count (map flat_state c.args.self.now.saved.items) c.point_before-point.result (flat_state c.in_ok-saved.saved) last

pub of-requires-clause-room : goal.of-requires-clause-room
unfolding view_of
of-requires-clause-room g c =
    let last : IsLastPoint c.args.input.now (flat_state c.args.self.now.start.value) c.args.self.now.every c.args.self.now.greatest c.args.count (map flat_state c.args.self.now.saved.items) c.point_before-point.result (flat_state c.in_ok-saved.saved)
    = last-point c.args.input.now (flat_state c.args.self.now.start.value) c.args.self.now.every c.args.self.now.greatest c.args.count c.args.self.now.saved c.point_before-point.result c.index_mut.result.now c.in_ok-saved.saved
    c.requires.points c.point_before-point.ensures.saved c.index_mut.ensures.value c.in_ok-saved.ensures.snapshot c.requires.within c.point_before-point.ensures.before c.point_before-point.ensures.last in
    omega (arith, point-count c.args.input.now (flat_state c.args.self.now.start.value) c.args.self.now.every c.args.self.now.greatest c.args.count (map flat_state c.args.self.now.saved.items) c.point_before-point.result (flat_state c.in_ok-saved.saved) last, c.requires.room)

pub returns-in_err-view-clause-steps : goal.returns-in_err-view-clause-steps
unfolding view_of
returns-in_err-view-clause-steps g c =
    let last : IsLastPoint c.args.input.now (flat_state c.args.self.now.start.value) c.args.self.now.every c.args.self.now.greatest c.args.count (map flat_state c.args.self.now.saved.items) c.point_before-point.result (flat_state c.in_ok-saved.saved)
    = last-point c.args.input.now (flat_state c.args.self.now.start.value) c.args.self.now.every c.args.self.now.greatest c.args.count c.args.self.now.saved c.point_before-point.result c.index_mut.result.now c.in_ok-saved.saved
    c.requires.points c.point_before-point.ensures.saved c.index_mut.ensures.value c.in_ok-saved.ensures.snapshot c.requires.within c.point_before-point.ensures.before c.point_before-point.ensures.last in
    omega (arith, point-count c.args.input.now (flat_state c.args.self.now.start.value) c.args.self.now.every c.args.self.now.greatest c.args.count (map flat_state c.args.self.now.saved.items) c.point_before-point.result (flat_state c.in_ok-saved.saved) last, c.in_err-view.ensures.steps)

pub overflow_add-result : goal.overflow_add-result
unfolding view_of
overflow_add-result g c =
    omega (arith, count-within c.args.input.now (flat_state c.in_ok-saved.saved) (c.args.count - c.point_before-point.result * c.args.self.now.every), c.in_ok-view.ensures.view.taken, c.point_before-point.ensures.before, c.ranges.count.fits)

pub returns-clause-view : goal.returns-clause-view
unfolding view_of
returns-clause-view g c =
    let last : IsLastPoint c.args.input.now (flat_state c.args.self.now.start.value) c.args.self.now.every c.args.self.now.greatest c.args.count (map flat_state c.args.self.now.saved.items) c.point_before-point.result (flat_state c.in_ok-saved.saved)
    = last-point c.args.input.now (flat_state c.args.self.now.start.value) c.args.self.now.every c.args.self.now.greatest c.args.count c.args.self.now.saved c.point_before-point.result c.index_mut.result.now c.in_ok-saved.saved
    c.requires.points c.point_before-point.ensures.saved c.index_mut.ensures.value c.in_ok-saved.ensures.snapshot c.requires.within c.point_before-point.ensures.before c.point_before-point.ensures.last in
    point-view c.args.input.now (flat_state c.args.self.now.start.value) c.args.self.now.every c.args.self.now.greatest c.args.count (map flat_state c.args.self.now.saved.items) c.point_before-point.result (flat_state c.in_ok-saved.saved) last c.in_ok-view.view.state c.in_ok-view.view.taken c.in_ok-view.view.end c.in_ok-view.ensures.view

pub returns-clause-steps : goal.returns-clause-steps
unfolding view_of
returns-clause-steps g c =
    let last : IsLastPoint c.args.input.now (flat_state c.args.self.now.start.value) c.args.self.now.every c.args.self.now.greatest c.args.count (map flat_state c.args.self.now.saved.items) c.point_before-point.result (flat_state c.in_ok-saved.saved)
    = last-point c.args.input.now (flat_state c.args.self.now.start.value) c.args.self.now.every c.args.self.now.greatest c.args.count c.args.self.now.saved c.point_before-point.result c.index_mut.result.now c.in_ok-saved.saved
    c.requires.points c.point_before-point.ensures.saved c.index_mut.ensures.value c.in_ok-saved.ensures.snapshot c.requires.within c.point_before-point.ensures.before c.point_before-point.ensures.last in
    omega (arith, point-count c.args.input.now (flat_state c.args.self.now.start.value) c.args.self.now.every c.args.self.now.greatest c.args.count (map flat_state c.args.self.now.saved.items) c.point_before-point.result (flat_state c.in_ok-saved.saved) last, c.in_ok-view.ensures.steps)
