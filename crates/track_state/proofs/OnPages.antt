-- What stays of a track's pages as it runs on
use Rattle.std.proofs.Common.{◌≡◌, ℕ, ◌/◌, ◌∙◌, Bool, true, false, List, [], Option, Some, None, nat_eq, refl, sym, ap, subst}
use Rattle.speculation.specs.declared.tracks.Kind.{Kind}
use Rattle.speculation.specs.declared.tracks.Kind.TheVariants.{Normal, Fast, Segment}
use Rattle.speculation.specs.Tracks.{meets}
use Rattle.guest_model.specs.Rv32.{rv32}
use Rattle.guest_model.specs.Step.{at_fast}
use Rattle.guest_model.specs.declared.end.End.{End}
use Rattle.rv32_law.proofs.Keeping.{SharesLayout-refl}
use Rattle.track_state.specs.declared.stop.Stop.TheVariants.{Boundary}
use Rattle.track_state.specs.Views.{TrackView, stop_by, is_at_boundary}
use Rattle.track_state.specs.Transitions.{IsAtBoundary}
use Rattle.guest_model.specs.MachineState.{MachineState}
use Rattle.guest_model.specs.declared.state.State.{State}
use Rattle.paged_image.specs.WriteSet.{has}
use Rattle.paged_image.specs.Image.{written_of}
use Rattle.paged_image.specs.declared.image.PagedImage.{PagedImage}
use Rattle.rv32_law.specs.GuestStates.{SharesLayout}
use Rattle.track_state.specs.Kept.{flat_state, KeepsStart}
use Rattle.track_state.specs.Progress.{KeepsPages}

pub KeepsPages-refl : (t : PagedImage) → KeepsPages t t
KeepsPages-refl t = record { stays = λ q h. h; outside = λ q h. refl }

unwritten : (b c : Bool) → (b ≡ true → c ≡ true) → c ≡ false → b ≡ false
unwritten true c f h = let t = f refl in absurd (cc)
unwritten false c f h = refl

pub KeepsPages-trans : (t u v : PagedImage) → KeepsPages t u → KeepsPages u v → KeepsPages t v
KeepsPages-trans t u v h k = record {
  stays = λ q w. k.stays q (h.stays q w);
  outside = λ q w. k.outside q w ∙ h.outside q (unwritten (has (written_of u) (q / 4096)) (has (written_of v) (q / 4096)) (k.stays q) w);
}

-- a start that was kept is kept on, where the layout stays
pub KeepsStart-more : (start : MachineState) (s t : State PagedImage) → KeepsStart start s → KeepsPages s.memory t.memory → SharesLayout start (flat_state t) → KeepsStart start t
KeepsStart-more start s t h k layout = record {
  outside = λ q w. k.outside q w ∙ h.outside q (unwritten (has (written_of s.memory) (q / 4096)) (has (written_of t.memory) (q / 4096)) (k.stays q) w);
  layout = layout;
}

-- a state keeps a start that it is
pub KeepsStart-same : (start : MachineState) (s : State PagedImage) → start ≡ flat_state s → KeepsStart start s
KeepsStart-same start s e = subst (λ (t : MachineState). KeepsStart t s) (sym e) (record { outside = λ q w. refl; layout = SharesLayout-refl (flat_state s) })

-- a start is kept by each state that is the same and has the same write set
pub KeepsStart-again : (start : MachineState) (s t : State PagedImage) → KeepsStart start s → flat_state t ≡ flat_state s → written_of t.memory ≡ written_of s.memory → KeepsStart start t
KeepsStart-again start s t h e w = record {
  outside = λ q u. ap (λ (m : MachineState). m.memory q) e ∙ h.outside q (ap (λ (ps : List ℕ). has ps (q / 4096)) (sym w) ∙ u);
  layout = subst (λ (m : MachineState). SharesLayout start m) (sym e) h.layout;
}

stop-at_boundary : (b : Bool) (e : Option End) (spent : Bool) → stop_by b e spent ≡ Some Boundary → b ≡ true
stop-at_boundary true e spent h = refl
stop-at_boundary false (Some e) spent h = absurd (cc)
stop-at_boundary false None true h = absurd (cc)
stop-at_boundary false None false h = absurd (cc)

meets-call : (kind : Kind) (own : ℕ) (s : MachineState) (e : Option End) → kind ≡ Segment → meets (rv32 []) kind own s e ≡ true → at_fast s ≡ true
meets-call Segment own s None k h = h
meets-call Segment own s (Some e) k h = absurd (cc)
meets-call Normal own s e k h = absurd (cc)
meets-call Fast own s e k h = absurd (cc)

-- a segment at its boundary stands at an opening call
pub opens-here : (t : TrackView) → IsAtBoundary Segment t → at_fast t.state ≡ true
opens-here t h = meets-call t.kind t.own t.state t.end h.kind (stop-at_boundary (is_at_boundary t) t.end (nat_eq t.own t.budget) h.stop)
