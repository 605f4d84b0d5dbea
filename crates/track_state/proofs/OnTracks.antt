-- What holds of all tracks
use Rattle.std.proofs.Common.{◌≡◌, ℕ, ◌<◌, ◌≤◌, Bool, true, false, cond, List, [], ◌∷◌, ◌++◌, length, Option, Some, None, unwrap_or, nat_le, suc, refl, sym, ap, ◌∙◌, append_assoc, arith}
use Rattle.std.specs.List.{All}
use Rattle.std.proofs.lemmas.Bool.{lt-leb, leb-false}
use Rattle.speculation.specs.declared.tracks.Kind.{Kind}
use Rattle.speculation.specs.declared.tracks.Kind.TheVariants.{Normal, Fast, Segment}
use Rattle.speculation.specs.declared.history.Settings.{Settings}
use Rattle.speculation.specs.Run.{Point, Piece}
use Rattle.speculation.specs.Tracks.{meets, first_from}
use Rattle.speculation.specs.Core.{at_boundary, most_slice}
use Rattle.speculation.specs.Events.{left_over, slice}
use Rattle.guest_model.specs.MachineState.{MachineState}
use Rattle.guest_model.specs.Rv32.{rv32}
use Rattle.guest_model.specs.declared.end.End.{End}
use Rattle.guest_model.specs.declared.state.State.{State}
use Rattle.held_output.specs.Held.{Rises, taken_upto}
use Rattle.paged_image.specs.declared.image.PagedImage.{PagedImage}
use Rattle.rv32_law.proofs.Keeping.{SharesLayout-sym, SharesLayout-trans}
use Rattle.track_state.specs.declared.track.Track.{Track}
use Rattle.track_state.specs.Kept.{flat_state, KeepsStart, AreComparable}
use Rattle.track_state.specs.Views.{TrackView, view_of, state_of, core_track, begun, is_at_boundary, IsTrack}
use Rattle.track_state.specs.Runs.{RunsOver, rests_after, run_length}
use Rattle.track_state.proofs.OnRuns.{new_pieces-none}
use Rattle.track_state.proofs.OnStarts.{start-point}

pub is_track : (t : Track) → IsTrack t
unfolding view_of state_of
is_track t = record { state = refl; kept = t.kept; call = t.call; within = t.within }

pub are_comparable : (start : MachineState) (a b : State PagedImage) → KeepsStart start a → KeepsStart start b → AreComparable a b
are_comparable start a b h k = record {
  outside = λ q u w. h.outside q u ∙ sym (k.outside q w);
  layout = SharesLayout-trans (flat_state a) start (flat_state b) (SharesLayout-sym start (flat_state a) h.layout) k.layout;
}

pub runs_begun : (input : List ℕ) (kind : Kind) (s : MachineState) (budget : ℕ) → s.place ≤ length input → RunsOver input (begun kind s budget)
runs_begun input kind s budget h = record {
  began = h;
  at = start-point input kind s;
  place = h;
  last = λ e is. absurd (cc);
  held = ([], sym (new_pieces-none input kind s 0));
}

pub runs_from : (input : List ℕ) (kind : Kind) (t : TrackView) → RunsOver input t → RunsOver input (begun kind t.state t.budget)
runs_from input kind t h = runs_begun input kind t.state t.budget h.place

none-taken : (limit n : ℕ) (ps : List Piece) → limit < n → All (λ p. n < p.number) ps → taken_upto limit ps ≡ []
none-taken limit n [] h k = refl
none-taken limit n (p ∷ ps) h k =
    ap (λ (b : Bool). cond b (p ∷ taken_upto limit ps) (taken_upto limit ps)) (lt-leb p.number limit (omega (arith, k 0 p (omega arith)))) ∙ none-taken limit n ps h (λ i d low. k (suc i) d (omega arith))

none-left : (limit n : ℕ) (ps : List Piece) → limit < n → All (λ p. n < p.number) ps → left_over limit ps ≡ ps
none-left limit n [] h k = refl
none-left limit n (p ∷ ps) h k =
    ap (λ (b : Bool). cond b (left_over limit ps) (p ∷ left_over limit ps)) (lt-leb p.number limit (omega (arith, k 0 p (omega arith))))
    ∙ ap (λ qs. p ∷ qs) (none-left limit n ps h (λ i d low. k (suc i) d (omega arith)))

parts-by : (limit : ℕ) (p : Piece) (ps : List Piece) → All (λ q. p.number < q.number) ps → taken_upto limit ps ++ left_over limit ps ≡ ps → (b : Bool) → nat_le p.number limit ≡ b
    → cond b (p ∷ taken_upto limit ps) (taken_upto limit ps) ++ cond b (left_over limit ps) (p ∷ left_over limit ps) ≡ p ∷ ps
parts-by limit p ps above rest true is = ap (λ qs. p ∷ qs) rest
parts-by limit p ps above rest false is =
    let low : limit < p.number = leb-false p.number limit is in
    ap (λ qs. qs ++ (p ∷ left_over limit ps)) (none-taken limit p.number ps low above) ∙ ap (λ qs. p ∷ qs) (none-left limit p.number ps low above)

-- pieces whose numbers rise are those up to a limit and the others
pub parts : (limit : ℕ) (ps : List Piece) → Rises ps → taken_upto limit ps ++ left_over limit ps ≡ ps
parts limit [] h = refl
parts limit (p ∷ ps) h = parts-by limit p ps h.0 (parts limit ps h.1) (nat_le p.number limit) refl

pub runs_left : (input : List ℕ) (limit : ℕ) (t : TrackView) → Rises t.held → RunsOver input t → RunsOver input (record t { held = left_over limit t.held })
runs_left input limit t rises h = record {
  began = h.began;
  at = h.at;
  place = h.place;
  last = λ e is. (let l = h.last e is in record { before = l.before; count = l.count; going = l.going });
  held = (h.held.0 ++ taken_upto limit t.held, append_assoc h.held.0 (taken_upto limit t.held) (left_over limit t.held) ∙ ap (λ ps. h.held.0 ++ ps) (parts limit t.held rises) ∙ h.held.1);
}

any-input : (input : List ℕ) (kind : Kind) (n : ℕ) (s : MachineState) (e : Option End) → meets (rv32 input) kind n s e ≡ meets (rv32 []) kind n s e
any-input input Normal n s None = refl
any-input input Fast n s None = refl
any-input input Segment n s None = refl
any-input input Normal n s (Some e) = refl
any-input input Fast n s (Some e) = refl
any-input input Segment n s (Some e) = refl

pub boundary_is : (input : List ℕ) (t : TrackView) → RunsOver input t → at_boundary (rv32 input) (core_track t) ≡ is_at_boundary t
boundary_is input t h = ap (λ (p : Point MachineState End). meets (rv32 input) t.kind t.own p.state p.end) h.at ∙ any-input input t.kind t.own t.state t.end

pub length_slice : (input : List ℕ) (b : Settings) (t : TrackView) → t.budget ≡ b.budget → run_length input t most_slice ≡ slice (rv32 input) b (core_track t)
unfolding run_length slice
length_slice input b t e = ap (λ (n : ℕ). unwrap_or (first_from (rests_after input (record t { budget = n })) 0 most_slice) most_slice) e
