-- The pieces of a run rise, and so do those that a track holds.
use Rattle.std.proofs.Common.{ℕ, zero, suc, ◌+◌, ◌<◌, List, [], ◌∷◌, ◌++◌, Option, Some, None, sym, subst, arith}
use Rattle.std.specs.Prelude.{All}
use Rattle.std.proofs.lemmas.List.Elements.{All-nil, All-cons, All-append}
use Rattle.speculation.specs.declared.tracks.Kind.{Kind}
use Rattle.speculation.specs.declared.tracks.Kind.TheVariants.{Normal, Fast, Segment}
use Rattle.speculation.specs.Machine.{Machine, Stepped, Next, Ends}
use Rattle.speculation.specs.Run.{Piece, Point, go, piece_of, wrote, pieces}
use Rattle.speculation.specs.Tracks.{point}
use Rattle.speculation.specs.Events.{new_pieces}
use Rattle.guest_model.specs.MachineState.{MachineState}
use Rattle.guest_model.specs.Rv32.{rv32}
use Rattle.held_output.specs.Held.{Rises}
use Rattle.speculation_law.specs.Sound.{Numbered}
use Rattle.speculation_law.proofs.Pieces.{numbered-pieces}
use Rattle.track_state.specs.Views.{TrackView}
use Rattle.track_state.specs.Runs.{RunsOver}

-- pieces up to a number, and others above it
rises-append : (n low : ℕ) (ps qs : List Piece) → Numbered low n ps → All (λ q. n < q.number) qs → Rises ps → Rises qs → Rises (ps ++ qs)
rises-append n low [] qs numbered above h k = k
rises-append n low (p ∷ ps) qs numbered above h k =
    (All-append (λ q. p.number < q.number) ps qs h.0 (λ i d within. (let high = above i d within in let here = numbered.1 in omega arith)), rises-append n low ps qs numbered.2 above h.1 k)

rises-end : (ps qs : List Piece) → Rises (ps ++ qs) → Rises qs
rises-end [] qs h = h
rises-end (p ∷ ps) qs h = rises-end ps qs h.1

module _ {S E D : Type 0} (m : Machine S E D) where
  piece-rises : (k : ℕ) (w : Stepped S E) → Rises (piece_of k w)
  piece-rises k (Next t stream []) = tt
  piece-rises k (Next t stream (b ∷ bs)) = (All-nil (λ (q : Piece). k < q.number), tt)
  piece-rises k (Ends e) = tt

  wrote-rises : (k : ℕ) (s : S) (o : Option E) → Rises (wrote m k s o)
  wrote-rises k s (Some e) = tt
  wrote-rises k s None = piece-rises k (m.step s)

  piece-above : (k : ℕ) (w : Stepped S E) → All (λ q. k < q.number) (piece_of (suc k) w)
  piece-above k (Next t stream []) = All-nil (λ (q : Piece). k < q.number)
  piece-above k (Next t stream (b ∷ bs)) = All-cons (λ (q : Piece). k < q.number) (record { number = suc k; stream = stream; bytes = b ∷ bs }) [] (omega arith) (All-nil (λ (q : Piece). k < q.number))
  piece-above k (Ends e) = All-nil (λ (q : Piece). k < q.number)

  wrote-above : (k : ℕ) (s : S) (o : Option E) → All (λ q. k < q.number) (wrote m (suc k) s o)
  wrote-above k s (Some e) = All-nil (λ (q : Piece). k < q.number)
  wrote-above k s None = piece-above k (m.step s)

  pub pieces-rise : (p : Point S E) (k n : ℕ) → Rises (pieces m p k n)
  unfolding pieces
  pieces-rise p k zero = tt
  pieces-rise p k (suc n) =
      rises-append (k + n) k (pieces m p k n) (wrote m (suc (k + n)) (go m p n).state (go m p n).end) (numbered-pieces m p k n)
      (wrote-above (k + n) (go m p n).state (go m p n).end) (pieces-rise p k n) (wrote-rises (suc (k + n)) (go m p n).state (go m p n).end)

new-rise : (input : List ℕ) (kind : Kind) (s : MachineState) (own n : ℕ) → Rises (new_pieces (rv32 input) kind s own n)
new-rise input Normal s own n = pieces-rise (rv32 input) (point (rv32 input) Normal s own) own n
new-rise input Segment s own n = pieces-rise (rv32 input) (point (rv32 input) Segment s own) own n
new-rise input Fast s own n = tt

pub held-rises : (input : List ℕ) (t : TrackView) → RunsOver input t → Rises t.held
held-rises input t h = rises-end h.held.0 t.held (subst Rises (sym h.held.1) (new-rise input t.kind t.start 0 t.own))
