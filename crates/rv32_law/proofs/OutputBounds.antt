-- How much a run writes: at most 2 ^ 20 bytes an instruction
use Rattle.std.proofs.Common.{◌≡◌, ℕ, zero, suc, ◌+◌, ◌*◌, ◌^◌, ◌≤◌, false, List, [], ◌∷◌, ◌++◌, length, Option, Some, None, refl, sym, ap, ◌∙◌, length-append, arith}
use Rattle.speculation.specs.declared.tracks.Kind.{Kind}
use Rattle.speculation.specs.declared.tracks.Kind.TheVariants.{Normal, Fast, Segment}
use Rattle.speculation.specs.declared.history.Settings.{Settings}
use Rattle.speculation.specs.declared.history.Entry.{Entry}
use Rattle.speculation.specs.Machine.{Next, Ends}
use Rattle.speculation.specs.Run.{Piece, Point, marked, marks, fresh, go, piece_of, wrote, pieces, out}
use Rattle.speculation.specs.Record.{IsPrefixOf, output_of, alone}
use Rattle.speculation.specs.Tracks.{point}
use Rattle.speculation.specs.Core.{Core, held_size, verified}
use Rattle.speculation.specs.Events.{new_pieces}
use Rattle.speculation.specs.Law.{IsHistory}
use Rattle.speculation.proofs.Outputs.{marks-append}
use Rattle.speculation.proofs.Records.{output-alone}
use Rattle.speculation_law.proofs.Histories.{law-partial}
use Rattle.guest_model.specs.MachineState.{MachineState}
use Rattle.guest_model.specs.Service.{Outcome}
use Rattle.guest_model.specs.Step.{step}
use Rattle.guest_model.specs.Rv32.{rv32}
use Rattle.guest_model.specs.declared.difference.Difference.{Difference}
use Rattle.guest_model.specs.declared.end.End.{End}
use Rattle.rv32_law.specs.GuestStates.{IsGuestState, StepKeeps}
use Rattle.rv32_law.proofs.OneStep.{step-keeps}
use Rattle.rv32_law.proofs.Reached.{go-keeps, point-keeps}
use Rattle.rv32_law.proofs.Differences.{exact-rv32}

length-marked : (stream : ℕ) (bytes : List ℕ) → length (marked stream bytes) ≡ length bytes
length-marked stream [] = refl
length-marked stream (b ∷ bs) = ap suc (length-marked stream bs)

pub held_size-append : (ps qs : List Piece) → held_size (ps ++ qs) ≡ held_size ps + held_size qs
held_size-append ps qs = ap length (marks-append ps qs) ∙ length-append (marks ps) (marks qs)

held_size-one : (k stream : ℕ) (bytes : List ℕ) → held_size (record { number = k; stream = stream; bytes = bytes } ∷ []) ≡ length bytes
held_size-one k stream bytes =
    let whole : length (marked stream bytes ++ []) ≡ length (marked stream bytes) + 0 = length-append (marked stream bytes) [] in
    omega (arith, whole, length-marked stream bytes)

-- pieces at the end of others hold no more than all
pub held_size-suffix : (ps qs all : List Piece) → ps ++ qs ≡ all → held_size qs ≤ held_size all
held_size-suffix ps qs all is = (let whole : held_size all ≡ held_size ps + held_size qs = ap held_size (sym is) ∙ held_size-append ps qs in omega (arith, whole))

pub length-prefix : {A : Type 0} (xs ys : List A) → IsPrefixOf xs ys → length xs ≤ length ys
length-prefix xs ys h = (let whole : length ys ≡ length xs + length h.0 = ap length (sym h.1) ∙ length-append xs h.0 in omega (arith, whole))

module _ (input : List ℕ) where
  piece_of-bound : (k : ℕ) (s : MachineState) (o : Outcome) → StepKeeps input s o → held_size (piece_of k o) ≤ 2 ^ 20
  piece_of-bound k s (Next t stream []) h = omega arith
  piece_of-bound k s (Next t stream (b ∷ bs)) h = omega (arith, held_size-one k stream (b ∷ bs), h.written)
  piece_of-bound k s (Ends e) h = omega arith

  wrote-bound : (k : ℕ) (s : MachineState) (o : Option End) → IsGuestState input s → held_size (wrote (rv32 input) k s o) ≤ 2 ^ 20
  wrote-bound k s None h = piece_of-bound k s (step false input s) (step-keeps input s h false)
  wrote-bound k s (Some e) h = omega arith

  -- what n instructions write
  pub pieces-bound : (p : Point MachineState End) (k n : ℕ) → IsGuestState input p.state → held_size (pieces (rv32 input) p k n) ≤ n * 2 ^ 20
  unfolding pieces
  pieces-bound p k zero h = omega arith
  pieces-bound p k (suc n) h =
      let last : List Piece = wrote (rv32 input) (suc (k + n)) (go (rv32 input) p n).state (go (rv32 input) p n).end in
      omega (
        arith,
        held_size-append (pieces (rv32 input) p k n) last,
        pieces-bound p k n h,
        wrote-bound (suc (k + n)) (go (rv32 input) p n).state (go (rv32 input) p n).end (go-keeps input p n h).state,
      )

  pub out-bound : (p : Point MachineState End) (n : ℕ) → IsGuestState input p.state → length (out (rv32 input) p n) ≤ n * 2 ^ 20
  unfolding out
  out-bound p n h = pieces-bound p 0 n h

  -- what is held of the pieces of a run, once the first of them were taken
  pub held-bound : (p : Point MachineState End) (k n : ℕ) (given held : List Piece) → IsGuestState input p.state → given ++ held ≡ pieces (rv32 input) p k n → held_size held ≤ n * 2 ^ 20
  held-bound p k n given held h is = omega (arith, held_size-suffix given held (pieces (rv32 input) p k n) is, pieces-bound p k n h)

  -- what k instructions more of a track write
  pub new_pieces-bound : (kind : Kind) (s : MachineState) (own k : ℕ) → IsGuestState input s → held_size (new_pieces (rv32 input) kind s own k) ≤ k * 2 ^ 20
  new_pieces-bound Normal s own k h = pieces-bound (point (rv32 input) Normal s own) own k (point-keeps input Normal s own h).state
  new_pieces-bound Segment s own k h = pieces-bound (point (rv32 input) Segment s own) own k (point-keeps input Segment s own h).state
  new_pieces-bound Fast s own k h = omega arith

  -- what a legal history has released and may release
  pub history-bound : (b : Settings) (start : MachineState) (entries : List Entry) (c : Core MachineState End Difference) → IsGuestState input start → IsHistory (rv32 input) b start entries c
      → length (c.released ++ verified b c) ≤ b.budget * 2 ^ 20
  history-bound b start entries c h legal =
      let whole : length (output_of (alone (rv32 input) start b.budget)) ≡ length (out (rv32 input) (fresh start) b.budget) = ap length (output-alone (rv32 input) start b.budget) in
      omega (
        arith,
        whole,
        length-prefix (c.released ++ verified b c) (output_of (alone (rv32 input) start b.budget)) (law-partial (rv32 input) b start entries c (exact-rv32 input start h) legal).output,
        out-bound (fresh start) b.budget h,
      )
