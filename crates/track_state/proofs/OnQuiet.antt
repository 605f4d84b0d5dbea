-- Runs of instructions that are at no call and write to no stream
use Rattle.std.proofs.Common.{◌≡◌, ℕ, ℤ, zero, suc, ◌+◌, ◌*◌, ◌<◌, ◌≤◌, ◌&&◌, true, false, List, [], ◌∷◌, Some, Result, Ok, Err, get_or, is_some, refl, sym, ap, ◌∙◌, subst, add-one, add-zero, arith}
use Rattle.std.specs.Prelude.{◌==◌, slice_index, unwrap_or}
use Rattle.std.specs.Int.{w32, from_le_bytes}
use Rattle.speculation.specs.declared.tracks.Kind.{Kind}
use Rattle.speculation.specs.declared.tracks.Kind.TheVariants.{Normal, Fast, Segment}
use Rattle.speculation.specs.Machine.{Next as GoesOn}
use Rattle.speculation.specs.Run.{Piece}
use Rattle.guest_model.specs.ByteMap.{ByteMap, load, mapped, bytes_from}
use Rattle.guest_model.specs.Registers.{RegFile, reg}
use Rattle.guest_model.specs.MachineState.{MachineState}
use Rattle.guest_model.specs.declared.state.Heap.{Heap}
use Rattle.guest_model.specs.Effect.{address, store_effect}
use Rattle.guest_model.specs.Step.{step, after_effect, is_ecall, at_fast, at_end}
use Rattle.guest_model.specs.declared.end.Trap.{Trap}
use Rattle.guest_model.specs.declared.instr.StoreWidth.{StoreWidth}
use Rattle.guest_model.specs.declared.instr.Instr.TheVariants.{Store}
use Rattle.guest_model.proofs.OnByteMap.{mapped-all, bytes_from-fill, load-mapped}
use Rattle.paged_image.specs.Pages.{IsPage}
use Rattle.rv32_step.specs.RegisterSteps.{StepsRegisters, IsOther}
use Rattle.rv32_step.specs.declared.on_registers.RegisterStep.TheVariants.{Next}
use Rattle.track_state.specs.Progress.{halts}
use Rattle.track_state.specs.Quiet.{IsQuiet, QuietSteps, QuietRegisters, seen}
use Rattle.track_state.proofs.OnProgress.{SoFar, SoFar-quiet}

-- ---- a word on a page

four-each : (f : ℕ → ℕ) (k : ℕ) → k < 4 → get_or (f 0 ∷ f 1 ∷ f 2 ∷ f 3 ∷ []) k 0 ≡ f k
four-each f zero h = refl
four-each f (suc zero) h = refl
four-each f (suc (suc zero)) h = refl
four-each f (suc (suc (suc zero))) h = refl
four-each f (suc (suc (suc (suc k)))) h = absurd (omega arith)

page-at : (m : ByteMap) (number pc offset : ℕ) (page : List ℕ) → IsPage m number page → pc ≡ number * 4096 + offset → offset ≤ 4092 → (k : ℕ) → k < 4 → m (pc + k) ≡ Some (slice_index page (offset + k))
page-at m number pc offset page h at low k less =
    let e : pc + k ≡ number * 4096 + (offset + k) = omega arith in ap m e ∙ h.each (offset + k) (omega arith)

pub page-load : (m : ByteMap) (number pc offset : ℕ) (page : List ℕ) → IsPage m number page → pc ≡ number * 4096 + offset → offset ≤ 4092
    → load w32 m pc ≡ Some (from_le_bytes w32 (slice_index page offset ∷ slice_index page (offset + 1) ∷ slice_index page (offset + 2) ∷ slice_index page (offset + 3) ∷ []))
page-load m number pc offset page h at low =
    let f : ℕ → ℕ = λ k. slice_index page (offset + k) in
    let bs : List ℕ = f 0 ∷ f 1 ∷ f 2 ∷ f 3 ∷ [] in
    let all : mapped m pc 4 ≡ true = mapped-all m pc 4 (omega (arith, h.below)) (λ k less. ap is_some (page-at m number pc offset page h at low k less)) in
    let bytes : bytes_from m pc 4 ≡ bs = bytes_from-fill m pc 4 bs refl (λ k less. four-each f k less ∙ sym (ap (λ o. unwrap_or o 0) (page-at m number pc offset page h at low k less))) in
    load-mapped w32 m pc bs all bytes
    ∙ ap (λ k. Some (from_le_bytes w32 (slice_index page k ∷ slice_index page (offset + 1) ∷ slice_index page (offset + 2) ∷ slice_index page (offset + 3) ∷ []))) (add-zero offset)

-- ---- one instruction more, and runs one behind the other

pub quiet-one : (input : List ℕ) (n : ℕ) (s t u : MachineState) → QuietSteps input s n t → IsQuiet input t u → QuietSteps input s (n + 1) u
quiet-one input n s t u h last = rw add-one (t, h, last)

pub quiet-append : (input : List ℕ) (n m : ℕ) (s t u : MachineState) → QuietSteps input s n t → QuietSteps input t m u → QuietSteps input s (n + m) u
quiet-append input n zero s t u h e = subst (λ v. QuietSteps input s (n + 0) v) (sym e) (rw add-zero h)
quiet-append input n (suc m) s t u h (v, before, last) =
    let whole : suc (n + m) ≡ n + suc m = omega arith in
    subst (λ k. QuietSteps input s k u) whole (v, quiet-append input n m s t v h before, last)

pub quiet-more : (m : ByteMap) (f g h : RegFile) (n : ℕ) → QuietRegisters m f n g → ((place : ℕ) (heap : Heap) → StepsRegisters (seen m place heap g) h Next) → QuietRegisters m f (n + 1) h
quiet-more m f g h n before last = λ input place heap.
    let s = last place heap in
    quiet-one input n (seen m place heap f) (seen m place heap g) (seen m place heap h) (before input place heap) (record { goes = s.0 false input; word = s.1 })

-- ---- stores

no_bytes : (pc : ℕ) (r : Result MachineState Trap) (t : MachineState) (stream : ℕ) (bytes : List ℕ) → after_effect pc r ≡ GoesOn t stream bytes → bytes ≡ []
no_bytes pc (Ok s) t stream bytes e = cc
no_bytes pc (Err trap) t stream bytes e = absurd (cc)

-- a store writes to no stream
pub store-is_silent : (input : List ℕ) (s t : MachineState) (width : StoreWidth) (rs1 rs2 : ℕ) (offset : ℤ) (stream : ℕ) (bytes : List ℕ) → IsOther s (Store width rs1 rs2 offset) → step false input s ≡ GoesOn t stream bytes → bytes ≡ []
store-is_silent input s t width rs1 rs2 offset stream bytes h goes =
    no_bytes s.regs.pc (store_effect width (address s.regs rs1 offset) (reg s.regs rs2) s) t stream bytes (sym (h.is false input) ∙ goes)

-- ---- a run on its way

no_call : (kind : Kind) (s : MachineState) → is_ecall (load w32 s.memory s.regs.pc) ≡ false → halts kind s ≡ false
unfolding at_fast at_end
no_call Normal s h = ap (λ b. b && (reg s.regs 17 == 2001)) h
no_call Fast s h = ap (λ b. b && (reg s.regs 17 == 2001)) h
no_call Segment s h = ap (λ b. b && (reg s.regs 17 == 2000)) h

module _ (input : List ℕ) (kind : Kind) (s : MachineState) (own : ℕ) (held : List Piece) where
  pub SoFar-quiets : (n m : ℕ) (t u : MachineState) (now : List Piece) → SoFar input kind s own held n t now → QuietSteps input t m u → SoFar input kind s own held (n + m) u now
  SoFar-quiets n zero t u now h e = subst (λ v. SoFar input kind s own held (n + 0) v now) (sym e) (rw add-zero h)
  SoFar-quiets n (suc m) t u now h (v, before, last) =
      let whole : n + m + 1 ≡ n + suc m = omega arith in
      subst (λ k. SoFar input kind s own held k u now) whole
      (SoFar-quiet input kind s own held (n + m) v u 1 now (SoFar-quiets n m t v now h before) (no_call kind v last.word) last.goes)
