-- What a call of a track's `run` does, by whether the opening call was answered
use Rattle.std.proofs.Common.{◌≡◌, ℕ, ◌+◌, ◌-◌, ◌<◌, ◌≤◌, min, true, false, List, None, is_some, sym, ap, ◌∙◌, subst, inl, inr, arith}
use Rattle.std.proofs.lemmas.Bool.{le-leb}
use Rattle.speculation.specs.Run.{Piece}
use Rattle.speculation.specs.Core.{held_size, most_held}
use Rattle.guest_model.specs.Registers.{RegFile}
use Rattle.guest_model.specs.MachineState.{MachineState}
use Rattle.track_state.specs.Kept.{StartsAtCall}
use Rattle.track_state.specs.Opening.{Opens}
use Rattle.track_state.specs.Views.{TrackView}
use Rattle.track_state.specs.Runs.{RunsOver, run_length, RanOn}
use Rattle.track_state.specs.Progress.{Pauses, IsProgress}
use Rattle.track_state.specs.declared.progress.Progress.{Progress}
use Rattle.track_state.proofs.OnRuns.{Starts, rests-full, rests-end, length-rests, ran-length, ran-short}
use Rattle.track_state.proofs.OnStarts.{starts-here, starts-opened, ran-none, now-at}

-- the state behind the opening call, if it was answered
abbrev pub with_regs : MachineState → RegFile → MachineState
with_regs s f = record s { regs = f }

module _ (input : List ℕ) (t : TrackView) where
  pub starts-by : (limit n : ℕ) (f : RegFile) → RunsOver input t → t.end ≡ None → StartsAtCall t.kind t.start → t.own + limit ≤ t.budget → held_size t.held < most_held
      → Opens t.kind t.own limit t.state.regs f n → Starts input t limit n (with_regs t.state f)
  starts-by limit n f runs going call fits room (inl h) =
      subst (λ k. Starts input t limit k (with_regs t.state f)) (sym h.count)
      (subst (λ (s : MachineState). Starts input t limit 1 s) (sym (ap (with_regs t.state) h.answered)) (starts-opened input t limit runs going call h.fast h.first h.room fits room))
  starts-by limit n f runs going call fits room (inr h) =
      subst (λ k. Starts input t limit k (with_regs t.state f)) (sym h.count)
      (subst (λ (s : MachineState). Starts input t limit 0 s) (sym (ap (with_regs t.state) h.same)) (starts-here input t limit runs going call h.behind))

  -- it rests at once behind an end, and where it holds as much as it may
  pub rests-ended : (k : ℕ) → RunsOver input t → is_some t.end ≡ true → (0 ≡ run_length input t k) × RanOn input t t 0
  rests-ended k runs h = (length-rests input t k 0 (omega arith) (now-at input t runs ∙ rests-end input t.kind t.budget (t.own + 0) t.state t.end t.held h) (λ i less. absurd (omega arith)), ran-none input t runs)

  pub rests-many : (k : ℕ) → RunsOver input t → most_held ≤ held_size t.held → (0 ≡ run_length input t k) × RanOn input t t 0
  rests-many k runs h = (
    length-rests input t k 0 (omega arith) (now-at input t runs ∙ rests-full input t.kind t.budget (t.own + 0) (record { state = t.state; end = t.end }) t.held (le-leb most_held (held_size t.held) h))
        (λ i less. absurd (omega arith)),
    ran-none input t runs,
  )

  pub length-by : (limit n : ℕ) (s u : MachineState) (held : List Piece) (p : Progress) (k : ℕ) → (starts : Starts input t limit n s) → (ran : IsProgress input t.kind s (t.own + n) t.held (limit - n) u held p)
      → limit ≡ min k (t.budget - t.own) → t.own ≤ t.budget → p.refused ≡ false → n + p.taken ≡ run_length input t k
  length-by limit n s u held p k starts ran is fits whole =
      ran-length input t limit n s u held p starts ran k is fits (subst (λ b. Pauses input t.kind s (t.own + n) t.held (limit - n) p.taken b) whole ran.pause)

  pub short-by : (limit n : ℕ) (s u : MachineState) (held : List Piece) (p : Progress) (k : ℕ) → (starts : Starts input t limit n s) → (ran : IsProgress input t.kind s (t.own + n) t.held (limit - n) u held p)
      → limit ≡ min k (t.budget - t.own) → t.own ≤ t.budget → p.refused ≡ true → n + p.taken < run_length input t k
  short-by limit n s u held p k starts ran is fits refused =
      ran-short input t limit n s u held p starts ran k is fits (subst (λ b. Pauses input t.kind s (t.own + n) t.held (limit - n) p.taken b) refused ran.pause)
