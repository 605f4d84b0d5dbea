-- What a program reaches from a guest state: guest states with the same layout, and ends of its own
use Rattle.std.proofs.Common.{◌≡◌, ◌≢◌, ℕ, zero, suc, false, List, Option, Some, None, subst}
use Rattle.speculation.specs.declared.tracks.Kind.{Kind}
use Rattle.speculation.specs.declared.tracks.Kind.TheVariants.{Normal, Fast, Segment}
use Rattle.speculation.specs.Machine.{Next, Ends}
use Rattle.speculation.specs.Run.{Point, fresh, moved, advanced, go}
use Rattle.speculation.specs.Tracks.{point}
use Rattle.guest_model.specs.MachineState.{MachineState}
use Rattle.guest_model.specs.Service.{Outcome}
use Rattle.guest_model.specs.Step.{step}
use Rattle.guest_model.specs.Rv32.{rv32, answer_one}
use Rattle.guest_model.specs.declared.end.End.{End}
use Rattle.guest_model.specs.declared.end.End.TheVariants.{Spent}
use Rattle.rv32_law.specs.GuestStates.{IsGuestState, KeepsState, StepKeeps}
use Rattle.rv32_law.proofs.Keeping.{KeepsState-refl, KeepsState-trans}
use Rattle.rv32_law.proofs.OneStep.{step-keeps, answer_one-keeps}

-- an end that was met is none that says that a budget was spent
abbrev pub IsOwnEnd : Option End → Type 0
IsOwnEnd None = Unit {0}
IsOwnEnd (Some e) = e ≢ Spent

module _ (input : List ℕ) where
  moved-keeps : (s : MachineState) (o : Outcome) → IsGuestState input s → StepKeeps input s o → KeepsState input s (moved s o).state
  moved-keeps s (Next t stream bytes) h k = k.keeps
  moved-keeps s (Ends e) h k = KeepsState-refl input s h

  advanced-keeps : (s : MachineState) (o : Option End) → IsGuestState input s → KeepsState input s (advanced (rv32 input) s o).state
  advanced-keeps s None h = moved-keeps s (step false input s) h (step-keeps input s h false)
  advanced-keeps s (Some e) h = KeepsState-refl input s h

  -- a run
  pub go-keeps : (p : Point MachineState End) (n : ℕ) → IsGuestState input p.state → KeepsState input p.state (go (rv32 input) p n).state
  unfolding go
  go-keeps p zero h = KeepsState-refl input p.state h
  go-keeps p (suc n) h =
      let before : KeepsState input p.state (go (rv32 input) p n).state = go-keeps p n h in
      KeepsState-trans input p.state (go (rv32 input) p n).state _ before (advanced-keeps (go (rv32 input) p n).state (go (rv32 input) p n).end before.state)

  -- the track of every kind
  pub point-keeps : (kind : Kind) (s : MachineState) (own : ℕ) → IsGuestState input s → KeepsState input s (point (rv32 input) kind s own).state
  point-keeps Normal s own h = go-keeps (fresh s) own h
  point-keeps Segment s own h = go-keeps (fresh s) own h
  point-keeps Fast s zero h = KeepsState-refl input s h
  point-keeps Fast s (suc k) h =
      let first : KeepsState input s (answer_one s) = answer_one-keeps input s h in
      KeepsState-trans input s (answer_one s) _ first (go-keeps (fresh (answer_one s)) k first.state)

  -- ---- ends

  moved-end : (s : MachineState) (o : Outcome) → StepKeeps input s o → IsOwnEnd (moved s o).end
  moved-end s (Next t stream bytes) k = tt
  moved-end s (Ends e) k = k

  advanced-end : (s : MachineState) (o : Option End) → IsGuestState input s → IsOwnEnd o → IsOwnEnd (advanced (rv32 input) s o).end
  advanced-end s None h k = moved-end s (step false input s) (step-keeps input s h false)
  advanced-end s (Some e) h k = k

  pub go-own_end : (p : Point MachineState End) (n : ℕ) → IsGuestState input p.state → IsOwnEnd p.end → IsOwnEnd (go (rv32 input) p n).end
  unfolding go
  go-own_end p zero h k = k
  go-own_end p (suc n) h k = advanced-end (go (rv32 input) p n).state (go (rv32 input) p n).end (go-keeps p n h).state (go-own_end p n h k)

  pub point-own_end : (kind : Kind) (s : MachineState) (own : ℕ) → IsGuestState input s → IsOwnEnd (point (rv32 input) kind s own).end
  point-own_end Normal s own h = go-own_end (fresh s) own h tt
  point-own_end Segment s own h = go-own_end (fresh s) own h tt
  point-own_end Fast s zero h = tt
  point-own_end Fast s (suc k) h = go-own_end (fresh (answer_one s)) k (answer_one-keeps input s h).state tt

  -- an end that was met is never that a budget was spent
  pub point-not_spent : (kind : Kind) (s : MachineState) (own : ℕ) (e : End) → IsGuestState input s → (point (rv32 input) kind s own).end ≡ Some e → e ≢ Spent
  point-not_spent kind s own e h is = subst IsOwnEnd is (point-own_end kind s own h)
