-- What a service's answer makes of a step
use Rattle.std.proofs.Common.{◌≡◌, ℕ, Bool, ap}
use Rattle.guest_model.specs.ByteMap.{ByteMap}
use Rattle.guest_model.specs.Registers.{RegFile, with_result}
use Rattle.guest_model.specs.MachineState.{MachineState}
use Rattle.guest_model.specs.Service.{Outcome}
use Rattle.guest_model.specs.declared.state.Heap.{Heap}
use Rattle.guest_calls.specs.Serves.{Serves, state_of}
use Rattle.guest_calls.specs.declared.served.Served.TheVariants as A
use Rattle.rv32_step.specs.Steps.{Steps}
use Rattle.rv32_step.specs.declared.stepped.Stepped.TheVariants as S

-- a write: the caller has put the count into a0 and gone on
pub wrote_steps : (refuses fast : Bool) (want : Outcome) (m n : ByteMap) (p q : ℕ) (h i : Heap) (f f' : RegFile) (stream at count : ℕ)
    → Serves refuses fast want (state_of m p h f) (state_of n q i f) (A.Wrote stream at count)
    → f' ≡ with_result f 10 count
    → Steps refuses want (state_of m p h f) (state_of n q i f') (S.Wrote stream at count)
wrote_steps refuses fast want m n p q h i f f' stream at count s e =
    let same_memory : n ≡ m = ap (λ (t : MachineState). t.memory) s.3 in
    let same_place : q ≡ p = ap (λ (t : MachineState). t.place) s.3 in
    let same_heap : i ≡ h = ap (λ (t : MachineState). t.heap) s.3 in
    (s.0, s.1, rw same_memory s.2, cc)
