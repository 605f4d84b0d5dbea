-- Programs start in guest states.
use Rattle.std.proofs.Common.{◌≡◌, ℕ, ◌^◌, ◌≤◌, List, None, refl, arith}
use Rattle.guest_model.specs.AreaMap.{areas_bytes, areas_bytes-bounded, IsLayout}
use Rattle.guest_model.specs.Registers.{IsRegFile, start_regs}
use Rattle.guest_model.specs.Image.{Image, start_of}
use Rattle.guest_model.specs.declared.areas.Area.{Area}
use Rattle.guest_model.specs.declared.state.Heap.{Heap}
use Rattle.rv32_law.specs.GuestStates.{IsGuestState}

start_regs-is : (entry : ℕ) → IsRegFile (start_regs entry)
start_regs-is entry = record { count = refl; zero = refl }

-- the program of an image without a byte from 2 ^ 32 on
pub image-is-guest : (input : List ℕ) (i : Image) → ((q : ℕ) → 2 ^ 32 ≤ q → i.memory q ≡ None) → IsGuestState input (start_of i)
image-is-guest input i h = record { registers = start_regs-is i.entry; memory = h; place = omega arith }

-- the program of areas that end at 2 ^ 32 at the latest
pub start-is-guest : (input : List ℕ) (entry : ℕ) (areas : List Area) (heap : Heap) → IsLayout areas → IsGuestState input (start_of (record { entry = entry; memory = areas_bytes areas; heap = heap }))
start-is-guest input entry areas heap layout =
    image-is-guest input (record { entry = entry; memory = areas_bytes areas; heap = heap }) (λ q l. areas_bytes-bounded areas q layout.within l)
