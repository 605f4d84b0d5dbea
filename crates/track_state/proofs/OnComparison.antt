-- The comparison of two states, part by part
use Rattle.std.proofs.Common.{◌≡◌, ◌≢◌, ℕ, ◌+◌, ◌<◌, ◌≤◌, Bool, not, cond, List, Option, Some, None, option_map, length, replicate, refl, sym, ap, ◌∙◌, subst, inl, inr, arith}
use Rattle.std.specs.Prelude.{◌==◌, ◌↔◌}
use Rattle.std.proofs.lemmas.Bool.{cases_lt, eq-eqb, ne_eqb}
use Rattle.std.proofs.lemmas.List.{length-replicate}
use Rattle.guest_model.specs.Difference.{or_else, difference, register_difference, byte_difference, if_differs}
use Rattle.guest_model.specs.Registers.{RegFile, IsRegFile, reg}
use Rattle.guest_model.specs.MachineState.{MachineState}
use Rattle.guest_model.specs.declared.difference.Difference.{Difference}
use Rattle.guest_model.specs.declared.difference.Difference.TheVariants.{Pc, Register, Place, Break, Byte}
use Rattle.guest_model.specs.declared.state.State.{State}
use Rattle.paged_image.specs.Image.{content-bounded}
use Rattle.paged_image.specs.declared.image.PagedImage.{PagedImage}
use Rattle.page_compare.proofs.OnLeast.{least-none, least-some}
use Rattle.rv32_law.specs.GuestStates.{IsGuestState, SharesLayout}
use Rattle.rv32_law.proofs.Differences.{difference-none, difference-equal}
use Rattle.track_state.specs.Kept.{flat_state}

-- ---- registers

-- the registers below r are the same
pub record AgreesBelow (f g : RegFile) (r : ℕ) : Type 0 where
  pub same : (k : ℕ) → k < r → reg f k ≡ reg g k

pub AgreesBelow-more : (f g : RegFile) (r : ℕ) → AgreesBelow f g r → reg f r ≡ reg g r → AgreesBelow f g (r + 1)
AgreesBelow-more f g r h e = record {
  same = λ k l. elim (cases_lt k r) [
    | inl low ↦ h.same k low
    | inr high ↦ (let here : r ≡ k = omega arith in subst (λ i. reg f i ≡ reg g i) here e)
  ];
}

pub register-none : (f g : RegFile) (n : ℕ) → AgreesBelow f g n → 32 ≤ n → None ≡ register_difference f g
register-none f g n h le = sym (least-none (λ r. not (reg f r == reg g r)) 32 (λ r l. ap not (eq-eqb (reg f r) (reg g r) (h.same r (omega arith)))))

pub register-some : (f g : RegFile) (r : ℕ) → r < 32 → reg f r ≢ reg g r → AgreesBelow f g r → Some r ≡ register_difference f g
register-some f g r l d h = sym (least-some (λ k. not (reg f k == reg g k)) 32 r l (ap not (ne_eqb (reg f r) (reg g r) d)) (λ k b. ap not (eq-eqb (reg f k) (reg g k) (h.same k b))))

-- ---- the first part that differs

-- by the differences of pc, registers, place, break and bytes
abbrev first_of : Option Difference → Option ℕ → Option Difference → Option Difference → Option ℕ → Option Difference
first_of pc register place brk byte = or_else pc (or_else (option_map Register register) (or_else place (or_else brk (or_else (option_map Byte byte) None))))

difference-is : (a b : MachineState) → difference a b
    ≡ first_of (if_differs Pc a.regs.pc b.regs.pc) (register_difference a.regs b.regs) (if_differs Place a.place b.place) (if_differs Break a.heap.brk b.heap.brk) (byte_difference a.memory b.memory)
unfolding difference
difference-is a b = refl

no-part : (d : Difference) (x y : ℕ) → x ≡ y → if_differs d x y ≡ None
no-part d x y e = ap (λ (b : Bool). cond b None (Some d)) (eq-eqb x y e)

a-part : (d : Difference) (x y : ℕ) → x ≢ y → if_differs d x y ≡ Some d
a-part d x y e = ap (λ (b : Bool). cond b None (Some d)) (ne_eqb x y e)

last-part : (o : Option ℕ) → or_else (option_map Byte o) None ≡ option_map Byte o
last-part None = refl
last-part (Some q) = refl

module _ (a b : MachineState) where
  pub differs-in_pc : a.regs.pc ≢ b.regs.pc → Some Pc ≡ difference a b
  differs-in_pc h = sym (difference-is a b ∙ ap (λ (pc : Option Difference). first_of pc (register_difference a.regs b.regs) (if_differs Place a.place b.place) (if_differs Break a.heap.brk b.heap.brk) (byte_difference a.memory b.memory)) (a-part Pc a.regs.pc b.regs.pc h))

  module _ (pc : a.regs.pc ≡ b.regs.pc) where
    behind-pc : difference a b ≡ first_of None (register_difference a.regs b.regs) (if_differs Place a.place b.place) (if_differs Break a.heap.brk b.heap.brk) (byte_difference a.memory b.memory)
    behind-pc = difference-is a b ∙ ap (λ (o : Option Difference). first_of o (register_difference a.regs b.regs) (if_differs Place a.place b.place) (if_differs Break a.heap.brk b.heap.brk) (byte_difference a.memory b.memory)) (no-part Pc a.regs.pc b.regs.pc pc)

    pub differs-in_register : (r : ℕ) → Some r ≡ register_difference a.regs b.regs → Some (Register r) ≡ difference a b
    differs-in_register r h = sym (behind-pc ∙ ap (λ (o : Option ℕ). first_of None o (if_differs Place a.place b.place) (if_differs Break a.heap.brk b.heap.brk) (byte_difference a.memory b.memory)) (sym h))

    module _ (registers : None ≡ register_difference a.regs b.regs) where
      behind-registers : difference a b ≡ first_of None None (if_differs Place a.place b.place) (if_differs Break a.heap.brk b.heap.brk) (byte_difference a.memory b.memory)
      behind-registers = behind-pc ∙ ap (λ (o : Option ℕ). first_of None o (if_differs Place a.place b.place) (if_differs Break a.heap.brk b.heap.brk) (byte_difference a.memory b.memory)) (sym registers)

      pub differs-in_place : a.place ≢ b.place → Some Place ≡ difference a b
      differs-in_place h = sym (behind-registers ∙ ap (λ (o : Option Difference). first_of None None o (if_differs Break a.heap.brk b.heap.brk) (byte_difference a.memory b.memory)) (a-part Place a.place b.place h))

      module _ (place : a.place ≡ b.place) where
        behind-place : difference a b ≡ first_of None None None (if_differs Break a.heap.brk b.heap.brk) (byte_difference a.memory b.memory)
        behind-place = behind-registers ∙ ap (λ (o : Option Difference). first_of None None o (if_differs Break a.heap.brk b.heap.brk) (byte_difference a.memory b.memory)) (no-part Place a.place b.place place)

        pub differs-in_break : a.heap.brk ≢ b.heap.brk → Some Break ≡ difference a b
        differs-in_break h = sym (behind-place ∙ ap (λ (o : Option Difference). first_of None None None o (byte_difference a.memory b.memory)) (a-part Break a.heap.brk b.heap.brk h))

        -- the bytes decide
        pub differs-in_bytes : a.heap.brk ≡ b.heap.brk → (o : Option ℕ) → o ≡ byte_difference a.memory b.memory → option_map Byte o ≡ difference a b
        differs-in_bytes h o is = sym (behind-place ∙ ap (λ (d : Option Difference). first_of None None None d (byte_difference a.memory b.memory)) (no-part Break a.heap.brk b.heap.brk h) ∙ last-part (byte_difference a.memory b.memory) ∙ ap (option_map Byte) (sym is))

-- no difference is found exactly in equal states
pub exactly-none : (a b : State PagedImage) (o : Option Difference) → IsRegFile a.regs → IsRegFile b.regs → SharesLayout (flat_state a) (flat_state b) → o ≡ difference (flat_state a) (flat_state b) → (o ≡ None) ↔ (flat_state a ≡ flat_state b)
exactly-none a b o f g layout is =
    let input : List ℕ = replicate (a.place + b.place) 0 in
    let long : length input ≡ a.place + b.place = length-replicate (a.place + b.place) 0 in
    let left : IsGuestState input (flat_state a) = record { registers = f; memory = content-bounded a.memory; place = omega arith } in
    let right : IsGuestState input (flat_state b) = record { registers = g; memory = content-bounded b.memory; place = omega arith } in
    (λ none. difference-none input (flat_state a) (flat_state b) left right layout (sym is ∙ none), λ same. is ∙ difference-equal (flat_state a) (flat_state b) same)
