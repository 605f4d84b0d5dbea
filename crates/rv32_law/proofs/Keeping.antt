-- What keeps a guest state and its layout: other registers, another break, and bytes written where bytes were
use Rattle.std.proofs.Common.{◌≡◌, ℕ, ◌+◌, ◌-◌, ◌^◌, ◌<◌, ◌≤◌, Bool, true, false, if◌then◌else◌, ◌==◌, List, length, None, is_some, ◌⊎◌, inl, inr, refl, sym, ap, ◌∙◌, arith}
use Rattle.std.specs.Prelude.{slice_set}
use Rattle.std.proofs.lemmas.Bool.{cases_lt, eqb-false}
use Rattle.std.proofs.lemmas.List.{length-set, get_or-set_other}
use Rattle.guest_model.specs.ByteMap.{ByteMap, mapped, write}
use Rattle.guest_model.specs.Registers.{RegFile, IsRegFile, with_reg, with_pc, with_result, next}
use Rattle.guest_model.specs.MachineState.{MachineState}
use Rattle.guest_model.proofs.OnByteMap.{mapped-bound, mapped-at, write-outside, write-inside}
use Rattle.rv32_law.specs.GuestStates.{IsGuestState, SharesLayout, KeepsState}

-- ---- layouts

pub SharesLayout-refl : (s : MachineState) → SharesLayout s s
SharesLayout-refl s = record { mapped = λ q. refl; start = refl; size = refl }

pub SharesLayout-sym : (s t : MachineState) → SharesLayout s t → SharesLayout t s
SharesLayout-sym s t h = record { mapped = λ q. sym (h.mapped q); start = sym h.start; size = sym h.size }

pub SharesLayout-trans : (s t u : MachineState) → SharesLayout s t → SharesLayout t u → SharesLayout s u
SharesLayout-trans s t u h k = record { mapped = λ q. h.mapped q ∙ k.mapped q; start = h.start ∙ k.start; size = h.size ∙ k.size }

pub KeepsState-refl : (input : List ℕ) (s : MachineState) → IsGuestState input s → KeepsState input s s
KeepsState-refl input s h = record { state = h; layout = SharesLayout-refl s }

pub KeepsState-trans : (input : List ℕ) (s t u : MachineState) → KeepsState input s t → KeepsState input t u → KeepsState input s u
KeepsState-trans input s t u h k = record { state = k.state; layout = SharesLayout-trans s t u h.layout k.layout }

-- ---- registers

pub with_reg-keeps : (f : RegFile) (r v : ℕ) → IsRegFile f → IsRegFile (with_reg f r v)
with_reg-keeps f r v h = by (r == 0) refl
  where
    by : (t : Bool) → (r == 0) ≡ t → IsRegFile (if t then f else record f { x = slice_set f.x r v })
    by true e = h
    by false e = record { count = length-set f.x r v ∙ h.count; zero = get_or-set_other f.x r 0 v 0 (λ same. eqb-false r 0 e (sym same)) ∙ h.zero }

pub with_pc-keeps : (f : RegFile) (v : ℕ) → IsRegFile f → IsRegFile (with_pc f v)
with_pc-keeps f v h = record { count = h.count; zero = h.zero }

pub with_result-keeps : (f : RegFile) (r v : ℕ) → IsRegFile f → IsRegFile (with_result f r v)
with_result-keeps f r v h = with_pc-keeps (with_reg f r v) (next f) (with_reg-keeps f r v h)

-- ---- states with other registers, another break, or other bytes

-- with these registers
pub with_regs-keeps : (input : List ℕ) (s : MachineState) (f : RegFile) → IsGuestState input s → IsRegFile f → KeepsState input s (record s { regs = f })
with_regs-keeps input s f h r = record {
  state = record { registers = r; memory = h.memory; place = h.place };
  layout = record { mapped = λ q. refl; start = refl; size = refl };
}

pub with_brk-keeps : (input : List ℕ) (s : MachineState) (a : ℕ) → IsGuestState input s → KeepsState input s (record s { heap = record s.heap { brk = a } })
with_brk-keeps input s a h = record {
  state = record { registers = h.registers; memory = h.memory; place = h.place };
  layout = record { mapped = λ q. refl; start = refl; size = refl };
}

write-bounded : (m : ByteMap) (a n : ℕ) (bs : List ℕ) → mapped m a n ≡ true → length bs ≤ n → ((q : ℕ) → 2 ^ 32 ≤ q → m q ≡ None) → (q : ℕ) → 2 ^ 32 ≤ q → write m a bs q ≡ None
write-bounded m a n bs there short h q l =
    let bound : a + n ≤ 2 ^ 32 = mapped-bound m a n there in
    write-outside m a bs q (inr (omega arith)) ∙ h q l

write-mapped : (m : ByteMap) (a n : ℕ) (bs : List ℕ) → mapped m a n ≡ true → length bs ≤ n → (q : ℕ) → is_some (m q) ≡ is_some (write m a bs q)
write-mapped m a n bs there short q = by (cases_lt q a) (cases_lt q (a + length bs))
  where
    by : (q < a) ⊎ (a ≤ q) → (q < a + length bs) ⊎ (a + length bs ≤ q) → is_some (m q) ≡ is_some (write m a bs q)
    by (inl l) _ = ap is_some (sym (write-outside m a bs q (inl l)))
    by (inr l) (inr r) = ap is_some (sym (write-outside m a bs q (inr r)))
    by (inr l) (inl r) =
        let at : a + (q - a) ≡ q = omega arith in
        ap (λ i. is_some (m i)) (sym at) ∙ mapped-at m a n (q - a) there (omega arith) ∙ ap is_some (sym (write-inside m a bs q l r))

-- with at most n bytes written from a on, where n are mapped, and more of the input read
pub write-keeps : (input : List ℕ) (s : MachineState) (f : RegFile) (a n place : ℕ) (bs : List ℕ) → IsGuestState input s → IsRegFile f → mapped s.memory a n ≡ true → length bs ≤ n
    → place ≤ length input → KeepsState input s (record s { regs = f; memory = write s.memory a bs; place = place })
write-keeps input s f a n place bs h r there short p = record {
  state = record { registers = r; memory = write-bounded s.memory a n bs there short h.memory; place = p };
  layout = record { mapped = write-mapped s.memory a n bs there short; start = refl; size = refl };
}
