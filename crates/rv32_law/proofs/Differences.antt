-- The guest machine misses no difference: guest states of one layout without a difference are equal, and equal states have
-- none.
use Rattle.std.proofs.Common.{◌≡◌, ℕ, ◌^◌, ◌<◌, ◌≤◌, ◌⊎◌, inl, inr, Bool, true, false, not, if◌then◌else◌, ◌==◌, List, [], ◌∷◌, Option, Some, None, option_map, refl, sym, ap, ◌∙◌, eqb-true, eq-eqb, arith}
use Rattle.std.proofs.Math.Path.{fun_ext}
use Rattle.std.proofs.lemmas.Bool.{cases_lt}
use Rattle.std.proofs.lemmas.List.{ext_get_or}
use Rattle.speculation.specs.declared.tracks.Kind.TheVariants.{Fast}
use Rattle.speculation.specs.Run.{fresh, go}
use Rattle.speculation.specs.Tracks.{point}
use Rattle.speculation.specs.Law.{Exact}
use Rattle.guest_model.specs.ByteMap.{ByteMap}
use Rattle.guest_model.specs.Registers.{RegFile, IsRegFile, reg}
use Rattle.guest_model.specs.MachineState.{MachineState}
use Rattle.guest_model.specs.Difference.{same_byte, or_else, first_some, if_differs, register_difference, byte_difference, difference}
use Rattle.guest_model.specs.Rv32.{rv32}
use Rattle.guest_model.specs.declared.difference.Difference.{Difference}
use Rattle.guest_model.specs.declared.difference.Difference.TheVariants.{Pc, Register, Place, Break, Byte}
use Rattle.rv32_law.specs.GuestStates.{IsGuestState, SharesLayout}
use Rattle.rv32_law.proofs.Keeping.{SharesLayout-sym, SharesLayout-trans}
use Rattle.rv32_law.proofs.OnLeast.{or_else-none, least-none, least-none_each}
use Rattle.rv32_law.proofs.Reached.{go-keeps, point-keeps}

-- ---- the five comparisons

-- none of these differences was found
record NoneFound (pc register place break byte : Option Difference) : Type 0 where
  no_pc : pc ≡ None
  no_register : register ≡ None
  no_place : place ≡ None
  no_break : break ≡ None
  no_byte : byte ≡ None

none-found : (p r i b q : Option Difference) → first_some (p ∷ r ∷ i ∷ b ∷ q ∷ []) ≡ None → NoneFound p r i b q
none-found p r i b q h =
    let first = or_else-none p (first_some (r ∷ i ∷ b ∷ q ∷ [])) h in
    let second = or_else-none r (first_some (i ∷ b ∷ q ∷ [])) first.1 in
    let third = or_else-none i (first_some (b ∷ q ∷ [])) second.1 in
    let fourth = or_else-none b (first_some (q ∷ [])) third.1 in
    record { no_pc = first.0; no_register = second.0; no_place = third.0; no_break = fourth.0; no_byte = (or_else-none q None fourth.1).0 }

or_else-both : (o p : Option Difference) → o ≡ None → p ≡ None → or_else o p ≡ None
or_else-both o p h k = ap (λ (x : Option Difference). or_else x p) h ∙ k

found-none : (p r i b q : Option Difference) → NoneFound p r i b q → first_some (p ∷ r ∷ i ∷ b ∷ q ∷ []) ≡ None
found-none p r i b q h =
    or_else-both p (first_some (r ∷ i ∷ b ∷ q ∷ [])) h.no_pc (
    or_else-both r (first_some (i ∷ b ∷ q ∷ [])) h.no_register (
    or_else-both i (first_some (b ∷ q ∷ [])) h.no_place (
    or_else-both b (first_some (q ∷ [])) h.no_break (
    or_else-both q None h.no_byte refl))))

option_map-none : {A B : Type 0} (f : A → B) (o : Option A) → option_map f o ≡ None → o ≡ None
option_map-none f (Some x) h = absurd (cc)
option_map-none f None h = refl

if_differs-none : (d : Difference) (x y : ℕ) → if_differs d x y ≡ None → x ≡ y
if_differs-none d x y h = by (x == y) refl h
  where
    by : (test : Bool) → (x == y) ≡ test → (if test then None else Some d) ≡ None → x ≡ y
    by true e k = eqb-true x y e
    by false e k = absurd (cc)

if_differs-same : (d : Difference) (x : ℕ) → if_differs d x x ≡ None
if_differs-same d x = ap (λ t. if t then None else Some d) (eq-eqb x x refl)

not-false : (b : Bool) → not b ≡ false → b ≡ true
not-false true h = refl
not-false false h = absurd (cc)

-- ---- registers

registers-none : (f g : RegFile) → IsRegFile f → IsRegFile g → register_difference f g ≡ None → f.x ≡ g.x
registers-none f g h k none = ext_get_or 0 f.x g.x (h.count ∙ sym k.count) (λ r l.
    eqb-true (reg f r) (reg g r) (not-false (reg f r == reg g r) (least-none_each (λ i. not (reg f i == reg g i)) 32 none r (omega (arith, h.count)))))

registers-same : (f : RegFile) → register_difference f f ≡ None
registers-same f = least-none (λ r. not (reg f r == reg f r)) 32 (λ r l. ap not (eq-eqb (reg f r) (reg f r) refl))

-- ---- bytes

same_byte-true : (x y : Option ℕ) → same_byte x y ≡ true → x ≡ y
same_byte-true (Some x) (Some y) h = ap Some (eqb-true x y h)
same_byte-true (Some x) None h = absurd (cc)
same_byte-true None (Some y) h = absurd (cc)
same_byte-true None None h = refl

same_byte-same : (x : Option ℕ) → same_byte x x ≡ true
same_byte-same (Some x) = eq-eqb x x refl
same_byte-same None = refl

bytes-none : (m n : ByteMap) → ((q : ℕ) → 2 ^ 32 ≤ q → m q ≡ None) → ((q : ℕ) → 2 ^ 32 ≤ q → n q ≡ None) → byte_difference m n ≡ None → m ≡ n
bytes-none m n h k none = fun_ext (λ q. at q (cases_lt q (2 ^ 32)))
  where
    at : (q : ℕ) → (q < 2 ^ 32) ⊎ (2 ^ 32 ≤ q) → m q ≡ n q
    at q (inl l) = same_byte-true (m q) (n q) (not-false (same_byte (m q) (n q)) (least-none_each (λ i. not (same_byte (m i) (n i))) (2 ^ 32) none q l))
    at q (inr l) = h q l ∙ sym (k q l)

bytes-same : (m : ByteMap) → byte_difference m m ≡ None
bytes-same m = least-none (λ q. not (same_byte (m q) (m q))) (2 ^ 32) (λ q l. ap not (same_byte-same (m q)))

-- ---- states

abbrev NoDifference : MachineState → MachineState → Type 0
NoDifference s t =
    NoneFound (if_differs Pc s.regs.pc t.regs.pc) (option_map Register (register_difference s.regs t.regs)) (if_differs Place s.place t.place)
    (if_differs Break s.heap.brk t.heap.brk) (option_map Byte (byte_difference s.memory t.memory))

difference-parts : (s t : MachineState) → difference s t ≡ None → NoDifference s t
unfolding difference
difference-parts s t h = none-found _ _ _ _ _ h

-- guest states of one layout without a difference are equal
pub difference-none : (input : List ℕ) (s t : MachineState) → IsGuestState input s → IsGuestState input t → SharesLayout s t → difference s t ≡ None → s ≡ t
difference-none input s t h k shared none =
    let parts : NoDifference s t = difference-parts s t none in
    let pc : s.regs.pc ≡ t.regs.pc = if_differs-none Pc s.regs.pc t.regs.pc parts.no_pc in
    let registers : s.regs.x ≡ t.regs.x = registers-none s.regs t.regs h.registers k.registers (option_map-none Register (register_difference s.regs t.regs) parts.no_register) in
    let place : s.place ≡ t.place = if_differs-none Place s.place t.place parts.no_place in
    let brk : s.heap.brk ≡ t.heap.brk = if_differs-none Break s.heap.brk t.heap.brk parts.no_break in
    let memory : s.memory ≡ t.memory = bytes-none s.memory t.memory h.memory k.memory (option_map-none Byte (byte_difference s.memory t.memory) parts.no_byte) in
    λ i. record {
      regs = record { pc = pc i; x = registers i };
      memory = memory i;
      place = place i;
      heap = record { start = shared.start i; size = shared.size i; brk = brk i };
    }

-- a state has no difference to itself
pub difference-same : (s : MachineState) → difference s s ≡ None
unfolding difference
difference-same s = found-none _ _ _ _ _ (record {
  no_pc = if_differs-same Pc s.regs.pc;
  no_register = ap (λ (o : Option ℕ). option_map Register o) (registers-same s.regs);
  no_place = if_differs-same Place s.place;
  no_break = if_differs-same Break s.heap.brk;
  no_byte = ap (λ (o : Option ℕ). option_map Byte o) (bytes-same s.memory);
})

pub difference-equal : (s t : MachineState) → s ≡ t → difference s t ≡ None
difference-equal s t same = ap (difference s) (sym same) ∙ difference-same s

-- the premise of the law of histories
pub exact-rv32 : (input : List ℕ) (start : MachineState) → IsGuestState input start → Exact (rv32 input) start
exact-rv32 input start h a i k none =
    let plain = go-keeps input (fresh start) a h in
    let opened = go-keeps input (fresh start) i h in
    let fast = point-keeps input Fast (go (rv32 input) (fresh start) i).state k opened.state in
    let shared : SharesLayout (go (rv32 input) (fresh start) a).state (point (rv32 input) Fast (go (rv32 input) (fresh start) i).state k).state
    = SharesLayout-trans _ start _ (SharesLayout-sym start _ plain.layout) (SharesLayout-trans start (go (rv32 input) (fresh start) i).state _ opened.layout fast.layout) in
    difference-none input _ _ plain.state fast.state shared none
