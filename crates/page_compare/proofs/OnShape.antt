-- A store in one of two memories that began as one
use Rattle.std.proofs.Common.{◌≡◌, ℕ, ◌+◌, ◌-◌, ◌/◌, ◌<◌, ◌≤◌, ◌⊎◌, inl, inr, Bool, true, false, List, length, is_some, Result, Ok, Err, refl, sym, ◌∙◌, ap, arith}
use Rattle.std.proofs.lemmas.Bool.{cases_lt, false≢true}
use Rattle.guest_model.specs.ByteMap.{ByteMap, mapped, write, Stores, Keeps}
use Rattle.guest_model.specs.declared.memory.StoreFault.{StoreFault}
use Rattle.guest_model.specs.declared.memory.StoreFault.TheVariants.{Unmapped, NoMemory}
use Rattle.guest_model.proofs.OnByteMap.{mapped-at, write-inside, write-outside}
use Rattle.paged_image.specs.WriteSet.{has}
use Rattle.page_compare.specs.Comparison.{SameShape, AgreeOutside}

shape-write : (m : ByteMap) (a : ℕ) (bs : List ℕ) → mapped m a (length bs) ≡ true → (q : ℕ) → is_some (write m a bs q) ≡ is_some (m q)
shape-write m a bs there q = by_place (cases_lt q a) (cases_lt q (a + length bs))
  where
    by_place : (q < a) ⊎ (a ≤ q) → (q < a + length bs) ⊎ (a + length bs ≤ q) → is_some (write m a bs q) ≡ is_some (m q)
    by_place (inl l) _ = ap is_some (write-outside m a bs q (inl l))
    by_place (inr l) (inr r) = ap is_some (write-outside m a bs q (inr r))
    by_place (inr l) (inl r) =
        let e : a + (q - a) ≡ q = omega arith in
        ap is_some (write-inside m a bs q l r) ∙ sym (mapped-at m a (length bs) (q - a) there (omega arith)) ∙ ap (λ (i : ℕ). is_some (m i)) e

-- a store leaves the mapped addresses as they are
pub shape-stores : (refuses : Bool) (m n : ByteMap) (a : ℕ) (bs : List ℕ) (r : Result (Unit {0}) StoreFault) → Stores refuses m n a bs r → SameShape m n
shape-stores refuses m n a bs (Ok _) h q = sym (ap (λ (b : ByteMap). is_some (b q)) h.1 ∙ shape-write m a bs h.0 q)
shape-stores refuses m n a bs (Err Unmapped) h q = sym (ap (λ (b : ByteMap). is_some (b q)) h.1)
shape-stores refuses m n a bs (Err NoMemory) h q = sym (ap (λ (b : ByteMap). is_some (b q)) h.2)

false_unless : (b : Bool) → (b ≡ true → ⊥) → b ≡ false
false_unless true h = absurd (h refl)
false_unless false h = refl

-- outside of the write sets the two agree still
pub outside-left : (us vs ws : List ℕ) (m l n : ByteMap) → AgreeOutside us ws m n → Keeps (λ q. has us (q / 4096)) m (λ q. has vs (q / 4096)) l → AgreeOutside vs ws l n
outside-left us vs ws m l n h k q gone other =
    k.outside q gone ∙ h q (false_unless (has us (q / 4096)) (λ was. false≢true (sym gone ∙ k.stays q was))) other

pub outside-right : (us ws vs : List ℕ) (m n l : ByteMap) → AgreeOutside us ws m n → Keeps (λ q. has ws (q / 4096)) n (λ q. has vs (q / 4096)) l → AgreeOutside us vs m l
outside-right us ws vs m n l h k q other gone =
    h q other (false_unless (has ws (q / 4096)) (λ was. false≢true (sym gone ∙ k.stays q was))) ∙ sym (k.outside q gone)
