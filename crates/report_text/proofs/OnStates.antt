-- Texts that grow by a register or by a byte.
use Rattle.std.proofs.Common.{◌≡◌, ℕ, suc, ◌+◌, ◌-◌, ◌<◌, ◌≤◌, List, [], ◌∷◌, ◌++◌, length, take, get_or, flat_map, sym, ap, ◌∙◌, append_assoc, arith}
use Rattle.std.specs.Prelude.{codes, decimal}
use Rattle.std.proofs.lemmas.Grind.{flat_map-append}
use Rattle.std.proofs.lemmas.List.{take_more}
use Rattle.guest_model.specs.Registers.{RegFile, reg}
use Rattle.report_text.specs.Texts.{byte_text, address_text}
use Rattle.report_text.specs.States.{register_text, registers_text}

registers-more : (f : RegFile) (r : ℕ) → 2 ≤ r → registers_text f (r + 1 - 2) ≡ registers_text f (r - 2) ++ (codes " " ++ register_text f r)
unfolding registers_text
registers-more f r low =
    let n = r - 2 in
    let next : r + 1 - 2 ≡ suc n = omega arith in
    let here : n + 2 ≡ r = omega arith in
    ap (registers_text f) next ∙ ap (λ i. registers_text f n ++ (codes " " ++ register_text f i)) here

-- register r was added to those before it
pub text-register : (f : RegFile) (r v : ℕ) (first old new : List ℕ) → 2 ≤ r → v ≡ reg f r → old ≡ first ++ registers_text f (r - 2) → new ≡ old ++ (codes " x" ++ (decimal r ++ (codes " " ++ address_text v)))
    → new ≡ first ++ registers_text f (r + 1 - 2)
text-register f r v first old new low is before added =
    added ∙ ap (λ xs. xs ++ (codes " x" ++ (decimal r ++ (codes " " ++ address_text v)))) before ∙ append_assoc first (registers_text f (r - 2)) (codes " x" ++ (decimal r ++ (codes " " ++ address_text v)))
    ∙ ap (λ i. first ++ (registers_text f (r - 2) ++ (codes " x" ++ (decimal r ++ (codes " " ++ address_text i))))) is ∙ ap (λ xs. first ++ xs) (sym (registers-more f r low))

-- byte i was added to those before it
pub text-byte : (bs : List ℕ) (i : ℕ) (first old new : List ℕ) → i < length bs → old ≡ first ++ flat_map byte_text (take i bs) → new ≡ old ++ byte_text (get_or bs i 0) → new ≡ first ++ flat_map byte_text (take (i + 1) bs)
text-byte bs i first old new less before added =
    let more : flat_map byte_text (take (i + 1) bs) ≡ flat_map byte_text (take i bs) ++ byte_text (get_or bs i 0)
    = ap (flat_map byte_text) (take_more bs i 0 less) ∙ flat_map-append byte_text (take i bs) (get_or bs i 0 ∷ []) in
    added ∙ ap (λ xs. xs ++ byte_text (get_or bs i 0)) before ∙ append_assoc first (flat_map byte_text (take i bs)) (byte_text (get_or bs i 0)) ∙ ap (λ xs. first ++ xs) (sym more)

-- four parts, added one after the other
pub text-parts : (a b c d text₁ text₂ text₃ text₄ : List ℕ) → text₁ ≡ a → text₂ ≡ text₁ ++ b → text₃ ≡ text₂ ++ c → text₄ ≡ text₃ ++ d → text₄ ≡ a ++ (b ++ (c ++ d))
text-parts a b c d text₁ text₂ text₃ text₄ e₁ e₂ e₃ e₄ =
    e₄ ∙ ap (λ xs. xs ++ d) (e₃ ∙ ap (λ xs. xs ++ c) (e₂ ∙ ap (λ xs. xs ++ b) e₁)) ∙ append_assoc (a ++ b) c d ∙ append_assoc a b (c ++ d)
