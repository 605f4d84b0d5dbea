-- Texts without a certain byte
use Rattle.std.proofs.Common.{◌≡◌, ◌≢◌, ℕ, zero, suc, ◌<◌, Bool, true, false, not, ◌&&◌, nat_eq, List, [], ◌∷◌, ◌++◌, length, get_or, refl, sym, ap, ap₂, ◌∙◌, arith, tests}
use Rattle.std.proofs.lemmas.Bool.{eq-eqb}

-- no byte of the text is this one
abbrev pub Lacks : ℕ → List ℕ → Type 0
Lacks c bs = (i : ℕ) → i < length bs → get_or bs i 0 ≢ c

pub lacks_cons : (c b : ℕ) (bs : List ℕ) → b ≢ c → Lacks c bs → Lacks c (b ∷ bs)
lacks_cons c b bs p q zero inside = p
lacks_cons c b bs p q (suc i) inside = q i (omega arith)

pub lacks_append : (c : ℕ) (xs ys : List ℕ) → Lacks c xs → Lacks c ys → Lacks c (xs ++ ys)
lacks_append c [] ys p q = q
lacks_append c (x ∷ xs) ys p q = lacks_cons c x (xs ++ ys) (p 0 (omega arith)) (lacks_append c xs ys (λ i h. p (suc i) (omega arith)) q)

abbrev pub lacks : ℕ → List ℕ → Bool
lacks c [] = true
lacks c (b ∷ bs) = not (nat_eq b c) && lacks c bs

-- the same by a test
pub lacks_by : (c : ℕ) (bs : List ℕ) → lacks c bs ≡ true → Lacks c bs
lacks_by c [] t i inside = absurd (omega arith)
lacks_by c (b ∷ bs) t i inside = lacks_cons c b bs (λ e. grind (arith, tests)) (lacks_by c bs (grind (arith, tests))) i inside

at_cut : (c : ℕ) (xs ys : List ℕ) → (length xs < length (xs ++ (c ∷ ys))) × (get_or (xs ++ (c ∷ ys)) (length xs) 0 ≡ c)
at_cut c [] ys = (omega arith, refl)
at_cut c (x ∷ xs) ys = let h = at_cut c xs ys in (omega (arith, h.0), h.1)

-- a text that lacks a byte can't be cut at it
pub lacks_no_cut : (c : ℕ) (xs ys bs : List ℕ) → Lacks c bs → bs ≡ xs ++ (c ∷ ys) → ⊥
lacks_no_cut c xs ys bs p is = let h = at_cut c xs ys in let q : Lacks c (xs ++ (c ∷ ys)) = rw (← is) p in q (length xs) h.0 h.1

-- texts that are cut at their first byte c agree in both parts
pub cut_same : (c : ℕ) (xs us ys vs : List ℕ) → Lacks c xs → Lacks c us → xs ++ (c ∷ ys) ≡ us ++ (c ∷ vs) → (xs ≡ us) × (ys ≡ vs)
cut_same c [] [] ys vs p q h = (refl, cc)
cut_same c [] (u ∷ us) ys vs p q h = absurd (q 0 (omega arith) (cc))
cut_same c (x ∷ xs) [] ys vs p q h = absurd (p 0 (omega arith) (cc))
cut_same c (x ∷ xs) (u ∷ us) ys vs p q h =
    let first : x ≡ u = cc in
    let rest = cut_same c xs us ys vs (λ i l. p (suc i) (omega arith)) (λ i l. q (suc i) (omega arith)) (cc) in
    (ap₂ (λ y zs. y ∷ zs) first rest.0, rest.1)

abbrev pub same_bytes : List ℕ → List ℕ → Bool
same_bytes [] [] = true
same_bytes [] (y ∷ ys) = false
same_bytes (x ∷ xs) [] = false
same_bytes (x ∷ xs) (y ∷ ys) = nat_eq x y && same_bytes xs ys

same_bytes-refl : (xs : List ℕ) → same_bytes xs xs ≡ true
same_bytes-refl [] = refl
same_bytes-refl (x ∷ xs) = ap₂ (λ b c. b && c) (eq-eqb x x refl) (same_bytes-refl xs)

-- texts that the test tells apart are two
pub apart : (xs ys : List ℕ) → same_bytes xs ys ≡ false → xs ≡ ys → ⊥
apart xs ys t e = let same : same_bytes xs ys ≡ true = ap (same_bytes xs) (sym e) ∙ same_bytes-refl xs in absurd (cc)
