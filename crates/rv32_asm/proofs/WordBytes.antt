-- Where the bytes of words stand
use Rattle.std.proofs.Common.{◌≡◌, ℕ, zero, suc, ◌+◌, ◌*◌, ◌<◌, List, [], ◌∷◌, ◌++◌, length, get_or, arith, refl, ap, ◌∙◌}
use Rattle.std.specs.Int.{w32, to_le_bytes}
use Rattle.rv32_asm.specs.SmallImage.{word_bytes}

pub length-word_bytes : (ws : List ℕ) → length (word_bytes ws) ≡ 4 * length ws
length-word_bytes [] = refl
length-word_bytes (w ∷ ws) = omega (arith, length-word_bytes ws)

-- byte j of word k
pub get_or-word_bytes : (ws ps : List ℕ) (k j : ℕ) → k < length ws → j < 4
    → get_or (word_bytes ws ++ ps) (4 * k + j) 0 ≡ get_or (to_le_bytes w32 (get_or ws k 0)) j 0
get_or-word_bytes [] ps k j h b = absurd (omega arith)
get_or-word_bytes (w ∷ ws) ps zero zero h b = refl
get_or-word_bytes (w ∷ ws) ps zero (suc zero) h b = refl
get_or-word_bytes (w ∷ ws) ps zero (suc (suc zero)) h b = refl
get_or-word_bytes (w ∷ ws) ps zero (suc (suc (suc zero))) h b = refl
get_or-word_bytes (w ∷ ws) ps zero (suc (suc (suc (suc j)))) h b = absurd (omega arith)
get_or-word_bytes (w ∷ ws) ps (suc k) j h b =
    let four : 4 * suc k + j ≡ suc (suc (suc (suc (4 * k + j)))) = omega arith in
    ap (λ i. get_or (word_bytes (w ∷ ws) ++ ps) i 0) four ∙ get_or-word_bytes ws ps k j (omega arith) b

pub get_or-placed : (ws ps : List ℕ) (k : ℕ) → get_or (word_bytes ws ++ ps) (4 * length ws + k) 0 ≡ get_or ps k 0
get_or-placed [] ps k = ap (λ i. get_or ps i 0) (omega arith)
get_or-placed (w ∷ ws) ps k =
    let four : 4 * suc (length ws) + k ≡ suc (suc (suc (suc (4 * length ws + k)))) = omega arith in
    ap (λ i. get_or (word_bytes (w ∷ ws) ++ ps) i 0) four ∙ get_or-placed ws ps k
