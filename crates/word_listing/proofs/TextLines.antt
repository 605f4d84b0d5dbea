-- The lines of a text, one after another
use Rattle.std.proofs.Common.{◌≡◌, ◌≢◌, ℕ, suc, ◌+◌, ◌<◌, List, [], ◌∷◌, ◌++◌, length, All, refl, sym, ap, ◌∙◌, append_assoc, arith, length-append}
use Rattle.std.proofs.lemmas.Bool.{ne_eqb}
use Rattle.std.proofs.lemmas.List.Elements.{All-append}
use Rattle.rv32_text.specs.Texts.{text_of}
use Rattle.word_listing.specs.Packing.{IsWord, lines_of, BeginsWith, first_line}

-- ---- the first line

abbrev pub Fed : ℕ → Type 0
Fed b = b ≢ 10

later : (b : ℕ) (bs : List ℕ) → All Fed (b ∷ bs) → All Fed bs
later b bs h k d l = h (suc k) d (omega arith)

pub first_line-whole : (text : List ℕ) → All Fed text → first_line text ≡ text
first_line-whole [] h = refl
first_line-whole (b ∷ bs) h = rw (ne_eqb b 10 (h 0 b (omega arith))) (ap (λ t. b ∷ t) (first_line-whole bs (later b bs h)))

pub first_line-cut : (line behind : List ℕ) → All Fed line → first_line (line ++ (10 ∷ behind)) ≡ line
first_line-cut [] behind h = refl
first_line-cut (b ∷ bs) behind h = rw (ne_eqb b 10 (h 0 b (omega arith))) (ap (λ t. b ∷ t) (first_line-cut bs behind (later b bs h)))

-- ---- lines of words

lines_of-append : (vs ws : List ℕ) → lines_of (vs ++ ws) ≡ lines_of vs ++ lines_of ws
lines_of-append [] ws = refl
lines_of-append (v ∷ vs) ws = ap (λ t. text_of v ++ (10 ∷ t)) (lines_of-append vs ws) ∙ sym (append_assoc (text_of v) (10 ∷ lines_of vs) (lines_of ws))

pub begins-none : (text : List ℕ) → BeginsWith text [] text
begins-none text = record { fit = λ k d h. absurd (omega arith); parts = refl }

-- one line more
pub begins-more : (text ws rest : List ℕ) (w : ℕ) (behind : List ℕ) → BeginsWith text ws rest → BeginsWith rest (w ∷ []) behind → BeginsWith text (ws ++ w ∷ []) behind
begins-more text ws rest w behind h k = record {
  fit = All-append IsWord ws (w ∷ []) h.fit k.fit;
  parts =
      h.parts
      ∙ ap (λ t. lines_of ws ++ t) k.parts
      ∙ sym (append_assoc (lines_of ws) (lines_of (w ∷ [])) behind)
      ∙ ap (λ t. t ++ behind) (sym (lines_of-append ws (w ∷ [])));
}

-- less text stands behind a line
pub behind-shorter : (rest : List ℕ) (w : ℕ) (behind : List ℕ) → BeginsWith rest (w ∷ []) behind → length behind < length rest
behind-shorter rest w behind h =
    let all : length rest ≡ length (lines_of (w ∷ []) ++ behind) = ap length h.parts in
    let front : length (lines_of (w ∷ [])) ≡ length (text_of w) + 1 = length-append (text_of w) (10 ∷ []) in
    omega (arith, all, front, length-append (lines_of (w ∷ [])) behind)
