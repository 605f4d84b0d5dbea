-- A text has one answer: its words or one fault
use Rattle.std.proofs.Common.{◌≡◌, ℕ, suc, ◌+◌, ◌*◌, ◌<◌, ◌≤◌, ◌⊎◌, inl, inr, List, [], ◌∷◌, ◌++◌, length, All, refl, sym, ap, ap₂, subst, ◌∙◌, append_assoc, append-nil, arith, length-append}
use Rattle.std.specs.Str.{IsUtf8}
use Rattle.std.proofs.lemmas.List.{append_cancel_left}
use Rattle.rv32_text.specs.FaultPlace.{IsFaultPlace}
use Rattle.rv32_text.specs.Texts.{text_of}
use Rattle.rv32_text.proofs.Telling.{word_told}
use Rattle.word_listing.specs.Packing.{most_lines, IsWord, lines_of, IsTextOfWords, first_line, IsNoWord, IsRefused, HasBadLine, HasTooManyLines, IsFault}
use Rattle.word_listing.specs.declared.fault.TextPlace.{TextPlace}
use Rattle.word_listing.proofs.PlainTexts.{plain-text, text-fed, text-utf8}
use Rattle.word_listing.proofs.TextLines.{first_line-cut, first_line-whole}

-- ---- lines

-- the text begins with the line of a word
record HasLine (text : List ℕ) : Type 0 where
  word : ℕ
  rest : List ℕ
  fits : IsWord word
  is : text ≡ text_of word ++ (10 ∷ rest)

line-first : (text : List ℕ) (h : HasLine text) → first_line text ≡ text_of h.word
line-first text h = ap first_line h.is ∙ first_line-cut (text_of h.word) h.rest (text-fed h.word)

length-line : (text : List ℕ) (h : HasLine text) → length text ≡ length (text_of h.word) + (1 + length h.rest)
length-line text h = ap length h.is ∙ length-append (text_of h.word) (10 ∷ h.rest) ∙ omega arith

nothing-lineless : HasLine [] → ⊥
nothing-lineless h = omega (arith, length-line [] h)

-- two ways to go through one text: they are the same, or one of them goes further
abbrev Compared : (vs ws x y : List ℕ) → Type 0
Compared vs ws x y = ((vs ≡ ws) × (x ≡ y)) ⊎ (((length vs < length ws) × HasLine x) ⊎ ((length ws < length vs) × HasLine y))

tail-same : (x y : List ℕ) → 10 ∷ x ≡ 10 ∷ y → x ≡ y
tail-same x y e = cc

compared-cons : (v w : ℕ) (vs ws x y : List ℕ) → v ≡ w → Compared vs ws x y → Compared (v ∷ vs) (w ∷ ws) x y
compared-cons v w vs ws x y e (inl same) = inl (ap₂ (λ u us. u ∷ us) e same.0, same.1)
compared-cons v w vs ws x y e (inr (inl further)) = inr (inl (omega (arith, further.0), further.1))
compared-cons v w vs ws x y e (inr (inr further)) = inr (inr (omega (arith, further.0), further.1))

compare : (vs ws x y : List ℕ) → All IsWord vs → All IsWord ws → lines_of vs ++ x ≡ lines_of ws ++ y → Compared vs ws x y
compare [] [] x y p q e = inl (refl, e)
compare [] (w ∷ ws) x y p q e = inr (inl (omega arith, record { word = w; rest = lines_of ws ++ y; fits = q 0 w (omega arith); is = e ∙ append_assoc (text_of w) (10 ∷ lines_of ws) y }))
compare (v ∷ vs) [] x y p q e = inr (inr (omega arith, record { word = v; rest = lines_of vs ++ x; fits = p 0 v (omega arith); is = sym e ∙ append_assoc (text_of v) (10 ∷ lines_of vs) x }))
compare (v ∷ vs) (w ∷ ws) x y p q e =
    compared-cons v w vs ws x y (word_told v w (p 0 v (omega arith)) (q 0 w (omega arith)) texts)
    (compare vs ws x y (λ k d l. p (suc k) d (omega arith)) (λ k d l. q (suc k) d (omega arith)) rests)
  where
    lines : text_of v ++ (10 ∷ (lines_of vs ++ x)) ≡ text_of w ++ (10 ∷ (lines_of ws ++ y))
    lines = sym (append_assoc (text_of v) (10 ∷ lines_of vs) x) ∙ e ∙ append_assoc (text_of w) (10 ∷ lines_of ws) y

    texts : text_of v ≡ text_of w
    texts = sym (first_line-cut (text_of v) (lines_of vs ++ x) (text-fed v)) ∙ ap first_line lines ∙ first_line-cut (text_of w) (lines_of ws ++ y) (text-fed w)

    rests : lines_of vs ++ x ≡ lines_of ws ++ y
    rests = tail-same (lines_of vs ++ x) (lines_of ws ++ y)
        (append_cancel_left (text_of v) (10 ∷ (lines_of vs ++ x)) (10 ∷ (lines_of ws ++ y)) (lines ∙ ap (λ t. t ++ (10 ∷ (lines_of ws ++ y))) (sym texts)))

-- ---- refused lines

no_word-text : (line : List ℕ) (place w : ℕ) → IsNoWord line place → IsWord w → line ≡ text_of w → ⊥
no_word-text line place w (inl bytes) fits e = bytes.0 (subst IsUtf8 (sym e) (text-utf8 w))
no_word-text line place w (inr wrong) fits e = wrong.no_word w (record { fits = fits; is = e })

refused-lineless : (text : List ℕ) (place : ℕ) → IsRefused text place → HasLine text → ⊥
refused-lineless text place (inl wrong) h = no_word-text (first_line text) place h.word wrong h.fits (line-first text h)
refused-lineless text place (inr lacks) h =
    let whole : first_line text ≡ text = ap first_line lacks.text_is.is ∙ first_line-whole (text_of lacks.word) (text-fed lacks.word) ∙ sym lacks.text_is.is in
    let count : length text ≡ length (text_of h.word) = ap length (sym whole ∙ line-first text h) in
    omega (arith, count, length-line text h)

place-once : (line : List ℕ) (p q : ℕ) → IsFaultPlace line p → IsFaultPlace line q → p ≡ q
place-once line p q h k = omega (arith, k.longest p h.within h.shared, h.longest q k.within k.shared)

no_word-once : (line : List ℕ) (p q : ℕ) → IsNoWord line p → IsNoWord line q → p ≡ q
no_word-once line p q (inl h) (inl k) = h.1 ∙ sym k.1
no_word-once line p q (inl h) (inr k) = absurd (h.0 k.utf8)
no_word-once line p q (inr h) (inl k) = absurd (k.0 h.utf8)
no_word-once line p q (inr h) (inr k) = place-once line p q h.place_is k.place_is

-- a word's text as a whole is its first line
lacks-first : (text : List ℕ) (w : ℕ) → text ≡ text_of w → first_line text ≡ text_of w
lacks-first text w e = ap first_line e ∙ first_line-whole (text_of w) (text-fed w)

refused-once : (text : List ℕ) (p q : ℕ) → IsRefused text p → IsRefused text q → p ≡ q
refused-once text p q (inl h) (inl k) = no_word-once (first_line text) p q h k
refused-once text p q (inl h) (inr k) = absurd (no_word-text (first_line text) p k.word h k.text_is.fits (lacks-first text k.word k.text_is.is))
refused-once text p q (inr h) (inl k) = absurd (no_word-text (first_line text) q h.word k h.text_is.fits (lacks-first text h.word h.text_is.is))
refused-once text p q (inr h) (inr k) = h.place_is ∙ sym k.place_is

-- ---- faults

abbrev at : ℕ → ℕ → TextPlace
at line place = record { line = line; place = place }

same-place : (f g : TextPlace) → f.line ≡ g.line → f.place ≡ g.place → f ≡ g
same-place f g l p = ap₂ at l p

module _ (text : List ℕ) where
  bad-once : (f g : TextPlace) → HasBadLine text f → HasBadLine text g → f ≡ g
  bad-once f g h k =
      elim (compare h.words k.words h.behind k.behind h.has.lines.fit k.has.lines.fit (sym h.has.lines.parts ∙ k.has.lines.parts)) [
        | inl same ↦ same-place f g
            (h.has.line ∙ ap (λ (ws : List ℕ). length ws + 1) same.0 ∙ sym k.has.line)
            (refused-once h.behind f.place g.place h.refused (subst (λ (b : List ℕ). IsRefused b g.place) (sym same.1) k.refused))
        | inr (inl further) ↦ absurd (refused-lineless h.behind f.place h.refused further.1)
        | inr (inr further) ↦ absurd (refused-lineless k.behind g.place k.refused further.1)
      ]

  bad-few : (f g : TextPlace) → HasBadLine text f → HasTooManyLines text g → ⊥
  bad-few f g h k =
      elim (compare h.words k.words h.behind k.behind h.has.lines.fit k.has.lines.fit (sym h.has.lines.parts ∙ k.has.lines.parts)) [
        | inl same ↦ (let e : length h.words ≡ length k.words = ap length same.0 in omega (arith, h.count, k.count))
        | inr (inl further) ↦ refused-lineless h.behind f.place h.refused further.1
        | inr (inr further) ↦ omega (arith, h.count, k.count, further.0)
      ]

  many-once : (f g : TextPlace) → HasTooManyLines text f → HasTooManyLines text g → f ≡ g
  many-once f g h k = same-place f g (omega (arith, h.has.line, h.count, k.has.line, k.count)) (h.place ∙ sym k.place)

  pub fault-once : (f g : TextPlace) → IsFault text f → IsFault text g → f ≡ g
  fault-once f g (inl h) (inl k) = h.told ∙ sym k.told
  fault-once f g (inl h) (inr (inl k)) = absurd (omega (arith, h.bytes, k.has.bytes))
  fault-once f g (inl h) (inr (inr k)) = absurd (omega (arith, h.bytes, k.has.bytes))
  fault-once f g (inr (inl h)) (inl k) = absurd (omega (arith, h.has.bytes, k.bytes))
  fault-once f g (inr (inr h)) (inl k) = absurd (omega (arith, h.has.bytes, k.bytes))
  fault-once f g (inr (inl h)) (inr (inl k)) = bad-once f g h k
  fault-once f g (inr (inl h)) (inr (inr k)) = absurd (bad-few f g h k)
  fault-once f g (inr (inr h)) (inr (inl k)) = absurd (bad-few g f k h)
  fault-once f g (inr (inr h)) (inr (inr k)) = many-once f g h k

  pub words-once : (vs ws : List ℕ) → IsTextOfWords text vs → IsTextOfWords text ws → vs ≡ ws
  words-once vs ws h k =
      elim (compare vs ws [] [] h.lines.fit k.lines.fit (sym h.lines.parts ∙ k.lines.parts)) [
        | inl same ↦ same.0
        | inr (inl further) ↦ absurd (nothing-lineless further.1)
        | inr (inr further) ↦ absurd (nothing-lineless further.1)
      ]

  words-good : (ws : List ℕ) (f : TextPlace) → IsTextOfWords text ws → HasBadLine text f → ⊥
  words-good ws f h k =
      elim (compare ws k.words [] k.behind h.lines.fit k.has.lines.fit (sym h.lines.parts ∙ k.has.lines.parts)) [
        | inl same ↦ k.has.more (sym same.1)
        | inr (inl further) ↦ nothing-lineless further.1
        | inr (inr further) ↦ refused-lineless k.behind f.place k.refused further.1
      ]

  words-few : (ws : List ℕ) (f : TextPlace) → IsTextOfWords text ws → HasTooManyLines text f → ⊥
  words-few ws f h k =
      elim (compare ws k.words [] k.behind h.lines.fit k.has.lines.fit (sym h.lines.parts ∙ k.has.lines.parts)) [
        | inl same ↦ k.has.more (sym same.1)
        | inr (inl further) ↦ nothing-lineless further.1
        | inr (inr further) ↦ omega (arith, h.count, k.count, further.0)
      ]

  pub words-faultless : (ws : List ℕ) (f : TextPlace) → IsTextOfWords text ws → IsFault text f → ⊥
  words-faultless ws f h (inl k) = omega (arith, h.bytes, k.bytes)
  words-faultless ws f h (inr (inl k)) = words-good ws f h k
  words-faultless ws f h (inr (inr k)) = words-few ws f h k

-- ---- the lines of words are within the limits

lines-short : (ws : List ℕ) → length (lines_of ws) ≤ 26 * length ws
lines-short [] = omega arith
lines-short (w ∷ ws) = omega (arith, length-append (text_of w) (10 ∷ lines_of ws), (plain-text w).count, lines-short ws)

pub lines-text : (ws : List ℕ) → All IsWord ws → length ws ≤ most_lines → IsTextOfWords (lines_of ws) ws
lines-text ws fit few = record {
  bytes = omega (arith, lines-short ws);
  count = few;
  lines = record { fit = fit; parts = sym (append-nil (lines_of ws)) };
}
