-- From where a reader stops to the place of a fault
use Rattle.std.proofs.Common.{◌≡◌, ◌≢◌, ℕ, zero, suc, ◌+◌, ◌<◌, ◌≤◌, ◌^◌, List, [], ◌∷◌, ◌++◌, length, get_or, take, drop, refl, sym, ap, subst, ◌∙◌, inl, inr, arith, append_assoc, length-append, Result, Ok, Err}
use Rattle.std.specs.Prelude.{MatchResult}
use Rattle.std.proofs.lemmas.List.{take_at, take-append-le, take-take, take-append-drop, get_or_at, append_cancel_left, append_cancel_right, append-nil}
use Rattle.std.proofs.lemmas.Bool.{cases_lt}
use Rattle.guest_model.specs.InstructionTable.{instr}
use Rattle.rv32_text.specs.declared.mnemonic.Mnemonic.{Mnemonic}
use Rattle.rv32_text.specs.Languages.{ended, rest, Stops, StopsAt}
use Rattle.rv32_text.specs.FaultPlace.{BeginsWordText, IsFaultPlace}
use Rattle.rv32_text.specs.Mnemonics.{HasNoStart}
use Rattle.rv32_text.specs.Shapes.{Shape, IsWordRead}
use Rattle.rv32_text.specs.Starts.{start_of, mnemonic_by}
use Rattle.rv32_text.specs.Texts.{operands_by, text_of}
use Rattle.rv32_text.proofs.Languages.{Each, each_front, each_back}
use Rattle.rv32_text.proofs.Decimals.{cut_before_last}
use Rattle.rv32_text.proofs.MnemonicTable.{start_told}
use Rattle.rv32_text.proofs.WordShapes.{text_by, word_shape, shape_example}

-- the text of some word, with its end
pub record IsWordText (t : List ℕ) : Type 0 where
  pub word : ℕ
  pub fits : word < 2 ^ 32
  pub is : t ≡ ended (text_of word)

each_byte : (text : List ℕ) → ((i : ℕ) → get_or text i 0 < 256) → Each (λ c. c < 256) text
each_byte [] h = tt
each_byte (c ∷ cs) h = (h 0, each_byte cs (λ i. h (suc i)))

start_is : (w : ℕ) → ended (text_of w) ≡ start_of (mnemonic_by (instr w)) ++ ended (operands_by (instr w) w)
start_is w = append_assoc (start_of (mnemonic_by (instr w))) (operands_by (instr w) w) (256 ∷ [])

-- ---- behind a start that the text has

module _ (m : Mnemonic) (text : List ℕ) (place : ℕ) (begins : ended text ≡ start_of m ++ rest text (length (start_of m))) where
  pub stops_behind_start : StopsAt (Shape m) text (length (start_of m)) place → Stops IsWordText (ended text) place
  stops_behind_start s_at =
      let h = s_at.stops in
      let s = text_by m (h.front ++ h.more) h.reached in
      record {
        front = start_of m ++ h.front;
        letter = h.letter;
        after = h.after;
        more = h.more;
        splits = begins ∙ (ap (λ (x : List ℕ). start_of m ++ x) h.splits ∙ sym (append_assoc (start_of m) h.front (h.letter ∷ h.after)));
        place_is = length-append (start_of m) h.front ∙ (ap (λ (x : ℕ). length (start_of m) + x) h.place_is ∙ sym s_at.place_is);
        reached = record {
          word = s.word;
          fits = s.fits;
          is = append_assoc (start_of m) h.front h.more ∙ (ap (λ (x : List ℕ). start_of m ++ x) s.is
              ∙ (ap (λ (n : Mnemonic). start_of n ++ ended (operands_by (instr s.word) s.word)) (sym s.mnemonic_is) ∙ sym (start_is s.word)));
        };
        no_further = λ t u v w e.
            (let left : t ++ u ≡ start_of (mnemonic_by (instr w.word)) ++ (ended (operands_by (instr w.word) w.word) ++ u) =
            ap (λ (x : List ℕ). x ++ u) (w.is ∙ start_is w.word) ∙ append_assoc (start_of (mnemonic_by (instr w.word))) (ended (operands_by (instr w.word) w.word)) u in
            let both : start_of (mnemonic_by (instr w.word)) ++ (ended (operands_by (instr w.word) w.word) ++ u) ≡ start_of m ++ (h.front ++ (h.letter ∷ v)) =
            sym left ∙ (e ∙ append_assoc (start_of m) h.front (h.letter ∷ v)) in
            let same : mnemonic_by (instr w.word) ≡ m = start_told (mnemonic_by (instr w.word)) m (ended (operands_by (instr w.word) w.word) ++ u) (h.front ++ (h.letter ∷ v)) both in
            h.no_further (ended (operands_by (instr w.word) w.word)) u v
            (subst (λ (n : Mnemonic). Shape n (ended (operands_by (instr w.word) w.word))) same (word_shape w.word w.fits))
            (append_cancel_left (start_of m) (ended (operands_by (instr w.word) w.word) ++ u) (h.front ++ (h.letter ∷ v))
            (ap (λ (n : Mnemonic). start_of n ++ (ended (operands_by (instr w.word) w.word) ++ u)) (sym same) ∙ both)));
      }

-- ---- a text with no start

letters_agree : (front : List ℕ) (letter : ℕ) (a b : List ℕ) (j : ℕ) → j ≤ length front → get_or (front ++ (letter ∷ a)) j 0 ≡ get_or (front ++ (letter ∷ b)) j 0
letters_agree [] letter a b zero h = refl
letters_agree [] letter a b (suc j) h = absurd (omega arith)
letters_agree (f ∷ fs) letter a b zero h = refl
letters_agree (f ∷ fs) letter a b (suc j) h = letters_agree fs letter a b j (omega arith)

pub stops_before_start : (text : List ℕ) (place : ℕ) → HasNoStart text place → Stops IsWordText (ended text) place
stops_before_start text place h =
    let d = h.longest.differs in
    let e = shape_example h.longest.mnemonic in
    let s = text_by h.longest.mnemonic e.text e.holds in
    record {
      front = d.front;
      letter = d.letter;
      after = d.after;
      more = (d.wanted ∷ d.missing) ++ e.text;
      splits = d.letter_is;
      place_is = d.place_is;
      reached = record {
        word = s.word;
        fits = s.fits;
        is = sym (append_assoc d.front (d.wanted ∷ d.missing) e.text) ∙ (ap (λ (x : List ℕ). x ++ e.text) (sym d.wanted_is) ∙ (ap (λ (x : List ℕ). start_of h.longest.mnemonic ++ x) s.is
            ∙ (ap (λ (n : Mnemonic). start_of n ++ ended (operands_by (instr s.word) s.word)) (sym s.mnemonic_is) ∙ sym (start_is s.word))));
      };
      no_further = λ t u v w same.
          (let p = h.each (mnemonic_by (instr w.word)) in
          let q = p.differs in
          let written : t ++ u ≡ q.front ++ (q.wanted ∷ (q.missing ++ (ended (operands_by (instr w.word) w.word) ++ u))) =
          ap (λ (x : List ℕ). x ++ u) (w.is ∙ start_is w.word)
          ∙ (append_assoc (start_of (mnemonic_by (instr w.word))) (ended (operands_by (instr w.word) w.word)) u
          ∙ (ap (λ (x : List ℕ). x ++ (ended (operands_by (instr w.word) w.word) ++ u)) q.wanted_is ∙ append_assoc q.front (q.wanted ∷ q.missing) (ended (operands_by (instr w.word) w.word) ++ u))) in
          let one : get_or (t ++ u) p.shared 0 ≡ q.wanted =
          ap (λ (x : List ℕ). get_or x p.shared 0) written ∙ get_or_at q.front q.wanted (q.missing ++ (ended (operands_by (instr w.word) w.word) ++ u)) 0 p.shared q.place_is in
          let two : get_or (d.front ++ (d.letter ∷ v)) p.shared 0 ≡ q.letter =
          letters_agree d.front d.letter v d.after p.shared (omega (arith, p.bound, d.place_is))
          ∙ (ap (λ (x : List ℕ). get_or x p.shared 0) (sym d.letter_is ∙ q.letter_is) ∙ get_or_at q.front q.letter q.after 0 p.shared q.place_is) in
          q.differ (sym one ∙ (ap (λ (x : List ℕ). get_or x p.shared 0) same ∙ two)));
    }

-- ---- the place

module _ (text : List ℕ) (place : ℕ) (bytes : (i : ℕ) → get_or text i 0 < 256) (h : Stops IsWordText (ended text) place) where
  within : place ≤ length text
  within =
      let whole : length (ended text) ≡ length text + 1 = length-append text (256 ∷ []) in
      let parts : length (ended text) ≡ length h.front + suc (length h.after) = ap length h.splits ∙ length-append h.front (h.letter ∷ h.after) in
      omega (arith, h.place_is)

  front_is : take place text ≡ h.front
  front_is =
      sym (take-append-le place text (256 ∷ []) within) ∙ (ap (λ (x : List ℕ). take place x) h.splits ∙ take_at h.front (h.letter ∷ h.after) place h.place_is)

  front_bytes : Each (λ c. c < 256) h.front
  front_bytes =
      let all : Each (λ c. c < 256) (take place text ++ drop place text) = subst (λ (x : List ℕ). Each (λ c. c < 256) x) (sym (take-append-drop place text)) (each_byte text bytes) in
      subst (λ (x : List ℕ). Each (λ c. c < 256) x) front_is (each_front (λ c. c < 256) (take place text) (drop place text) all)

  shared : BeginsWordText h.front
  shared =
      let w = h.reached in
      elim (cut_before_last (text_of w.word) h.front h.more 256 (sym w.is)) [
        | inl none ↦
            (let whole : text_of w.word ++ (256 ∷ []) ≡ h.front = sym w.is ∙ (ap (λ (x : List ℕ). h.front ++ x) none ∙ append-nil h.front) in
            let all : Each (λ c. c < 256) (text_of w.word ++ (256 ∷ [])) = subst (λ (x : List ℕ). Each (λ c. c < 256) x) (sym whole) front_bytes in
            let last = (each_back (λ c. c < 256) (text_of w.word) (256 ∷ []) all).0 in
            absurd (omega (arith, last)))
        | inr cut ↦ record { word = w.word; more = cut.middle; fits = w.fits; is = cut.before }
      ]

  -- no word's text goes on with the next letter
  pub not_longer : (w : ℕ) (v : List ℕ) → w < 2 ^ 32 → text_of w ≡ h.front ++ (h.letter ∷ v) → ⊥
  not_longer w v small e =
      h.no_further (ended (text_of w)) [] (v ++ (256 ∷ [])) (record { word = w; fits = small; is = refl })
      (append-nil (ended (text_of w)) ∙ (ap (λ (x : List ℕ). ended x) e ∙ append_assoc h.front (h.letter ∷ v) (256 ∷ [])))

  longer_front : (n : ℕ) → n ≤ length text → place < n → (x : List ℕ) → take n text ≡ x → x ≡ h.front ++ (h.letter ∷ drop (suc place) x)
  longer_front n inside more x is =
      let whole : take n text ≡ take n (h.front ++ (h.letter ∷ h.after)) = sym (take-append-le n text (256 ∷ []) inside) ∙ ap (λ (y : List ℕ). take n y) h.splits in
      let part : take (suc place) text ≡ h.front ++ (h.letter ∷ []) =
      sym (take-append-le (suc place) text (256 ∷ []) (omega arith)) ∙ (ap (λ (y : List ℕ). take (suc place) y) (h.splits ∙ sym (append_assoc h.front (h.letter ∷ []) h.after))
      ∙ take_at (h.front ++ (h.letter ∷ [])) h.after (suc place) (length-append h.front (h.letter ∷ []) ∙ (omega (arith, h.place_is)))) in
      let begins : take (suc place) x ≡ h.front ++ (h.letter ∷ []) = ap (λ (y : List ℕ). take (suc place) y) (sym is) ∙ (take-take (suc place) n text (omega arith) ∙ part) in
      sym (take-append-drop (suc place) x) ∙ (ap (λ (y : List ℕ). y ++ drop (suc place) x) begins ∙ append_assoc h.front (h.letter ∷ []) (drop (suc place) x))

  longest : (n : ℕ) → n ≤ length text → BeginsWordText (take n text) → n ≤ place
  longest n inside b =
      elim (cases_lt place n) [
        | inl more ↦ absurd (not_longer b.word (drop (suc place) (take n text) ++ b.more) b.fits
            (b.is ∙ (ap (λ (x : List ℕ). x ++ b.more) (longer_front n inside more (take n text) refl) ∙ append_assoc h.front (h.letter ∷ drop (suc place) (take n text)) b.more)))
        | inr fine ↦ fine
      ]

  pub fault_place : IsFaultPlace text place
  fault_place = record { within = within; shared = subst (λ (x : List ℕ). BeginsWordText x) (sym front_is) shared; longest = longest }

  pub no_word : (w : ℕ) → w < 2 ^ 32 → text ≢ text_of w
  no_word w small e =
      h.no_further (ended text) [] h.after (record { word = w; fits = small; is = ap (λ (x : List ℕ). ended x) e }) (append-nil (ended text) ∙ h.splits)

-- ---- what a reader answers

pub word_result : (m : Mnemonic) (text : List ℕ) (bytes : (i : ℕ) → get_or text i 0 < 256) (from : ℕ) → ended text ≡ start_of m ++ rest text (length (start_of m)) → from ≡ length (start_of m)
    → (result : Result ℕ ℕ) → MatchResult result (IsWordRead m text from) (λ p. StopsAt (Shape m) text from p)
    → MatchResult result (λ w. text ≡ text_of w) (λ p. IsFaultPlace text p × ((w : ℕ) → w < 2 ^ 32 → text ≢ text_of w))
word_result m text bytes from begins same (Ok w) h =
    append_cancel_right text (text_of w) (256 ∷ [])
    (begins ∙ (ap (λ (n : ℕ). start_of m ++ rest text n) (sym same) ∙ (ap (λ (x : List ℕ). start_of m ++ x) h.is
    ∙ (ap (λ (n : Mnemonic). start_of n ++ ended (operands_by (instr w) w)) (sym h.mnemonic_is) ∙ sym (start_is w)))))
word_result m text bytes from begins same (Err p) h =
    let s = stops_behind_start m text p begins (subst (λ (n : ℕ). StopsAt (Shape m) text n p) same h) in
    (fault_place text p bytes s, no_word text p bytes s)
