-- A literal against the beginning of a text
use Rattle.std.proofs.Common.{◌≡◌, ◌≢◌, ℕ, ◌+◌, ◌<◌, ◌≤◌, List, [], ◌∷◌, ◌++◌, length, get_or, take, drop, refl, sym, ap, ◌∙◌, arith, append_assoc}
use Rattle.std.proofs.lemmas.List.{take-append-drop, length-take-le, drop_more, take_all}
use Rattle.rv32_text.specs.Languages.{ended, rest, StopsAt, Differs}
use Rattle.rv32_text.proofs.Languages.{cons_head}
use Rattle.rv32_text.proofs.OperandReads.{differs_at_end}

-- a text cut at one of its letters
cut : (text : List ℕ) (place : ℕ) → place < length text → text ≡ take place text ++ (get_or text place 0 ∷ drop (place + 1) text)
cut text place inside = sym (take-append-drop place text) ∙ ap (λ (x : List ℕ). take place text ++ x) (drop_more text place 0 inside)

module _ (literal text : List ℕ) (place : ℕ) (inside : place < length literal) (shared : take place text ≡ take place literal) where
  pub differs_in_letter : place < length text → get_or literal place 0 ≢ get_or text place 0 → Differs literal (ended text) place
  differs_in_letter there differ = record {
    front = take place literal;
    wanted = get_or literal place 0;
    missing = drop (place + 1) literal;
    letter = get_or text place 0;
    after = ended (drop (place + 1) text);
    wanted_is = cut literal place inside;
    letter_is = ap (λ (x : List ℕ). ended x) (cut text place there)
        ∙ (append_assoc (take place text) (get_or text place 0 ∷ drop (place + 1) text) (256 ∷ [])
        ∙ ap (λ (x : List ℕ). x ++ (get_or text place 0 ∷ ended (drop (place + 1) text))) shared);
    differ = differ;
    place_is = length-take-le place literal (omega arith);
  }

  pub differs_at_text_end : place ≡ length text → get_or literal place 0 < 256 → Differs literal (ended text) place
  differs_at_text_end there small = record {
    front = take place literal;
    wanted = get_or literal place 0;
    missing = drop (place + 1) literal;
    letter = 256;
    after = [];
    wanted_is = cut literal place inside;
    letter_is = ap (λ (x : List ℕ). ended x) (sym (take_all place text (omega arith)) ∙ shared);
    differ = λ same. omega arith;
    place_is = length-take-le place literal (omega arith);
  }

pub begins_with : (literal text : List ℕ) → take (length literal) text ≡ take (length literal) literal → ended text ≡ literal ++ rest text (length literal)
begins_with literal text shared =
    ap (λ (x : List ℕ). ended x) (sym (take-append-drop (length literal) text))
    ∙ (append_assoc (take (length literal) text) (drop (length literal) text) (256 ∷ [])
    ∙ ap (λ (x : List ℕ). x ++ rest text (length literal)) (shared ∙ take_all (length literal) literal (omega arith)))

pub differs_behind : (literal text : List ℕ) → ended text ≡ literal ++ rest text (length literal) → length literal ≤ length text → length text ≢ length literal
    → ((i : ℕ) → get_or text i 0 < 256) → Differs (ended literal) (ended text) (length literal)
differs_behind literal text e inside more bytes =
    differs_at_end literal (ended text) (ended (drop (length literal + 1) text)) (get_or text (length literal) 0) (bytes (length literal))
    (e ∙ ap (λ (x : List ℕ). literal ++ ended x) (drop_more text (length literal) 0 (omega arith)))

-- a letter where the text is to end
pub stops_before_end : (text : List ℕ) (from : ℕ) → from < length text → get_or text from 0 < 256 → StopsAt (λ t. t ≡ ended []) text from from
stops_before_end text from inside small = record {
  count = 0;
  place_is = omega arith;
  stops = record {
    front = [];
    letter = get_or text from 0;
    after = ended (drop (from + 1) text);
    more = ended [];
    splits = ap (λ (x : List ℕ). ended x) (drop_more text from 0 inside);
    place_is = refl;
    reached = refl;
    no_further = λ t u v is e.
        (let there : 256 ∷ u ≡ get_or text from 0 ∷ v = ap (λ (x : List ℕ). x ++ u) (sym is) ∙ e in
        let same : 256 ≡ get_or text from 0 = cons_head 256 (get_or text from 0) u v there in
        omega arith);
  };
}
