-- Texts put together from parts
use Rattle.std.proofs.Common.{◌≡◌, ℕ, ◌+◌, ◌<◌, List, [], ◌∷◌, ◌++◌, length, get_or, take, drop, Option, sym, ap, ◌∙◌, arith, append_assoc, length-append}
use Rattle.std.proofs.lemmas.List.{append-nil, take-append-drop, length-take-le, drop_more, take_all}
use Rattle.rv32_text.specs.Languages.{Joined, Stops, CanBegin, NoneBegins, IsValueOf, Reads}

-- each letter of a text
abbrev pub Each : (ℕ → Type 0) → List ℕ → Type 0
Each P [] = Unit {0}
Each P (c ∷ cs) = P c × Each P cs

pub each_append : (P : ℕ → Type 0) (xs ys : List ℕ) → Each P xs → Each P ys → Each P (xs ++ ys)
each_append P [] ys h k = k
each_append P (x ∷ xs) ys h k = (h.0, each_append P xs ys h.1 k)

pub each_front : (P : ℕ → Type 0) (xs ys : List ℕ) → Each P (xs ++ ys) → Each P xs
each_front P [] ys h = tt
each_front P (x ∷ xs) ys h = (h.0, each_front P xs ys h.1)

pub each_back : (P : ℕ → Type 0) (xs ys : List ℕ) → Each P (xs ++ ys) → Each P ys
each_back P [] ys h = h
each_back P (x ∷ xs) ys h = each_back P xs ys h.1

-- where two lists part
pub cons_head : (c d : ℕ) (x y : List ℕ) → c ∷ x ≡ d ∷ y → c ≡ d
cons_head c d x y e = cc

pub cons_tail : (c d : ℕ) (x y : List ℕ) → c ∷ x ≡ d ∷ y → x ≡ y
cons_tail c d x y e = cc

-- the set's texts end where they are seen to end: none is the beginning of another
abbrev pub EndsItself : (List ℕ → Type 0) → Type 0
EndsItself Texts = (t u x y : List ℕ) → Texts t → Texts u → t ++ x ≡ u ++ y → x ≡ y

pub stops_first : (First Second : List ℕ → Type 0) (s m : List ℕ) (k : ℕ) → Second m → Stops First s k → Stops (Joined First Second) s k
stops_first First Second s m k some h = record {
  front = h.front;
  letter = h.letter;
  after = h.after;
  more = h.more ++ m;
  splits = h.splits;
  place_is = h.place_is;
  reached = record { first = h.front ++ h.more; second = m; in_first = h.reached; in_second = some; is = sym (append_assoc h.front h.more m) };
  no_further = λ t u v j e. h.no_further j.first (j.second ++ u) v j.in_first (sym (append_assoc j.first j.second u) ∙ (ap (λ (x : List ℕ). x ++ u) (sym j.is) ∙ e));
}

pub stops_second : (First Second : List ℕ → Type 0) (a s b : List ℕ) (k : ℕ) → EndsItself First → First a → s ≡ a ++ b → Stops Second b k
    → Stops (Joined First Second) s (length a + k)
stops_second First Second a s b k itself some is h = record {
  front = a ++ h.front;
  letter = h.letter;
  after = h.after;
  more = h.more;
  splits = is ∙ (ap (λ (x : List ℕ). a ++ x) h.splits ∙ sym (append_assoc a h.front (h.letter ∷ h.after)));
  place_is = length-append a h.front ∙ ap (λ (n : ℕ). length a + n) h.place_is;
  reached = record { first = a; second = h.front ++ h.more; in_first = some; in_second = h.reached; is = append_assoc a h.front h.more };
  no_further = λ t u v j e.
      h.no_further j.second u v j.in_second
      (itself j.first a (j.second ++ u) (h.front ++ (h.letter ∷ v)) j.in_first some
      (sym (append_assoc j.first j.second u) ∙ (ap (λ (x : List ℕ). x ++ u) (sym j.is) ∙ (e ∙ append_assoc a h.front (h.letter ∷ v)))));
}

-- where a loop over the letters of a text stops
module _ {V : Type 0} (Fits : V → Type 0) (write : V → List ℕ) (text front : List ℕ) (value : Option V)
    (begins : CanBegin Fits write front) (value_is : IsValueOf Fits write front value) where
  pub reads_part : (used letter : ℕ) → used < length text → letter ≡ get_or text used 0 → front ≡ take used text → NoneBegins Fits write (front ++ (letter ∷ []))
      → Reads Fits write text used value
  reads_part used letter inside letter_is so_far never = record {
    front = front;
    after = drop used text;
    splits = sym (take-append-drop used text) ∙ ap (λ (x : List ℕ). x ++ drop used text) (sym so_far);
    used_is = ap length so_far ∙ length-take-le used text (omega arith);
    begins = begins;
    longest = λ next more is can.
        (let same : next ≡ letter = cons_head next (get_or text used 0) more (drop (used + 1) text) (sym is ∙ drop_more text used 0 inside) ∙ sym letter_is in
        never can.value can.more can.fits (can.is ∙ ap (λ (x : ℕ). (front ++ (x ∷ [])) ++ can.more) same));
    value_is = value_is;
  }

  pub reads_all : front ≡ take (length text) text → Reads Fits write text (length text) value
  reads_all so_far =
      let whole : front ≡ text = so_far ∙ take_all (length text) text (omega arith) in
      record {
        front = front;
        after = [];
        splits = sym (append-nil front ∙ whole);
        used_is = ap length whole;
        begins = begins;
        longest = λ next more is can. absurd (cc);
        value_is = value_is;
      }
