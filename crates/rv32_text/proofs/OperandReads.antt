-- Values with literals behind them, read as far as their letters go
use Rattle.std.proofs.Common.{◌≡◌, ℕ, ◌+◌, ◌<◌, ◌≤◌, List, [], ◌∷◌, ◌++◌, length, drop, codes, refl, sym, ap, subst, ◌∙◌, ◌⊎◌, inl, inr, Option, Some, None, arith, append_assoc, length-append, length-drop}
use Rattle.std.proofs.lemmas.List.{append_cancel_left, drop_at, drop-drop}
use Rattle.rv32_text.specs.Languages.{ended, rest, Joined, Stops, StopsAt, Differs, CanBegin, Reads, OneOf}
use Rattle.rv32_text.specs.Operands.{InField, IsMark}
use Rattle.rv32_text.proofs.Languages.{Each, each_front, each_back, EndsItself, stops_first, stops_second, cons_head, cons_tail}

record IsLonger (xs ys : List ℕ) (d : ℕ) : Type 0 where
  more : List ℕ
  is : xs ≡ ys ++ (d ∷ more)

-- a value's text with another letter behind it begins with ys and d: then it is ys, or goes on with d
meet : (xs ys : List ℕ) (c d : ℕ) (us vs : List ℕ) → Each InField ys → (InField c → ⊥) → xs ++ (c ∷ us) ≡ ys ++ (d ∷ vs) → (xs ≡ ys) ⊎ IsLonger xs ys d
meet [] [] c d us vs ys_in never e = inl refl
meet [] (y ∷ ys) c d us vs ys_in never e = let same : c ≡ y = cons_head c y us (ys ++ (d ∷ vs)) e in absurd (never (rw same ys_in.0))
meet (x ∷ xs) [] c d us vs ys_in never e = let same : x ≡ d = cons_head x d (xs ++ (c ∷ us)) vs e in inr (record { more = xs; is = ap (λ (y : ℕ). y ∷ xs) same })
meet (x ∷ xs) (y ∷ ys) c d us vs ys_in never e =
    let same : x ≡ y = cons_head x y (xs ++ (c ∷ us)) (ys ++ (d ∷ vs)) e in
    elim (meet xs ys c d us vs ys_in.1 never (cons_tail x y (xs ++ (c ∷ us)) (ys ++ (d ∷ vs)) e)) [
      | inl equal ↦ inl (ap (λ (z : ℕ). z ∷ xs) same ∙ ap (λ (zs : List ℕ). y ∷ zs) equal)
      | inr longer ↦ inr (record { more = longer.more; is = ap (λ (z : ℕ). z ∷ xs) same ∙ ap (λ (zs : List ℕ). y ∷ zs) longer.is })
    ]

-- the letter behind what was read, which may be the text's end
record Next {V : Type 0} (Fits : V → Type 0) (write : V → List ℕ) (front after : List ℕ) : Type 0 where
  letter : ℕ
  tail : List ℕ
  is : ended after ≡ letter ∷ tail
  none : (v : V) (more : List ℕ) → Fits v → write v ≡ front ++ (letter ∷ more) → ⊥

-- two lists with one beginning have one head
record SameHead (front : List ℕ) (letter head : ℕ) (behind : List ℕ) : Type 0 where
  tail : List ℕ
  is : front ++ (letter ∷ behind) ≡ head ∷ tail

same_head : (front : List ℕ) (letter head : ℕ) (tail after behind : List ℕ) → head ∷ tail ≡ front ++ (letter ∷ after) → SameHead front letter head behind
same_head [] letter head tail after behind e = record { tail = behind; is = ap (λ (x : ℕ). x ∷ behind) (sym (cons_head head letter tail after e)) }
same_head (f ∷ fs) letter head tail after behind e = record { tail = fs ++ (letter ∷ behind); is = ap (λ (x : ℕ). x ∷ (fs ++ (letter ∷ behind))) (sym (cons_head head f tail (fs ++ (letter ∷ after)) e)) }

module _ {V : Type 0} (Fits : V → Type 0) (write : V → List ℕ) (letters : (v : V) → Fits v → Each InField (write v)) where
  front_letters : (front : List ℕ) → CanBegin Fits write front → Each InField front
  front_letters front h = each_front InField front h.more (let all : Each InField (write h.value) = letters h.value h.fits in rw h.is at all)

  next_by : (front after rest_after : List ℕ) → rest_after ≡ after
      → ((letter : ℕ) (more : List ℕ) → after ≡ letter ∷ more → CanBegin Fits write (front ++ (letter ∷ [])) → ⊥)
      → Next Fits write front rest_after
  next_by front after [] same longest = record {
    letter = 256;
    tail = [];
    is = refl;
    none = λ v more fits e.
        (let all : Each InField (write v) = letters v fits in
        let there : Each InField (front ++ (256 ∷ more)) = rw e at all in
        let last = (each_back InField front (256 ∷ more) there).0 in
        omega (arith, last.1));
  }
  next_by front after (a ∷ others) same longest = record {
    letter = a;
    tail = ended others;
    is = refl;
    none = λ v more fits e. longest a others (sym same) (record { value = v; more = more; fits = fits; is = e ∙ sym (append_assoc front (a ∷ []) more) });
  }

  next : (s : List ℕ) (used : ℕ) (o : Option V) → (h : Reads Fits write s used o) → Next Fits write h.front h.after
  next s used o h = next_by h.front h.after h.after refl h.longest

  ended_is : (s : List ℕ) (used : ℕ) (o : Option V) → (h : Reads Fits write s used o) → ended s ≡ h.front ++ ended h.after
  ended_is s used o h = ap (λ (x : List ℕ). ended x) h.splits ∙ append_assoc h.front h.after (256 ∷ [])

  after_is : (s : List ℕ) (used : ℕ) (o : Option V) → (h : Reads Fits write s used o) → drop used s ≡ h.after
  after_is s used o h = ap (λ (x : List ℕ). drop used x) h.splits ∙ drop_at h.front h.after used h.used_is

  module _ (mark : ℕ) (behind : List ℕ) (outside : InField mark → ⊥) where
    pub one_ends_itself : EndsItself (OneOf Fits write (mark ∷ behind))
    one_ends_itself t u x y p q e =
        let left : t ++ x ≡ write p.value ++ (mark ∷ (behind ++ x)) = ap (λ (z : List ℕ). z ++ x) p.is ∙ append_assoc (write p.value) (mark ∷ behind) x in
        let right : u ++ y ≡ write q.value ++ (mark ∷ (behind ++ y)) = ap (λ (z : List ℕ). z ++ y) q.is ∙ append_assoc (write q.value) (mark ∷ behind) y in
        let both : write p.value ++ (mark ∷ (behind ++ x)) ≡ write q.value ++ (mark ∷ (behind ++ y)) = sym left ∙ (e ∙ right) in
        elim (meet (write p.value) (write q.value) mark mark (behind ++ x) (behind ++ y) (letters q.value q.fits) outside both) [
          | inl same ↦ append_cancel_left behind x y (cons_tail mark mark (behind ++ x) (behind ++ y)
              (append_cancel_left (write q.value) (mark ∷ (behind ++ x)) (mark ∷ (behind ++ y))
              (ap (λ (z : List ℕ). z ++ (mark ∷ (behind ++ x))) (sym same) ∙ both)))
          | inr longer ↦ absurd (outside (each_back InField (write q.value) (mark ∷ longer.more) (let all : Each InField (write p.value) = letters p.value p.fits in rw longer.is at all)).0)
        ]

    -- a text that is no value's stops where its letters stop
    pub stops_short : (s : List ℕ) (used : ℕ) → Reads Fits write s used None → Stops (OneOf Fits write (mark ∷ behind)) (ended s) used
    stops_short s used h =
        let n = next s used None h in
        record {
          front = h.front;
          letter = n.letter;
          after = n.tail;
          more = h.begins.more ++ (mark ∷ behind);
          splits = ended_is s used None h ∙ ap (λ (x : List ℕ). h.front ++ x) n.is;
          place_is = h.used_is;
          reached = record {
            value = h.begins.value;
            fits = h.begins.fits;
            is = sym (append_assoc h.front h.begins.more (mark ∷ behind)) ∙ ap (λ (x : List ℕ). x ++ (mark ∷ behind)) (sym h.begins.is);
          };
          no_further = λ t u v m e.
              (let there : write m.value ++ (mark ∷ (behind ++ u)) ≡ h.front ++ (n.letter ∷ v) =
              sym (append_assoc (write m.value) (mark ∷ behind) u) ∙ (ap (λ (x : List ℕ). x ++ u) (sym m.is) ∙ e) in
              elim (meet (write m.value) h.front mark n.letter (behind ++ u) v (front_letters h.front h.begins) outside there) [
                | inl same ↦ h.value_is m.value m.fits same
                | inr longer ↦ n.none m.value longer.more m.fits longer.is
              ]);
        }

    -- a value with another literal behind it stops where the literals part
    pub stops_behind : (s : List ℕ) (used k : ℕ) (z : V) → Reads Fits write s used (Some z) → Differs (mark ∷ behind) (ended (drop used s)) k
        → Stops (OneOf Fits write (mark ∷ behind)) (ended s) (used + k)
    stops_behind s used k z h d =
        let n = next s used (Some z) h in
        let tail_is : ended h.after ≡ d.front ++ (d.letter ∷ d.after) = ap (λ (x : List ℕ). ended x) (sym (after_is s used (Some z) h)) ∙ d.letter_is in
        record {
          front = h.front ++ d.front;
          letter = d.letter;
          after = d.after;
          more = d.wanted ∷ d.missing;
          splits = ended_is s used (Some z) h ∙ (ap (λ (x : List ℕ). h.front ++ x) tail_is ∙ sym (append_assoc h.front d.front (d.letter ∷ d.after)));
          place_is = length-append h.front d.front ∙ (ap (λ (x : ℕ). x + length d.front) h.used_is ∙ ap (λ (x : ℕ). used + x) d.place_is);
          reached = record {
            value = z;
            fits = h.value_is.0;
            is = append_assoc h.front d.front (d.wanted ∷ d.missing) ∙ (ap (λ (x : List ℕ). h.front ++ x) (sym d.wanted_is) ∙ ap (λ (x : List ℕ). x ++ (mark ∷ behind)) (sym h.value_is.1));
          };
          no_further = λ t u v m e.
              (let head = same_head d.front d.letter n.letter n.tail d.after v (sym n.is ∙ tail_is) in
              let there : write m.value ++ (mark ∷ (behind ++ u)) ≡ h.front ++ (d.front ++ (d.letter ∷ v)) =
              sym (append_assoc (write m.value) (mark ∷ behind) u) ∙ (ap (λ (x : List ℕ). x ++ u) (sym m.is) ∙ (e ∙ append_assoc h.front d.front (d.letter ∷ v))) in
              elim (meet (write m.value) h.front mark n.letter (behind ++ u) head.tail (front_letters h.front h.begins) outside (there ∙ ap (λ (x : List ℕ). h.front ++ x) head.is)) [
                | inl same ↦ d.differ (cons_head d.wanted d.letter (d.missing ++ u) v
                    (append_cancel_left d.front (d.wanted ∷ (d.missing ++ u)) (d.letter ∷ v)
                    (sym (append_assoc d.front (d.wanted ∷ d.missing) u) ∙ (ap (λ (x : List ℕ). x ++ u) (sym d.wanted_is)
                    ∙ append_cancel_left h.front ((mark ∷ behind) ++ u) (d.front ++ (d.letter ∷ v)) (ap (λ (x : List ℕ). x ++ (mark ∷ (behind ++ u))) (sym same) ∙ there)))))
                | inr longer ↦ n.none m.value longer.more m.fits longer.is
              ]);
        }

    pub takes : (s tail : List ℕ) (used : ℕ) (z : V) → Reads Fits write s used (Some z) → ended (drop used s) ≡ (mark ∷ behind) ++ tail
        → ended s ≡ (write z ++ (mark ∷ behind)) ++ tail
    takes s tail used z h e =
        ended_is s used (Some z) h ∙ (ap (λ (x : List ℕ). x ++ ended h.after) (sym h.value_is.1)
        ∙ (ap (λ (x : List ℕ). write z ++ ended x) (sym (after_is s used (Some z) h)) ∙ (ap (λ (x : List ℕ). write z ++ x) e ∙ sym (append_assoc (write z) (mark ∷ behind) tail))))

pub comma : IsMark (codes ", ")
comma = record { mark = 44; behind = 32 ∷ []; is = refl; outside = λ h. omega (arith, h.0) }

-- nothing but the text's end
pub text_end : IsMark (ended [])
text_end = record { mark = 256; behind = []; is = refl; outside = λ h. omega (arith, h.1) }

-- the same for any literal that begins with a mark
module _ {V : Type 0} (Fits : V → Type 0) (write : V → List ℕ) (letters : (v : V) → Fits v → Each InField (write v)) (literal : List ℕ) (m : IsMark literal) where
  pub ends_itself : EndsItself (OneOf Fits write literal)
  ends_itself = subst (λ (x : List ℕ). EndsItself (OneOf Fits write x)) (sym m.is) (one_ends_itself Fits write letters m.mark m.behind m.outside)

  pub stops_at_field : (text : List ℕ) (from used : ℕ) → Reads Fits write (drop from text) used None → StopsAt (OneOf Fits write literal) text from (from + used)
  stops_at_field text from used h = record {
    count = used;
    place_is = refl;
    stops = subst (λ (x : List ℕ). Stops (OneOf Fits write x) (rest text from) used) (sym m.is) (stops_short Fits write letters m.mark m.behind m.outside (drop from text) used h);
  }

  pub stops_at_literal : (text : List ℕ) (from used shared : ℕ) (z : V) → Reads Fits write (drop from text) used (Some z) → Differs literal (rest text (from + used)) shared
      → StopsAt (OneOf Fits write literal) text from (from + used + shared)
  stops_at_literal text from used shared z h d =
      let there : Differs (m.mark ∷ m.behind) (ended (drop used (drop from text))) shared =
      subst (λ (x : List ℕ). Differs x (ended (drop used (drop from text))) shared) m.is
      (subst (λ (x : List ℕ). Differs literal (ended x) shared) (sym (drop-drop used from text)) d) in
      record {
        count = used + shared;
        place_is = omega arith;
        stops = subst (λ (x : List ℕ). Stops (OneOf Fits write x) (rest text from) (used + shared)) (sym m.is) (stops_behind Fits write letters m.mark m.behind m.outside (drop from text) used shared z h there);
      }

  pub takes_literal : (text tail : List ℕ) (from used : ℕ) (z : V) → Reads Fits write (drop from text) used (Some z) → rest text (from + used) ≡ literal ++ tail
      → rest text from ≡ (write z ++ literal) ++ tail
  takes_literal text tail from used z h e =
      let there : ended (drop used (drop from text)) ≡ (m.mark ∷ m.behind) ++ tail =
      ap (λ (x : List ℕ). ended x) (drop-drop used from text) ∙ (e ∙ ap (λ (x : List ℕ). x ++ tail) m.is) in
      takes Fits write letters m.mark m.behind m.outside (drop from text) tail used z h there ∙ ap (λ (x : List ℕ). (write z ++ x) ++ tail) (sym m.is)

  pub takes_operand : (text : List ℕ) (from used : ℕ) (z : V) → Reads Fits write (drop from text) used (Some z)
      → ended (drop (from + used) text) ≡ literal ++ rest (drop (from + used) text) (length literal) → rest text from ≡ (write z ++ literal) ++ rest text (from + used + length literal)
  takes_operand text from used z h e =
      takes_literal text (rest (drop (from + used) text) (length literal)) from used z h e
      ∙ ap (λ (x : List ℕ). (write z ++ literal) ++ ended x) (drop-drop (length literal) (from + used) text)

-- a literal and the end of the text behind it
pub differs_early : (literal s : List ℕ) (k : ℕ) → Differs literal s k → Differs (ended literal) s k
differs_early literal s k d = record {
  front = d.front;
  wanted = d.wanted;
  missing = ended d.missing;
  letter = d.letter;
  after = d.after;
  wanted_is = ap (λ (x : List ℕ). ended x) d.wanted_is ∙ append_assoc d.front (d.wanted ∷ d.missing) (256 ∷ []);
  letter_is = d.letter_is;
  differ = d.differ;
  place_is = d.place_is;
}

pub differs_at_end : (literal s after : List ℕ) (letter : ℕ) → letter < 256 → s ≡ literal ++ (letter ∷ after) → Differs (ended literal) s (length literal)
differs_at_end literal s after letter small e = record {
  front = literal;
  wanted = 256;
  missing = [];
  letter = letter;
  after = after;
  wanted_is = refl;
  letter_is = e;
  differ = λ same. omega arith;
  place_is = refl;
}

-- ---- places counted from the start of the text

pub stops_at_first : (First Second : List ℕ → Type 0) (text m : List ℕ) (from place : ℕ) → Second m → StopsAt First text from place → StopsAt (Joined First Second) text from place
stops_at_first First Second text m from place some h = record { count = h.count; place_is = h.place_is; stops = stops_first First Second (rest text from) m h.count some h.stops }

length_rest : (text : List ℕ) (from : ℕ) → from ≤ length text → length (rest text from) + from ≡ length text + 1
length_rest text from inside = simp (length-append, length-drop) (omega arith)

pub stops_at_second : (First Second : List ℕ → Type 0) (text a : List ℕ) (from next place : ℕ) → EndsItself First → First a → from ≤ next → next ≤ length text
    → rest text from ≡ a ++ rest text next → StopsAt Second text next place → StopsAt (Joined First Second) text from place
stops_at_second First Second text a from next place itself some later inside is h =
    let whole : length (rest text from) + from ≡ length text + 1 = length_rest text from (omega arith) in
    let part : length (rest text next) + next ≡ length text + 1 = length_rest text next inside in
    let sum : length (rest text from) ≡ length a + length (rest text next) = ap length is ∙ length-append a (rest text next) in
    record {
      count = length a + h.count;
      place_is = omega (arith, h.place_is);
      stops = stops_second First Second a (rest text from) (rest text next) h.count itself some is h.stops;
    }
