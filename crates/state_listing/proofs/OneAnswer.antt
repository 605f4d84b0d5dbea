-- A file has one answer.
use Rattle.std.proofs.Common.{◌≡◌, ℕ, zero, suc, ◌+◌, ◌<◌, ◌≤◌, ◌⊎◌, inl, inr, List, [], ◌∷◌, ◌++◌, length, All, Result, Ok, Err, refl, sym, ap, ap₂, ◌∙◌, append_assoc, append-nil, arith}
use Rattle.std.proofs.lemmas.Bool.{cases_lt}
use Rattle.std.proofs.lemmas.List.Elements.{All-head, All-tail}
use Rattle.state_listing.specs.declared.request.StateRequest.{StateRequest}
use Rattle.state_listing.specs.Requests.{IsRequest, request_text}
use Rattle.state_listing.specs.Counts.{requests_text, BeginsWithLine, HasNoLine, TooLong, Empty, BadLine, TooMany, IsAnswer}
use Rattle.state_listing.specs.Lines.{IsRead}
use Rattle.state_listing.proofs.OnFiles.{line_one, nothing_has_no_line, requests_short}

-- ---- the lines that are read are one list

-- behind these lines there is no further one, or there are as many as may be
abbrev StopsBehind : ℕ → List StateRequest → List ℕ → Type 0
StopsBehind most qs rest = (length qs ≤ most) × (HasNoLine rest ⊎ (length qs ≡ most))

first_line : (q : StateRequest) (qs : List StateRequest) (rest : List ℕ) → All IsRequest (q ∷ qs) → BeginsWithLine (requests_text (q ∷ qs) ++ rest) q (requests_text qs ++ rest)
first_line q qs rest each = record { fits = All-head IsRequest q qs each; parts = append_assoc (request_text q) (10 ∷ requests_text qs) rest }

one_less : (most : ℕ) (q : StateRequest) (qs : List StateRequest) (rest : List ℕ) → StopsBehind (suc most) (q ∷ qs) rest → StopsBehind most qs rest
one_less most q qs rest s = (omega (arith, s.0), elim s.1 [ inl none ↦ inl none | inr full ↦ inr (omega (arith, full)) ])

lines_one : (most : ℕ) (qs rs : List StateRequest) (u v : List ℕ) → All IsRequest qs → All IsRequest rs → StopsBehind most qs u → StopsBehind most rs v → requests_text qs ++ u ≡ requests_text rs ++ v → (qs ≡ rs) × (u ≡ v)
lines_one most [] [] u v p q s t h = (refl, h)
lines_one most [] (r ∷ rs) u v p q s t h =
    let line = first_line r rs v q in
    elim s.1 [ inl none ↦ absurd (none r (requests_text rs ++ v) (record { fits = line.fits; parts = h ∙ line.parts })) | inr full ↦ absurd (omega (arith, full, t.0)) ]
lines_one most (x ∷ qs) [] u v p q s t h =
    let line = first_line x qs u p in
    elim t.1 [ inl none ↦ absurd (none x (requests_text qs ++ u) (record { fits = line.fits; parts = sym h ∙ line.parts })) | inr full ↦ absurd (omega (arith, full, s.0)) ]
lines_one zero (x ∷ qs) (r ∷ rs) u v p q s t h = absurd (omega (arith, s.0))
lines_one (suc most) (x ∷ qs) (r ∷ rs) u v p q s t h =
    let line = first_line r rs v q in
    let one = line_one (requests_text (x ∷ qs) ++ u) x r (requests_text qs ++ u) (requests_text rs ++ v) (first_line x qs u p) (record { fits = line.fits; parts = h ∙ line.parts }) in
    let rest = lines_one most qs rs u v (All-tail IsRequest x qs p) (All-tail IsRequest r rs q) (one_less most x qs u s) (one_less most r rs v t) one.1 in
    (ap₂ (λ y ys. y ∷ ys) one.0 rest.0, rest.1)

-- ---- what an answer says of the lines

-- the answer where the lines of these requests were read and this follows
abbrev verdict : List StateRequest → List ℕ → Result (List StateRequest) ℕ
verdict [] rest = Err 1
verdict (q ∷ qs) [] = Ok (q ∷ qs)
verdict (q ∷ qs) (b ∷ rest) = Err (length (q ∷ qs) + 1)

record IsVerdict (text : List ℕ) (answer : Result (List StateRequest) ℕ) : Type 0 where
  requests : List StateRequest
  rest : List ℕ
  read : IsRead text requests rest
  is : answer ≡ verdict requests rest

refused : (qs : List StateRequest) (rest : List ℕ) → 0 < length rest → Err (length qs + 1) ≡ verdict qs rest
refused [] rest more = refl
refused (q ∷ qs) [] more = absurd (omega arith)
refused (q ∷ qs) (b ∷ rest) more = refl

taken : (qs : List StateRequest) → 1 ≤ length qs → Ok qs ≡ verdict qs []
taken [] some = absurd (omega arith)
taken (q ∷ qs) some = refl

verdict_of : (text : List ℕ) (answer : Result (List StateRequest) ℕ) → length text ≤ 27648 → IsAnswer text answer → IsVerdict text answer
verdict_of text (Ok qs) short h = record {
  requests = qs;
  rest = [];
  read = record {
    begins = record { each = h.each; parts = h.text_is ∙ sym (append-nil (requests_text qs)) };
    few = h.few;
    stops = inl nothing_has_no_line;
  };
  is = taken qs h.some;
}
verdict_of text (Err line) short (TooLong long is) = absurd (omega arith)
verdict_of text (Err line) short (Empty none is) = record {
  requests = [];
  rest = [];
  read = record { begins = record { each = λ k d below. absurd (omega arith); parts = none }; few = omega arith; stops = inl nothing_has_no_line };
  is = ap Err is;
}
verdict_of text (Err line) short (BadLine fits h) = record {
  requests = h.before;
  rest = h.rest;
  read = record { begins = h.begins; few = omega (arith, h.number, h.early); stops = inl h.bad };
  is = ap Err h.number ∙ refused h.before h.rest h.more;
}
verdict_of text (Err line) short (TooMany fits h is) = record {
  requests = h.before;
  rest = h.rest;
  read = record { begins = h.begins; few = omega (arith, h.full); stops = inr h.full };
  is = ap Err (let number : line ≡ length h.before + 1 = omega (arith, h.full) in number) ∙ refused h.before h.rest h.more;
}

-- a file that is too long
line_zero : (text : List ℕ) (answer : Result (List StateRequest) ℕ) → 27648 < length text → IsAnswer text answer → answer ≡ Err 0
line_zero text (Ok qs) long h = absurd (omega (arith, ap length h.text_is, requests_short qs h.each, h.few))
line_zero text (Err line) long (TooLong more is) = ap Err is
line_zero text (Err line) long (Empty none is) = absurd (omega (arith, ap length none))
line_zero text (Err line) long (BadLine fits h) = absurd (omega arith)
line_zero text (Err line) long (TooMany fits h is) = absurd (omega arith)

short_one : (text : List ℕ) (a b : Result (List StateRequest) ℕ) → IsVerdict text a → IsVerdict text b → a ≡ b
short_one text a b h k =
    let same = lines_one 1024 h.requests k.requests h.rest k.rest h.read.begins.each k.read.begins.each (h.read.few, h.read.stops) (k.read.few, k.read.stops) (sym h.read.begins.parts ∙ k.read.begins.parts) in
    h.is ∙ ap₂ verdict same.0 same.1 ∙ sym k.is

pub one_answer : (text : List ℕ) (a b : Result (List StateRequest) ℕ) → IsAnswer text a → IsAnswer text b → a ≡ b
one_answer text a b p q =
    elim (cases_lt 27648 (length text)) [
      | inl long ↦ line_zero text a long p ∙ sym (line_zero text b long q)
      | inr short ↦ short_one text a b (verdict_of text a short p) (verdict_of text b short q)
    ]
