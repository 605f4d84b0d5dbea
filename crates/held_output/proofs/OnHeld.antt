-- Pieces whose numbers rise, and their parts
use Rattle.std.proofs.Common.{◌≡◌, ℕ, zero, suc, ◌+◌, ◌-◌, ◌<◌, ◌≤◌, ◌^◌, Bool, true, false, cond, nat_le, List, [], ◌∷◌, ◌++◌, length, get_or, take, drop, refl, sym, ap, ◌∙◌, append_assoc, subst, arith, length-append}
use Rattle.std.specs.Prelude.{All, sum_by}
use Rattle.std.specs.List.Sorted.{IsNonDecreasingBy, IsPartitionPoint}
use Rattle.std.proofs.lemmas.Bool.{cond-true, cond-false}
use Rattle.std.proofs.lemmas.List.{append-nil, take_more, take-append-drop}
use Rattle.std.proofs.lemmas.List.Elements.{All-push, All-take, All-drop, All-head, All-tail, All-nil}
use Rattle.std.proofs.lemmas.List.Recursion.{is_sum_by}
use Rattle.std.proofs.lemmas.List.Sums.{sum_by_more}
use Rattle.speculation.specs.Run.{Piece, marked, marks, marks_upto}
use Rattle.speculation.specs.Core.{held_size}
use Rattle.speculation.specs.Events.{left_over}
use Rattle.held_output.specs.Held.{Rises, IsHeld, IsStream, taken_upto}

-- Bytes

pub length-marked : (stream : ℕ) (bs : List ℕ) → length (marked stream bs) ≡ length bs
length-marked stream [] = refl
length-marked stream (b ∷ bs) = omega (arith, length-marked stream bs)

pub marks-append : (ps qs : List Piece) → marks (ps ++ qs) ≡ marks ps ++ marks qs
marks-append [] qs = refl
marks-append (p ∷ ps) qs = ap (λ ms. marked p.stream p.bytes ++ ms) (marks-append ps qs) ∙ sym (append_assoc (marked p.stream p.bytes) (marks ps) (marks qs))

pub held_size-append : (ps qs : List Piece) → held_size (ps ++ qs) ≡ held_size ps + held_size qs
held_size-append ps qs = ap length (marks-append ps qs) ∙ length-append (marks ps) (marks qs)

held_size-cons : (p : Piece) (ps : List Piece) → held_size (p ∷ ps) ≡ length p.bytes + held_size ps
held_size-cons p ps = length-append (marked p.stream p.bytes) (marks ps) ∙ ap (λ (n : ℕ). n + held_size ps) (length-marked p.stream p.bytes)

pub held_size-sum : (ps : List Piece) → held_size ps ≡ sum_by (λ p. length p.bytes) ps
held_size-sum = is_sum_by held_size (λ p. length p.bytes) refl held_size-cons

-- one piece more
pub held_size-more : (ps : List Piece) (i : ℕ) (d : Piece) → i < length ps → held_size (take (i + 1) ps) ≡ held_size (take i ps) + length (get_or ps i d).bytes
held_size-more ps i d l = omega (arith, held_size-sum (take (i + 1) ps), held_size-sum (take i ps), sum_by_more (λ p. length p.bytes) ps i d l)

pub marks-more : (ps : List Piece) (i : ℕ) (p : Piece) → i < length ps → p ≡ get_or ps i p → marks (take (i + 1) ps) ≡ marks (take i ps) ++ marked p.stream p.bytes
marks-more ps i p l at =
    ap marks (take_more ps i p l ∙ ap (λ q. take i ps ++ q ∷ []) (sym at)) ∙ marks-append (take i ps) (p ∷ [])
    ∙ ap (λ ms. marks (take i ps) ++ ms) (append-nil (marked p.stream p.bytes))

-- the size of the first n pieces and that of the others
pub held_size-parts : (n : ℕ) (ps : List Piece) → held_size (take n ps) + held_size (drop n ps) ≡ held_size ps
held_size-parts n ps = sym (held_size-append (take n ps) (drop n ps)) ∙ ap held_size (take-append-drop n ps)

pub held_size-take : (n : ℕ) (ps : List Piece) → held_size (take n ps) ≤ held_size ps
held_size-take n ps = omega (arith, held_size-parts n ps)

-- Numbers

pub Rises-sorted : (ps : List Piece) → Rises ps → IsNonDecreasingBy (λ p. p.number) ps
Rises-sorted [] r i j d le l = absurd (omega arith)
Rises-sorted (p ∷ ps) r zero zero d le l = omega arith
Rises-sorted (p ∷ ps) r zero (suc j) d le l = omega (arith, r.0 j d (omega arith))
Rises-sorted (p ∷ ps) r (suc i) zero d le l = absurd (omega arith)
Rises-sorted (p ∷ ps) r (suc i) (suc j) d le l = Rises-sorted ps r.1 i j d (omega arith) (omega arith)

Rises-take : (n : ℕ) (ps : List Piece) → Rises ps → Rises (take n ps)
Rises-take zero ps r = tt
Rises-take (suc n) [] r = tt
Rises-take (suc n) (p ∷ ps) r = (All-take (λ q. p.number < q.number) n ps r.0, Rises-take n ps r.1)

Rises-drop : (n : ℕ) (ps : List Piece) → Rises ps → Rises (drop n ps)
Rises-drop zero ps r = r
Rises-drop (suc n) [] r = tt
Rises-drop (suc n) (p ∷ ps) r = Rises-drop n ps r.1

Rises-push : (ps : List Piece) (p : Piece) → Rises ps → All (λ q. q.number < p.number) ps → Rises (ps ++ p ∷ [])
Rises-push [] p r h = (All-nil (λ x. p.number < x.number), tt)
Rises-push (q ∷ ps) p r h = (All-push (λ x. q.number < x.number) ps p r.0 (All-head (λ x. x.number < p.number) q ps h), Rises-push ps p r.1 (All-tail (λ x. x.number < p.number) q ps h))

-- What is held

pub IsHeld-push : (ps : List Piece) (p : Piece) → IsHeld ps → All (λ q. q.number < p.number) ps → IsStream p.stream → held_size ps + length p.bytes < 2 ^ 64 → IsHeld (ps ++ p ∷ [])
IsHeld-push ps p h above stream fits = record {
  rises = Rises-push ps p h.rises above;
  streams = All-push (λ q. IsStream q.stream) ps p h.streams stream;
  fits = omega (arith, held_size-append ps (p ∷ []), held_size-cons p [], fits);
}

pub IsHeld-take : (n : ℕ) (ps : List Piece) → IsHeld ps → IsHeld (take n ps)
IsHeld-take n ps h = record { rises = Rises-take n ps h.rises; streams = All-take (λ q. IsStream q.stream) n ps h.streams; fits = omega (arith, held_size-parts n ps, h.fits) }

pub IsHeld-drop : (n : ℕ) (ps : List Piece) → IsHeld ps → IsHeld (drop n ps)
IsHeld-drop n ps h = record { rises = Rises-drop n ps h.rises; streams = All-drop (λ q. IsStream q.stream) n ps h.streams; fits = omega (arith, held_size-parts n ps, h.fits) }

pub Counted-push : (size count : ℕ) (ps qs : List Piece) (p : Piece) → IsHeld ps × (size ≡ held_size ps) → length p.bytes ≡ count → qs ≡ ps ++ p ∷ []
    → All (λ q. q.number < p.number) ps → IsStream p.stream → held_size ps + count < 2 ^ 64 → IsHeld qs × (size + count ≡ held_size qs)
Counted-push size count ps qs p h e same above stream fits =
    subst (λ rs. IsHeld rs × (size + count ≡ held_size rs)) (sym same)
    (IsHeld-push ps p h.0 above stream (omega (arith, e, fits)), omega (arith, held_size-append ps (p ∷ []), held_size-cons p [], h.1, e))

-- the others are held once the first n have gone, which had this many bytes
pub Counted-drop : (n size gone : ℕ) (ps qs : List Piece) → IsHeld ps × (size ≡ held_size ps) → gone ≡ held_size (take n ps) → qs ≡ drop n ps → IsHeld qs × (size - gone ≡ held_size qs)
Counted-drop n size gone ps qs h e same = subst (λ rs. IsHeld rs × (size - gone ≡ held_size rs)) (sym same) (IsHeld-drop n ps h.0, omega (arith, held_size-parts n ps, h.1, e))

-- Parted by a limit

-- the first n pieces are numbered at most `limit`, and no other is
pub record IsLimit (limit n : ℕ) (ps : List Piece) : Type 0 where
  pub bound : n ≤ length ps
  pub upto : (k : ℕ) (d : Piece) → k < n → nat_le (get_or ps k d).number limit ≡ true
  pub above : (k : ℕ) (d : Piece) → n ≤ k → k < length ps → nat_le (get_or ps k d).number limit ≡ false

pub IsLimit-from_point : (limit n : ℕ) (ps : List Piece) → n ≤ length ps → IsPartitionPoint (λ p. nat_le p.number limit ≡ true) (λ p. nat_le p.number limit ≡ false) ps n → IsLimit limit n ps
IsLimit-from_point limit n ps bound h = record { bound = bound; upto = λ k d l. h.0 k d (omega arith) l; above = h.1 }

IsLimit-tail : (limit n : ℕ) (p : Piece) (ps : List Piece) → IsLimit limit (suc n) (p ∷ ps) → IsLimit limit n ps
IsLimit-tail limit n p ps h = record {
  bound = omega (arith, h.bound);
  upto = λ k d l. h.upto (suc k) d (omega arith);
  above = λ k d l m. h.above (suc k) d (omega arith) (omega arith);
}

IsLimit-none : (limit : ℕ) (p : Piece) (ps : List Piece) → IsLimit limit zero (p ∷ ps) → IsLimit limit zero ps
IsLimit-none limit p ps h = record {
  bound = omega arith;
  upto = λ k d l. absurd (omega arith);
  above = λ k d l m. h.above (suc k) d (omega arith) (omega arith);
}

pub take-limit : (limit n : ℕ) (ps : List Piece) → IsLimit limit n ps → take n ps ≡ taken_upto limit ps
take-limit limit zero [] h = refl
take-limit limit (suc n) [] h = refl
take-limit limit zero (p ∷ ps) h =
    take-limit limit zero ps (IsLimit-none limit p ps h) ∙ sym (cond-false (nat_le p.number limit) (p ∷ taken_upto limit ps) (taken_upto limit ps) (h.above 0 p (omega arith) (omega arith)))
take-limit limit (suc n) (p ∷ ps) h =
    ap (λ qs. p ∷ qs) (take-limit limit n ps (IsLimit-tail limit n p ps h))
    ∙ sym (cond-true (nat_le p.number limit) (p ∷ taken_upto limit ps) (taken_upto limit ps) (h.upto 0 p (omega arith)))

pub drop-limit : (limit n : ℕ) (ps : List Piece) → IsLimit limit n ps → drop n ps ≡ left_over limit ps
drop-limit limit zero [] h = refl
drop-limit limit (suc n) [] h = refl
drop-limit limit zero (p ∷ ps) h =
    ap (λ qs. p ∷ qs) (drop-limit limit zero ps (IsLimit-none limit p ps h))
    ∙ sym (cond-false (nat_le p.number limit) (left_over limit ps) (p ∷ left_over limit ps) (h.above 0 p (omega arith) (omega arith)))
drop-limit limit (suc n) (p ∷ ps) h =
    drop-limit limit n ps (IsLimit-tail limit n p ps h)
    ∙ sym (cond-true (nat_le p.number limit) (left_over limit ps) (p ∷ left_over limit ps) (h.upto 0 p (omega arith)))

marks-taken_by : (limit : ℕ) (p : Piece) (ps : List Piece) (t : Bool) → marks (taken_upto limit ps) ≡ marks_upto limit ps → marks (cond t (p ∷ taken_upto limit ps) (taken_upto limit ps)) ≡ cond t (marked p.stream p.bytes) [] ++ marks_upto limit ps
marks-taken_by limit p ps true h = ap (λ ms. marked p.stream p.bytes ++ ms) h
marks-taken_by limit p ps false h = h

pub marks-taken_upto : (limit : ℕ) (ps : List Piece) → marks (taken_upto limit ps) ≡ marks_upto limit ps
marks-taken_upto limit [] = refl
marks-taken_upto limit (p ∷ ps) = marks-taken_by limit p ps (nat_le p.number limit) (marks-taken_upto limit ps)
