-- Chunks, and what changes at their end
use Rattle.std.proofs.Common.{◌≡◌, ◌≢◌, ℕ, zero, suc, ◌+◌, ◌-◌, ◌<◌, ◌≤◌, List, [], ◌∷◌, ◌++◌, length, get_or, take, slice_set, Some, Result, Ok, Err, refl, sym, ap, ◌∙◌, append_assoc, subst, arith, length-append}
use Rattle.std.specs.Prelude.{OnOk, OnErr}
use Rattle.std.proofs.Math.Seq.{take-append-add}
use Rattle.std.proofs.lemmas.List.{append-nil, get_or_default, take-take, length-take-le}
use Rattle.std.proofs.lemmas.List.Elements.{All-push, All-pop, All-take}
use Rattle.speculation.specs.Run.{Mark, marked}
use Rattle.held_output.specs.declared.chunks.Chunk.{Chunk}
use Rattle.held_output.specs.Held.{IsStream}
use Rattle.held_output.specs.Chunks.{AreChunks, NeighboursDiffer, chunk_marks}
use Rattle.held_output.proofs.OnHeld.{length-marked}

-- Bytes

pub marked-append : (stream : ℕ) (xs ys : List ℕ) → marked stream (xs ++ ys) ≡ marked stream xs ++ marked stream ys
marked-append stream [] ys = refl
marked-append stream (x ∷ xs) ys = ap (λ ms. record { stream = stream; byte = x } ∷ ms) (marked-append stream xs ys)

pub marked-take : (stream n : ℕ) (xs : List ℕ) → marked stream (take n xs) ≡ take n (marked stream xs)
marked-take stream zero xs = refl
marked-take stream (suc n) [] = refl
marked-take stream (suc n) (x ∷ xs) = ap (λ ms. record { stream = stream; byte = x } ∷ ms) (marked-take stream n xs)

pub chunk_marks-append : (xs ys : List Chunk) → chunk_marks (xs ++ ys) ≡ chunk_marks xs ++ chunk_marks ys
chunk_marks-append [] ys = refl
chunk_marks-append (x ∷ xs) ys = ap (λ ms. marked x.stream x.bytes ++ ms) (chunk_marks-append xs ys) ∙ sym (append_assoc (marked x.stream x.bytes) (chunk_marks xs) (chunk_marks ys))

pub chunk_marks-push : (cs : List Chunk) (c : Chunk) → chunk_marks (cs ++ c ∷ []) ≡ chunk_marks cs ++ marked c.stream c.bytes
chunk_marks-push cs c = chunk_marks-append cs (c ∷ []) ∙ ap (λ ms. chunk_marks cs ++ ms) (append-nil (marked c.stream c.bytes))

-- The last chunk

-- the chunk at n is the last one
pub record IsLast (cs : List Chunk) (n : ℕ) (c : Chunk) : Type 0 where
  pub last : suc n ≡ length cs
  pub at : get_or cs n c ≡ c

IsLast-tail : (c d : Chunk) (cs : List Chunk) (n : ℕ) (e : Chunk) → IsLast (c ∷ (d ∷ cs)) (suc n) e → IsLast (d ∷ cs) n e
IsLast-tail c d cs n e h = record { last = omega (arith, h.last); at = h.at }

pub split_last : (cs : List Chunk) (n : ℕ) (c : Chunk) → IsLast cs n c → cs ≡ take n cs ++ c ∷ []
split_last [] n c h = absurd (omega (arith, h.last))
split_last (x ∷ []) zero c h = ap (λ y. y ∷ []) h.at
split_last (x ∷ []) (suc n) c h = absurd (omega (arith, h.last))
split_last (x ∷ (y ∷ cs)) zero c h = absurd (omega (arith, h.last))
split_last (x ∷ (y ∷ cs)) (suc n) c h = ap (λ ys. x ∷ ys) (split_last (y ∷ cs) n c (IsLast-tail x y cs n c h))

pub set_last : (cs : List Chunk) (n : ℕ) (c : Chunk) → suc n ≡ length cs → slice_set cs n c ≡ take n cs ++ c ∷ []
set_last [] n c h = absurd (omega (arith, h))
set_last (x ∷ []) zero c h = refl
set_last (x ∷ []) (suc n) c h = absurd (omega (arith, h))
set_last (x ∷ (y ∷ cs)) zero c h = absurd (omega (arith, h))
set_last (x ∷ (y ∷ cs)) (suc n) c h = ap (λ ys. x ∷ ys) (set_last (y ∷ cs) n c (omega (arith, h)))

pub chunk_marks-last : (cs : List Chunk) (n : ℕ) (c : Chunk) → IsLast cs n c → chunk_marks cs ≡ chunk_marks (take n cs) ++ marked c.stream c.bytes
chunk_marks-last cs n c h = ap chunk_marks (split_last cs n c h) ∙ chunk_marks-push (take n cs) c

pub chunk_marks-set : (cs : List Chunk) (n : ℕ) (c : Chunk) → suc n ≡ length cs → chunk_marks (slice_set cs n c) ≡ chunk_marks (take n cs) ++ marked c.stream c.bytes
chunk_marks-set cs n c h = ap chunk_marks (set_last cs n c h) ∙ chunk_marks-push (take n cs) c

pub set_same : (cs : List Chunk) (n : ℕ) (c : Chunk) → IsLast cs n c → slice_set cs n c ≡ cs
set_same cs n c h = set_last cs n c h.last ∙ sym (split_last cs n c h)

pub one_last : (cs : List Chunk) (n m : ℕ) (c d : Chunk) → IsLast cs n c → IsLast cs m d → c ≡ d
one_last cs n m c d h k =
    let same : n ≡ m = omega (arith, h.last, k.last) in
    sym h.at ∙ get_or_default cs n c d (omega (arith, h.last)) ∙ ap (λ i. get_or cs i d) same ∙ k.at

-- bytes more in the last chunk
pub chunk_marks-more : (cs : List Chunk) (n : ℕ) (c d : Chunk) (bs : List ℕ) → IsLast cs n c → d.stream ≡ c.stream → d.bytes ≡ c.bytes ++ bs → chunk_marks (slice_set cs n d) ≡ chunk_marks cs ++ marked c.stream bs
chunk_marks-more cs n c d bs h stream bytes =
    chunk_marks-set cs n d h.last
    ∙ ap (λ ms. chunk_marks (take n cs) ++ ms) (ap (λ s. marked s d.bytes) stream ∙ ap (marked c.stream) bytes ∙ marked-append c.stream c.bytes bs)
    ∙ sym (append_assoc (chunk_marks (take n cs)) (marked c.stream c.bytes) (marked c.stream bs))
    ∙ ap (λ ms. ms ++ marked c.stream bs) (sym (chunk_marks-last cs n c h))

pub chunks-some : (cs : List Chunk) → 0 < length (chunk_marks cs) → 0 < length cs
chunks-some [] h = absurd (omega (arith, h))
chunks-some (c ∷ cs) h = omega arith

-- Neighbours

differ-take : (n : ℕ) (cs : List Chunk) → NeighboursDiffer cs → NeighboursDiffer (take n cs)
differ-take zero cs h = tt
differ-take (suc n) [] h = tt
differ-take (suc zero) (c ∷ []) h = tt
differ-take (suc (suc n)) (c ∷ []) h = tt
differ-take (suc zero) (c ∷ (d ∷ cs)) h = tt
differ-take (suc (suc n)) (c ∷ (d ∷ cs)) h = (h.0, differ-take (suc n) (d ∷ cs) h.1)

-- the last chunk replaced by one of its stream
differ-alike : (front : List Chunk) (c d : Chunk) → d.stream ≡ c.stream → NeighboursDiffer (front ++ c ∷ []) → NeighboursDiffer (front ++ d ∷ [])
differ-alike [] c d e h = tt
differ-alike (x ∷ []) c d e h = (λ same. h.0 (same ∙ e), tt)
differ-alike (x ∷ (y ∷ xs)) c d e h = (h.0, differ-alike (y ∷ xs) c d e h.1)

-- a chunk more behind one of the other stream
differ-push : (cs : List Chunk) (c : Chunk) → ((n : ℕ) (d : Chunk) → IsLast cs n d → d.stream ≢ c.stream) → NeighboursDiffer cs → NeighboursDiffer (cs ++ c ∷ [])
differ-push [] c apart h = tt
differ-push (x ∷ []) c apart h = (apart 0 x (record { last = omega arith; at = refl }), tt)
differ-push (x ∷ (y ∷ xs)) c apart h = (h.0, differ-push (y ∷ xs) c (λ n d l. apart (suc n) d (record { last = omega (arith, l.last); at = l.at })) h.1)

pub AreChunks-take : (n : ℕ) (cs : List Chunk) → AreChunks cs → AreChunks (take n cs)
AreChunks-take n cs h = record { filled = All-take (λ c. c.bytes ≢ []) n cs h.filled; differ = differ-take n cs h.differ; streams = All-take (λ c. IsStream c.stream) n cs h.streams }

pub AreChunks-push : (cs : List Chunk) (c : Chunk) → AreChunks cs → c.bytes ≢ [] → IsStream c.stream → ((n : ℕ) (d : Chunk) → IsLast cs n d → d.stream ≢ c.stream) → AreChunks (cs ++ c ∷ [])
AreChunks-push cs c h some stream apart = record {
  filled = All-push (λ c. c.bytes ≢ []) cs c h.filled some;
  differ = differ-push cs c apart h.differ;
  streams = All-push (λ c. IsStream c.stream) cs c h.streams stream;
}

alike : (front : List Chunk) (c d : Chunk) → AreChunks (front ++ c ∷ []) → d.stream ≡ c.stream → d.bytes ≢ [] → AreChunks (front ++ d ∷ [])
alike front c d h e some =
    let filled = All-pop (λ c. c.bytes ≢ []) (front ++ c ∷ []) front (Some c) refl h.filled in
    let streams = All-pop (λ c. IsStream c.stream) (front ++ c ∷ []) front (Some c) refl h.streams in
    record {
      filled = All-push (λ c. c.bytes ≢ []) front d filled.0 some;
      differ = differ-alike front c d e h.differ;
      streams = All-push (λ c. IsStream c.stream) front d streams.0 (subst IsStream (sym e) streams.1);
    }

-- bytes that there are stay bytes where more came, or none did
pub some_more : {T E : Type 0} (r : Result T E) (old new bs : List ℕ) → OnOk r (new ≡ old ++ bs) → OnErr r (new ≡ old) → old ≢ [] → new ≢ []
some_more r [] new bs ok err some = absurd (some refl)
some_more (Ok x) (b ∷ old) new bs ok err some = λ none. cc (ok, none)
some_more (Err e) (b ∷ old) new bs ok err some = λ none. cc (err, none)

pub filled-last : (cs : List Chunk) (n : ℕ) (c : Chunk) → IsLast cs n c → AreChunks cs → c.bytes ≢ []
filled-last cs n c l h = λ none. h.filled n c (omega (arith, l.last)) (ap (λ d. d.bytes) l.at ∙ none)

pub AreChunks-set : (cs : List Chunk) (n : ℕ) (c d : Chunk) → IsLast cs n c → AreChunks cs → d.stream ≡ c.stream → d.bytes ≢ [] → AreChunks (slice_set cs n d)
AreChunks-set cs n c d l h e some = subst AreChunks (sym (set_last cs n d l.last)) (alike (take n cs) c d (subst AreChunks (split_last cs n c l) h) e some)

-- Bytes taken away

-- the first j of these bytes are left once the last part is cut back to n bytes
pub cut_back : (k n j : ℕ) (xs ys all : List Mark) → xs ++ ys ≡ take k all → k ≤ length all → n ≤ length ys → j + length ys ≡ k + n → xs ++ take n ys ≡ take j all
cut_back k n j xs ys all e fits l more =
    let whole : length xs + length ys ≡ k = omega (arith, length-append xs ys, ap length e, length-take-le k all fits) in
    let at : length xs + n ≡ j = omega (arith, whole, more, l) in
    sym (take-append-add xs ys n) ∙ ap (λ i. take i (xs ++ ys)) at ∙ ap (take j) e ∙ take-take j k all (omega (arith, whole, more, l))

-- of the last `count` of these bytes all but `left` are taken away
pub record IsShortened (all : List Mark) (count left : ℕ) (cs : List Chunk) : Type 0 where
  pub sound : AreChunks cs
  pub within : left ≤ count
  pub fits : count ≤ length all
  pub marks : chunk_marks cs ≡ take (length all - count + left) all

module _ (all : List Mark) (count left : ℕ) (cs : List Chunk) (h : IsShortened all count left cs) where
  length-left : length (chunk_marks cs) ≡ length all - count + left
  length-left = ap length h.marks ∙ length-take-le (length all - count + left) all (omega (arith, h.within, h.fits))

  pub shortened-some : 0 < left → 0 < length cs
  shortened-some more = chunks-some cs (omega (arith, length-left, more))

  -- the last chunk goes as a whole
  pub shortened-drop : (n : ℕ) (c : Chunk) → IsLast cs n c → length c.bytes ≤ left → IsShortened all count (left - length c.bytes) (take n cs)
  shortened-drop n c l all_of = record {
    sound = AreChunks-take n cs h.sound;
    within = omega (arith, h.within);
    fits = h.fits;
    marks =
        sym (append-nil (chunk_marks (take n cs)))
        ∙ cut_back (length all - count + left) 0 (length all - count + (left - length c.bytes)) (chunk_marks (take n cs)) (marked c.stream c.bytes) all
        (sym (chunk_marks-last cs n c l) ∙ h.marks) (omega (arith, h.within, h.fits)) (omega arith) (omega (arith, length-marked c.stream c.bytes, all_of));
  }

  -- the last chunk is cut back
  pub shortened-cut : (n : ℕ) (c d : Chunk) → IsLast cs n c → left < length c.bytes → d.stream ≡ c.stream → d.bytes ≡ take (length c.bytes - left) c.bytes → chunk_marks (slice_set cs n d) ≡ take (length all - count) all
  shortened-cut n c d l less stream bytes =
      chunk_marks-set cs n d l.last
      ∙ ap (λ ms. chunk_marks (take n cs) ++ ms) (ap (λ s. marked s d.bytes) stream ∙ ap (marked c.stream) bytes ∙ marked-take c.stream (length c.bytes - left) c.bytes)
      ∙ cut_back (length all - count + left) (length c.bytes - left) (length all - count) (chunk_marks (take n cs)) (marked c.stream c.bytes) all
      (sym (chunk_marks-last cs n c l) ∙ h.marks) (omega (arith, h.within, h.fits)) (omega (arith, length-marked c.stream c.bytes)) (omega (arith, length-marked c.stream c.bytes, less))

  pub shortened-sound : (n : ℕ) (c d : Chunk) → IsLast cs n c → left < length c.bytes → d.stream ≡ c.stream → d.bytes ≡ take (length c.bytes - left) c.bytes → AreChunks (slice_set cs n d)
  shortened-sound n c d l less stream bytes =
      AreChunks-set cs n c d l h.sound stream
      (λ none. absurd (omega (arith, ap length (sym bytes ∙ none), length-take-le (length c.bytes - left) c.bytes (omega arith), less)))

pub shortened-done : (all : List Mark) (count left : ℕ) (cs : List Chunk) → IsShortened all count left cs → left ≤ 0 → chunk_marks cs ≡ take (length all - count) all
shortened-done all count left cs h none = (let at : length all - count + left ≡ length all - count = omega (arith, none) in h.marks ∙ ap (λ n. take n all) at)
