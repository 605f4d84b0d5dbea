-- Chunks of verified bytes on their way to the sinks.
use Rattle.std.proofs.Common.{◌≡◌, ◌≢◌, ◌==◌, true, false, eqb-true, arith, ℕ, ◌+◌, ◌<◌, List, [], ◌∷◌, ◌++◌, length, get_or, take, drop, refl, sym, ap, ◌∙◌, subst, append_assoc, append-nil, take-append-drop, add-one}
use Rattle.std.proofs.Math.Seq.{take-suc}
use Rattle.speculation.specs.Run.{Mark, marked}
use Rattle.held_output.specs.Chunks.{chunk_marks}
use Rattle.held_output.specs.declared.chunks.Chunk.{Chunk}
use Rattle.guest_streams.specs.GuestStreams.{Sinks, GetsAll, StopsShort}
use Rattle.guest_streams.proofs.OnStreams.{GetsAll-more, StopsShort-amid}

chunk_marks-append : (xs ys : List Chunk) → chunk_marks (xs ++ ys) ≡ chunk_marks xs ++ chunk_marks ys
chunk_marks-append [] ys = refl
chunk_marks-append (x ∷ xs) ys = ap (λ ms. marked x.stream x.bytes ++ ms) (chunk_marks-append xs ys) ∙ sym (append_assoc (marked x.stream x.bytes) (chunk_marks xs) (chunk_marks ys))

module _ (cs : List Chunk) (i : ℕ) (x : Chunk) (lt : i < length cs) (is : x ≡ get_or cs i x) where
  chunk_marks-next : chunk_marks (take (i + 1) cs) ≡ chunk_marks (take i cs) ++ marked x.stream x.bytes
  chunk_marks-next =
      ap (λ n. chunk_marks (take n cs)) (add-one i) ∙ ap chunk_marks (take-suc cs i x lt) ∙ chunk_marks-append (take i cs) (get_or cs i x ∷ [])
      ∙ ap (λ (c : Chunk). chunk_marks (take i cs) ++ chunk_marks (c ∷ [])) (sym is) ∙ ap (λ ms. chunk_marks (take i cs) ++ ms) (append-nil (marked x.stream x.bytes))

  chunk_marks-amid : chunk_marks (take i cs) ++ (marked x.stream x.bytes ++ chunk_marks (drop (i + 1) cs)) ≡ chunk_marks cs
  chunk_marks-amid =
      sym (append_assoc (chunk_marks (take i cs)) (marked x.stream x.bytes) (chunk_marks (drop (i + 1) cs)))
      ∙ ap (λ ms. ms ++ chunk_marks (drop (i + 1) cs)) (sym chunk_marks-next) ∙ sym (chunk_marks-append (take (i + 1) cs) (drop (i + 1) cs))
      ∙ ap chunk_marks (take-append-drop (i + 1) cs)

  -- the bytes of the chunk were written, or not
  module _ (bytes : List ℕ) (own : bytes ≡ x.bytes) (s t u : Sinks) (so_far : GetsAll s t (chunk_marks (take i cs))) where
    pub chunks-more : GetsAll t u (marked x.stream bytes) → GetsAll s u (chunk_marks (take (i + 1) cs))
    chunks-more h =
        subst (GetsAll s u) (sym chunk_marks-next) (GetsAll-more s t u (chunk_marks (take i cs)) (marked x.stream x.bytes) so_far (subst (λ bs. GetsAll t u (marked x.stream bs)) own h))

    pub chunks-short : StopsShort t u (marked x.stream bytes) → StopsShort s u (chunk_marks cs)
    chunks-short h =
        subst (StopsShort s u) chunk_marks-amid
        (StopsShort-amid s t u (chunk_marks (take i cs)) (marked x.stream x.bytes) (chunk_marks (drop (i + 1) cs)) so_far (subst (λ bs. StopsShort t u (marked x.stream bs)) own h))

-- whether there is a byte
pub none-bytes : (ms : List Mark) → (length ms == 0) ≡ true → ms ≡ []
none-bytes [] h = refl
none-bytes (m ∷ ms) h = absurd (let none : length (m ∷ ms) ≡ 0 = eqb-true (length (m ∷ ms)) 0 h in omega arith)

pub some-bytes : (ms : List Mark) → (length ms == 0) ≡ false → ms ≢ []
some-bytes ms h e = (let none : (length ms == 0) ≡ true = ap (λ (xs : List Mark). length xs == 0) e in cc)
