-- Marked bytes: of lists of pieces, of runs, and of one stream.
use Rattle.std.proofs.Common.{◌≡◌, ℕ, zero, suc, ◌+◌, List, [], ◌∷◌, ◌++◌, Option, Some, None, Bool, true, false, cond, nat_eq, refl, sym, ap, ◌∙◌, append_assoc}
use Rattle.speculation.specs.Machine.{Machine, Stepped, Next, Ends}
use Rattle.speculation.specs.Run.{Mark, Piece, Point, marked, marks, stream_bytes, go, piece_of, wrote, pieces, out}
use Rattle.speculation.specs.Record.{IsPrefixOf}
use Rattle.speculation.proofs.Runs.{pieces-add}

pub marks-append : (ps qs : List Piece) → marks (ps ++ qs) ≡ marks ps ++ marks qs
marks-append [] qs = refl
marks-append (p ∷ ps) qs = ap (λ ms. marked p.stream p.bytes ++ ms) (marks-append ps qs) ∙ sym (append_assoc (marked p.stream p.bytes) (marks ps) (marks qs))

stream_bytes-by : (stream : ℕ) (m : Mark) (xs ys zs : List ℕ) (test : Bool) → zs ≡ xs ++ ys → cond test (m.byte ∷ zs) zs ≡ cond test (m.byte ∷ xs) xs ++ ys
stream_bytes-by stream m xs ys zs true h = ap (λ bs. m.byte ∷ bs) h
stream_bytes-by stream m xs ys zs false h = h

pub stream_bytes-append : (stream : ℕ) (xs ys : List Mark) → stream_bytes stream (xs ++ ys) ≡ stream_bytes stream xs ++ stream_bytes stream ys
stream_bytes-append stream [] ys = refl
stream_bytes-append stream (x ∷ xs) ys = stream_bytes-by stream x (stream_bytes stream xs) (stream_bytes stream ys) (stream_bytes stream (xs ++ ys)) (nat_eq x.stream stream) (stream_bytes-append stream xs ys)

-- what begins an output begins each of its streams
pub IsPrefixOf-stream : (stream : ℕ) (xs ys : List Mark) → IsPrefixOf xs ys → IsPrefixOf (stream_bytes stream xs) (stream_bytes stream ys)
IsPrefixOf-stream stream xs ys h = (stream_bytes stream h.0, sym (stream_bytes-append stream xs h.0) ∙ ap (stream_bytes stream) h.1)

module _ {S E D : Type 0} (m : Machine S E D) where
  marks-piece_of : (j k : ℕ) (w : Stepped S E) → marks (piece_of j w) ≡ marks (piece_of k w)
  marks-piece_of j k (Next t stream []) = refl
  marks-piece_of j k (Next t stream (b ∷ bs)) = refl
  marks-piece_of j k (Ends e) = refl

  marks-wrote : (j k : ℕ) (s : S) (o : Option E) → marks (wrote m j s o) ≡ marks (wrote m k s o)
  marks-wrote j k s (Some e) = refl
  marks-wrote j k s None = marks-piece_of j k (m.step s)

  -- marked bytes don't depend on the numbers
  pub marks-pieces : (p : Point S E) (j k n : ℕ) → marks (pieces m p j n) ≡ marks (pieces m p k n)
  unfolding pieces
  marks-pieces p j k zero = refl
  marks-pieces p j k (suc n) =
      marks-append (pieces m p j n) _ ∙ ap (λ ms. ms ++ marks (wrote m (suc (j + n)) (go m p n).state (go m p n).end)) (marks-pieces p j k n)
      ∙ ap (λ ms. marks (pieces m p k n) ++ ms) (marks-wrote (suc (j + n)) (suc (k + n)) (go m p n).state (go m p n).end) ∙ sym (marks-append (pieces m p k n) _)

  -- outputs add up
  pub out-add : (p : Point S E) (a b : ℕ) → out m p (a + b) ≡ out m p a ++ out m (go m p a) b
  unfolding out
  out-add p a b =
      ap marks (pieces-add m p 0 a b) ∙ marks-append (pieces m p 0 a) (pieces m (go m p a) (0 + a) b)
      ∙ ap (λ ms. marks (pieces m p 0 a) ++ ms) (marks-pieces (go m p a) (0 + a) 0 b)
