-- A guest's output on two sinks, as its run goes on
use Rattle.std.proofs.Common.{◌≡◌, ℕ, suc, ◌+◌, ◌-◌, ◌<◌, List, [], ◌∷◌, ◌++◌, length, take, drop, Option, Some, Result, Ok, Err, ◌⊎◌, inl, inr, refl, sym, ap, ◌∙◌, subst, append_assoc, append-nil, add-one, arith, take-append-drop, length-drop}
use Rattle.std.specs.Io.KnownBytes.{Appends}
use Rattle.std.proofs.KnownBytes.{Appends-nil, Appends-trans}
use Rattle.speculation.specs.Machine.{Machine, Stepped, Next, Ends}
use Rattle.speculation.specs.Run.{Mark, Point, marked, marks, stream_bytes, fresh, go, pieces, piece_of, wrote, out}
use Rattle.speculation.specs.Record.{alone, output_of}
use Rattle.speculation.proofs.Runs.{go-next, go-ends, go-stays, pieces-stay}
use Rattle.speculation.proofs.Outputs.{marks-append, stream_bytes-append, out-add}
use Rattle.speculation.proofs.Records.{output-alone, end-alone}
use Rattle.host_io.specs.Faults.{Rose, CountsFaults}
use Rattle.host_io.specs.Writes.{WritesWhole}
use Rattle.guest_model.specs.declared.end.End.{End}
use Rattle.guest_model.specs.declared.end.End.TheVariants.{Spent}
use Rattle.guest_streams.specs.GuestStreams.{end_of, Sinks, Gets, IsNext, FailsAt, StopsShort, IsCalm, GetsPart, GetsAll, WritesPiece, PassesOn, Leaves}
use Rattle.guest_streams.specs.declared.fault.OutputFault.{OutputFault}
use Rattle.guest_streams.specs.declared.fault.OutputFault.TheVariants.{Write, NoMemory}

-- ---- what sinks get, one part after another

pub Gets-nothing : (s : Sinks) → Gets s s []
Gets-nothing s = record { stream_1 = Appends-nil s.out; stream_2 = Appends-nil s.notes }

pub Gets-more : (s t u : Sinks) (xs ys : List Mark) → Gets s t xs → Gets t u ys → Gets s u (xs ++ ys)
Gets-more s t u xs ys p q = record {
  stream_1 = subst (Appends s.out u.out) (sym (stream_bytes-append 1 xs ys)) (Appends-trans s.out t.out u.out (stream_bytes 1 xs) (stream_bytes 1 ys) p.stream_1 q.stream_1);
  stream_2 = subst (Appends s.notes u.notes) (sym (stream_bytes-append 2 xs ys)) (Appends-trans s.notes t.notes u.notes (stream_bytes 2 xs) (stream_bytes 2 ys) p.stream_2 q.stream_2);
}

pub IsCalm-refl : (s : Sinks) → IsCalm s s
IsCalm-refl s = record { on_out = refl; on_notes = refl }

pub IsCalm-trans : (s t u : Sinks) → IsCalm s t → IsCalm t u → IsCalm s u
IsCalm-trans s t u p q = record { on_out = q.on_out ∙ p.on_out; on_notes = q.on_notes ∙ p.on_notes }

IsNext-more : (stream : ℕ) (rest more : List Mark) → IsNext stream rest → IsNext stream (rest ++ more)
IsNext-more stream [] more h = absurd h
IsNext-more stream (m ∷ ms) more h = h

FailsAt-from : (s t u : Sinks) (rest more : List Mark) → IsCalm s t → FailsAt t u rest → FailsAt s u (rest ++ more)
FailsAt-from s t u rest more c (inl h) = inl (subst (λ n. Rose n u.out_faults) c.on_out h.0, h.1 ∙ c.on_notes, IsNext-more 1 rest more h.2)
FailsAt-from s t u rest more c (inr h) = inr (subst (λ n. Rose n u.notes_faults) c.on_notes h.0, h.1 ∙ c.on_out, IsNext-more 2 rest more h.2)

pub GetsAll-nothing : (s : Sinks) → GetsAll s s []
GetsAll-nothing s = record { gets = Gets-nothing s; calm = IsCalm-refl s }

pub GetsAll-more : (s t u : Sinks) (xs ys : List Mark) → GetsAll s t xs → GetsAll t u ys → GetsAll s u (xs ++ ys)
GetsAll-more s t u xs ys p q = record { gets = Gets-more s t u xs ys p.gets q.gets; calm = IsCalm-trans s t u p.calm q.calm }

-- a piece amid an output could not be written whole
pub StopsShort-amid : (s t u : Sinks) (before piece after : List Mark) → GetsAll s t before → StopsShort t u piece → StopsShort s u (before ++ (piece ++ after))
StopsShort-amid s t u before piece after p h = record {
  got = before ++ h.got;
  rest = h.rest ++ after;
  parts = append_assoc before h.got (h.rest ++ after) ∙ ap (λ ms. before ++ ms) (sym (append_assoc h.got h.rest after) ∙ ap (λ ms. ms ++ after) h.parts);
  gets = Gets-more s t u before h.got p.gets h.gets;
  fails = FailsAt-from s t u h.rest after p.calm h.fails;
}

-- what comes behind was not written
pub GetsPart-of : (s t : Sinks) (xs after : List Mark) → GetsAll s t xs → GetsPart s t (xs ++ after)
GetsPart-of s t xs after p = record { got = xs; rest = after; parts = refl; gets = p.gets; calm = p.calm }

-- or a part of it was
pub GetsPart-more : (s t u : Sinks) (xs ys : List Mark) → GetsAll s t xs → GetsPart t u ys → GetsPart s u (xs ++ ys)
GetsPart-more s t u xs ys p h = record {
  got = xs ++ h.got;
  rest = h.rest;
  parts = append_assoc xs h.got h.rest ∙ ap (λ ms. xs ++ ms) h.parts;
  gets = Gets-more s t u xs h.got p.gets h.gets;
  calm = IsCalm-trans s t u p.calm h.calm;
}

-- ---- one piece

pub stream_bytes-own_1 : (bs : List ℕ) → stream_bytes 1 (marked 1 bs) ≡ bs
stream_bytes-own_1 [] = refl
stream_bytes-own_1 (b ∷ bs) = ap (λ xs. b ∷ xs) (stream_bytes-own_1 bs)

stream_bytes-own_2 : (bs : List ℕ) → stream_bytes 2 (marked 2 bs) ≡ bs
stream_bytes-own_2 [] = refl
stream_bytes-own_2 (b ∷ bs) = ap (λ xs. b ∷ xs) (stream_bytes-own_2 bs)

stream_bytes-other_1 : (bs : List ℕ) → stream_bytes 1 (marked 2 bs) ≡ []
stream_bytes-other_1 [] = refl
stream_bytes-other_1 (b ∷ bs) = stream_bytes-other_1 bs

stream_bytes-other_2 : (bs : List ℕ) → stream_bytes 2 (marked 1 bs) ≡ []
stream_bytes-other_2 [] = refl
stream_bytes-other_2 (b ∷ bs) = stream_bytes-other_2 bs

pub marked-append : (stream : ℕ) (xs ys : List ℕ) → marked stream (xs ++ ys) ≡ marked stream xs ++ marked stream ys
marked-append stream [] ys = refl
marked-append stream (x ∷ xs) ys = ap (λ ms. (record { stream = stream; byte = x }) ∷ ms) (marked-append stream xs ys)

pub IsNext-marked : (stream : ℕ) (bs : List ℕ) → 0 < length bs → IsNext stream (marked stream bs)
IsNext-marked stream [] h = absurd (omega arith)
IsNext-marked stream (b ∷ bs) h = refl

-- the sinks when the first got these bytes, or the second did
pub Gets-on_out : (s : Sinks) (told : Option (List ℕ)) (faults : ℕ) (bs : List ℕ) → Appends s.out told bs → Gets s (record s { out = told; out_faults = faults }) (marked 1 bs)
Gets-on_out s told faults bs h = record {
  stream_1 = subst (Appends s.out told) (sym (stream_bytes-own_1 bs)) h;
  stream_2 = subst (Appends s.notes s.notes) (sym (stream_bytes-other_2 bs)) (Appends-nil s.notes);
}

Gets-on_notes : (s : Sinks) (told : Option (List ℕ)) (faults : ℕ) (bs : List ℕ) → Appends s.notes told bs → Gets s (record s { notes = told; notes_faults = faults }) (marked 2 bs)
Gets-on_notes s told faults bs h = record {
  stream_1 = subst (Appends s.out s.out) (sym (stream_bytes-other_1 bs)) (Appends-nil s.out);
  stream_2 = subst (Appends s.notes told) (sym (stream_bytes-own_2 bs)) h;
}

parts_of : (stream n : ℕ) (bs : List ℕ) → marked stream (take n bs) ++ marked stream (drop n bs) ≡ marked stream bs
parts_of stream n bs = sym (marked-append stream (take n bs) (drop n bs)) ∙ ap (marked stream) (take-append-drop n bs)

pub left_over : (n : ℕ) (bs : List ℕ) → n < length bs → 0 < length (drop n bs)
left_over n bs h = simp length-drop (omega arith)

WritesPiece-on_1 : {T E : Type 0} (s : Sinks) (told : Option (List ℕ)) (faults : ℕ) (bs : List ℕ) (r : Result T E) → WritesWhole s.out told r bs → CountsFaults s.out_faults faults r → WritesPiece s (record s { out = told; out_faults = faults }) (marked 1 bs) r
WritesPiece-on_1 s told faults bs (Ok x) w c = record { gets = Gets-on_out s told faults bs w; calm = record { on_out = c; on_notes = refl } }
WritesPiece-on_1 s told faults bs (Err e) w c = record {
  got = marked 1 (take w.0 bs);
  rest = marked 1 (drop w.0 bs);
  parts = parts_of 1 w.0 bs;
  gets = Gets-on_out s told faults (take w.0 bs) w.2;
  fails = inl (c, refl, IsNext-marked 1 (drop w.0 bs) (left_over w.0 bs w.1));
}

WritesPiece-on_2 : {T E : Type 0} (s : Sinks) (told : Option (List ℕ)) (faults : ℕ) (bs : List ℕ) (r : Result T E) → WritesWhole s.notes told r bs → CountsFaults s.notes_faults faults r → WritesPiece s (record s { notes = told; notes_faults = faults }) (marked 2 bs) r
WritesPiece-on_2 s told faults bs (Ok x) w c = record { gets = Gets-on_notes s told faults bs w; calm = record { on_out = refl; on_notes = c } }
WritesPiece-on_2 s told faults bs (Err e) w c = record {
  got = marked 2 (take w.0 bs);
  rest = marked 2 (drop w.0 bs);
  parts = parts_of 2 w.0 bs;
  gets = Gets-on_notes s told faults (take w.0 bs) w.2;
  fails = inr (c, refl, IsNext-marked 2 (drop w.0 bs) (left_over w.0 bs w.1));
}

-- a piece of either stream, written whole to its sink
pub WritesPiece-on_out : {T E : Type 0} (s : Sinks) (told : Option (List ℕ)) (faults stream : ℕ) (bs : List ℕ) (r : Result T E) → stream ≡ 1 → WritesWhole s.out told r bs → CountsFaults s.out_faults faults r → WritesPiece s (record s { out = told; out_faults = faults }) (marked stream bs) r
WritesPiece-on_out s told faults stream bs r e w c = subst (λ n. WritesPiece s (record s { out = told; out_faults = faults }) (marked n bs) r) (sym e) (WritesPiece-on_1 s told faults bs r w c)

pub WritesPiece-on_notes : {T E : Type 0} (s : Sinks) (told : Option (List ℕ)) (faults stream : ℕ) (bs : List ℕ) (r : Result T E) → (stream ≡ 1) ⊎ (stream ≡ 2) → (stream ≡ 1 → ⊥) → WritesWhole s.notes told r bs → CountsFaults s.notes_faults faults r → WritesPiece s (record s { notes = told; notes_faults = faults }) (marked stream bs) r
WritesPiece-on_notes s told faults stream bs r (inl h) not_1 w c = absurd (not_1 h)
WritesPiece-on_notes s told faults stream bs r (inr e) not_1 w c = subst (λ n. WritesPiece s (record s { notes = told; notes_faults = faults }) (marked n bs) r) (sym e) (WritesPiece-on_2 s told faults bs r w c)

-- ---- a run that stands in a state after `done` instructions, with all that it wrote on the sinks

module _ {S D : Type 0} (m : Machine S End D) where
  pub record SoFar (start : S) (done : ℕ) (s : S) (old now : Sinks) : Type 0 where
    pub stands : go m (fresh start) done ≡ fresh s
    pub written : GetsAll old now (out m (fresh start) done)

  -- before the first instruction
  pub SoFar-first : (start : S) (old : Sinks) → SoFar start 0 start old old
  unfolding go out pieces
  SoFar-first start old = record { stands = refl; written = record { gets = Gets-nothing old; calm = IsCalm-refl old } }

  marks-piece : (k : ℕ) (t : S) (stream : ℕ) (bytes : List ℕ) → marks (piece_of {S = S} {E = End} k (Next t stream bytes)) ≡ marked stream bytes
  marks-piece k t stream [] = refl
  marks-piece k t stream (b ∷ bs) = append-nil (marked stream (b ∷ bs))

  -- what is written by one instruction more
  out-next : (start : S) (done : ℕ) (s : S) (w : Stepped S End) → go m (fresh start) done ≡ fresh s → m.step s ≡ w → out m (fresh start) (suc done) ≡ out m (fresh start) done ++ marks (piece_of (suc (0 + done)) w)
  unfolding out pieces
  out-next start done s w here step =
      marks-append (pieces m (fresh start) 0 done) _
      ∙ ap (λ (q : Point S End). marks (pieces m (fresh start) 0 done) ++ marks (wrote m (suc (0 + done)) q.state q.end)) here
      ∙ ap (λ v. marks (pieces m (fresh start) 0 done) ++ marks (piece_of (suc (0 + done)) v)) step

  SoFar-suc : (start : S) (done : ℕ) (s t : S) (stream : ℕ) (bytes : List ℕ) (old now next : Sinks) → SoFar start done s old now → m.step s ≡ Next t stream bytes → GetsAll now next (marked stream bytes) → SoFar start (suc done) t old next
  SoFar-suc start done s t stream bytes old now next so step got = record {
    stands = go-next m (fresh start) done s t stream bytes so.stands step;
    written = record {
      gets = subst (Gets old next) (ap (λ ms. out m (fresh start) done ++ ms) (sym (marks-piece (suc (0 + done)) t stream bytes)) ∙ sym (out-next start done s (Next t stream bytes) so.stands step))
          (Gets-more old now next (out m (fresh start) done) (marked stream bytes) so.written.gets got.gets);
      calm = IsCalm-trans old now next so.written.calm got.calm;
    };
  }

  -- an instruction that wrote this piece, all of which the sinks got
  pub SoFar-wrote : (start : S) (done : ℕ) (s t : S) (stream : ℕ) (bytes : List ℕ) (old now next : Sinks) → SoFar start done s old now → m.step s ≡ Next t stream bytes → GetsAll now next (marked stream bytes) → SoFar start (done + 1) t old next
  SoFar-wrote start done s t stream bytes old now next so step got = subst (λ n. SoFar start n t old next) (sym (add-one done)) (SoFar-suc start done s t stream bytes old now next so step got)

  -- an instruction that wrote nothing
  pub SoFar-quiet : (start : S) (done : ℕ) (s t : S) (stream : ℕ) (old now : Sinks) → SoFar start done s old now → m.step s ≡ Next t stream [] → SoFar start (done + 1) t old now
  SoFar-quiet start done s t stream old now so step = SoFar-wrote start done s t stream [] old now now so step (record { gets = Gets-nothing now; calm = IsCalm-refl now })

  -- the budget is spent
  pub SoFar-spent : (start : S) (done budget : ℕ) (s : S) (old now : Sinks) → SoFar start done s old now → done ≡ budget → GetsAll old now (output_of (alone m start budget)) × (Spent ≡ end_of (alone m start budget).end)
  SoFar-spent start done budget s old now so e = (
    subst (GetsAll old now) (sym (output-alone m start budget ∙ ap (out m (fresh start)) (sym e))) so.written,
    ap end_of (sym (end-alone m start budget ∙ ap (λ n. (go m (fresh start) n).end) (sym e) ∙ ap (λ (q : Point S End). q.end) so.stands)),
  )

  -- nothing is written behind an end
  out-stays : (start : S) (n budget : ℕ) (e : End) → budget ≡ n + (budget - n) → (go m (fresh start) n).end ≡ Some e → out m (fresh start) budget ≡ out m (fresh start) n
  unfolding out
  out-stays start n budget e whole met = ap (λ k. marks (pieces m (fresh start) 0 k)) whole ∙ ap marks (pieces-stay m (fresh start) 0 n (budget - n) e met)

  -- the program ends
  pub SoFar-ends : (start : S) (done budget : ℕ) (s : S) (e : End) (old now : Sinks) → SoFar start done s old now → m.step s ≡ Ends e → done < budget → GetsAll old now (output_of (alone m start budget)) × (e ≡ end_of (alone m start budget).end)
  SoFar-ends start done budget s e old now so step lt =
      let ended : go m (fresh start) (suc done) ≡ record { state = s; end = Some e } = go-ends m (fresh start) done s e so.stands step in
      let met : (go m (fresh start) (suc done)).end ≡ Some e = ap (λ (q : Point S End). q.end) ended in
      let left = budget - suc done in
      let whole : budget ≡ suc done + left = omega arith in
      let stays : go m (fresh start) budget ≡ go m (fresh start) (suc done) = ap (go m (fresh start)) whole ∙ go-stays m (fresh start) (suc done) left e met in
      let nothing : out m (fresh start) (suc done) ≡ out m (fresh start) done = out-next start done s (Ends e) so.stands step ∙ append-nil (out m (fresh start) done) in
      let same : out m (fresh start) budget ≡ out m (fresh start) (suc done) = out-stays start (suc done) budget e whole met in (
        subst (GetsAll old now) (sym (output-alone m start budget ∙ same ∙ nothing)) so.written,
        ap end_of (sym (end-alone m start budget ∙ ap (λ (q : Point S End). q.end) stays ∙ met)),
      )

  -- what the whole run writes begins with what was written after one instruction more
  output-split : (start : S) (done budget : ℕ) (s t : S) (stream : ℕ) (bytes : List ℕ) → go m (fresh start) done ≡ fresh s → m.step s ≡ Next t stream bytes → done < budget
      → (more : List Mark) × (out m (fresh start) done ++ (marked stream bytes ++ more) ≡ output_of (alone m start budget))
  output-split start done budget s t stream bytes here step lt =
      let left = budget - suc done in
      let whole : budget ≡ suc done + left = omega arith in
      let more = out m (go m (fresh start) (suc done)) left in (
        more,
        sym (append_assoc (out m (fresh start) done) (marked stream bytes) more)
            ∙ ap (λ ms. (out m (fresh start) done ++ ms) ++ more) (sym (marks-piece (suc (0 + done)) t stream bytes))
            ∙ ap (λ ms. ms ++ more) (sym (out-next start done s (Next t stream bytes) here step))
            ∙ sym (out-add m (fresh start) (suc done) left)
            ∙ ap (out m (fresh start)) (sym whole)
            ∙ sym (output-alone m start budget),
      )

  -- a piece could not be written whole
  SoFar-fails : (start : S) (done budget : ℕ) (s t : S) (stream : ℕ) (bytes : List ℕ) (old now next : Sinks) → SoFar start done s old now → m.step s ≡ Next t stream bytes → done < budget → StopsShort now next (marked stream bytes) → StopsShort old next (output_of (alone m start budget))
  SoFar-fails start done budget s t stream bytes old now next so step lt h =
      let split = output-split start done budget s t stream bytes so.stands step lt in
      subst (StopsShort old next) split.1 (StopsShort-amid old now next (out m (fresh start) done) (marked stream bytes) split.0 so.written h)

  -- there was no memory for a piece
  SoFar-refused : (start : S) (done budget : ℕ) (s t : S) (stream : ℕ) (bytes : List ℕ) (old now : Sinks) → SoFar start done s old now → m.step s ≡ Next t stream bytes → done < budget → GetsPart old now (output_of (alone m start budget))
  SoFar-refused start done budget s t stream bytes old now so step lt =
      let split = output-split start done budget s t stream bytes so.stands step lt in
      subst (GetsPart old now) split.1 (GetsPart-of old now (out m (fresh start) done) (marked stream bytes ++ split.0) so.written)

  -- a piece that could not be passed on
  pub SoFar-refuses : (T : Type 0) (start : S) (done budget : ℕ) (s t : S) (stream : ℕ) (bytes : List ℕ) (old now next : Sinks) (f : OutputFault) → SoFar start done s old now → m.step s ≡ Next t stream bytes → done < budget → PassesOn {T = T} now next (marked stream bytes) (Err f) → Leaves (alone m start budget) old next (Err f)
  SoFar-refuses T start done budget s t stream bytes old now next Write so step lt h = SoFar-fails start done budget s t stream bytes old now next so step lt h
  SoFar-refuses T start done budget s t stream bytes old now next NoMemory so step lt h = subst (λ z. GetsPart old z (output_of (alone m start budget))) (sym h) (SoFar-refused start done budget s t stream bytes old now so step lt)
