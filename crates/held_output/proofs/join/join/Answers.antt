use Rattle.std.proofs.Common.{◌≡◌, ◌≢◌, ℕ, ◌-◌, List, [], ◌∷◌, ◌++◌, length, ap, ◌∙◌, sym, subst, refl, ◌==◌, false, arith}
use Rattle.std.proofs.lemmas.Result.{on_ok_weaker}
use Rattle.std.proofs.lemmas.Bool.{false≢true}
use Rattle.speculation.specs.Run.{marked}
use Rattle.held_output.specs.declared.chunks.Chunk.{Chunk}
use Rattle.held_output.specs.Chunks.{AreChunks, chunk_marks}
use Rattle.held_output.proofs.OnChunks.{IsLast, set_same, one_last, chunk_marks-more, chunk_marks-push, some_more, filled-last, AreChunks-set, AreChunks-push}
use Rattle.held_output.proofs.join.join.Goals as goal
use Rattle.held_output.proofs.join.join.Goals.{in-Some+else-last-stream, in_default}

pub returns-then-last-stream-clause-ok : goal.returns-then-last-stream-clause-ok
returns-then-last-stream-clause-ok c =
    let last : IsLast c.args.chunks.now.items (c.args.chunks.now.len - 1) c.in-Some.last.now = record { last = omega (arith, c.in-Some.ensures.variant.0 refl, c.args.chunks.now.ok.0); at = sym c.in-Some.ensures.value } in
    on_ok_weaker c.append.result
    (λ more. chunk_marks-more _ _ _ _ _ last refl more ∙ ap (λ s. chunk_marks c.args.chunks.now.items ++ marked s c.args.bytes.now) c.if-last-stream.true)
    c.append.ensures.ok

pub returns-then-last-stream-clause-sound : goal.returns-then-last-stream-clause-sound
returns-then-last-stream-clause-sound c =
    let last : IsLast c.args.chunks.now.items (c.args.chunks.now.len - 1) c.in-Some.last.now = record { last = omega (arith, c.in-Some.ensures.variant.0 refl, c.args.chunks.now.ok.0); at = sym c.in-Some.ensures.value } in
    AreChunks-set _ _ _ _ last c.requires.sound refl (some_more c.append.result _ _ _ c.append.ensures.ok c.append.ensures.err (filled-last _ _ _ last c.requires.sound))

-- no chunk of this stream is the last one
abbrev EndsApart : List Chunk → ℕ → Type 0
EndsApart cs stream = (n : ℕ) (d : Chunk) → IsLast cs n d → d.stream ≢ stream

parted : (c : goal.In_ok-push) → (c.match-last_mut.chunks.items ≡ c.args.chunks.now.items) × EndsApart c.args.chunks.now.items c.args.stream
parted c = elim c.match-last_mut.branch [
  | in-Some+else-last-stream w ↦
      let last : IsLast c.args.chunks.now.items (c.args.chunks.now.len - 1) w.in-Some.last.now = record { last = omega (arith, w.in-Some.ensures.variant.0 refl, c.args.chunks.now.ok.0); at = sym w.in-Some.ensures.value } in
      (ap (λ v. v.items) w.chunks-is ∙ set_same _ _ _ last, λ n d l same. w.if-last-stream.false (ap (λ x. x.stream) (one_last _ _ _ _ _ last l) ∙ same))
  | in_default w ↦ (ap (λ v. v.items) w.chunks-is, λ n d l same. false≢true (w.in_default.ensures.variant.1 (omega (arith, l.last, c.args.chunks.now.ok.0))))
]

pushed : (c : goal.In_ok-push) → c.push.new.self.items ≡ c.args.chunks.now.items ++ record { stream = c.args.stream; bytes = c.args.bytes.now } ∷ []
pushed c =
    c.in_ok-push.ensures.items ∙ ap (λ (cs : List Chunk). cs ++ record { stream = c.args.stream; bytes = c.from_vec-bytes.result } ∷ []) (parted c).0
    ∙ ap (λ (bs : List ℕ). c.args.chunks.now.items ++ record { stream = c.args.stream; bytes = bs } ∷ []) (c.from_vec-bytes.ensures ∙ c.in_ok-from_slice.ensures.items)

pub returns-clause-ok : goal.returns-clause-ok
returns-clause-ok c = ap chunk_marks (pushed c) ∙ chunk_marks-push c.args.chunks.now.items (record { stream = c.args.stream; bytes = c.args.bytes.now })

pub returns-clause-sound : goal.returns-clause-sound
returns-clause-sound c =
    let some : (length c.args.bytes.now == 0) ≡ false = sym c.is_empty.ensures ∙ c.if-is_empty.false in
    subst AreChunks (sym (pushed c))
    (AreChunks-push _ (record { stream = c.args.stream; bytes = c.args.bytes.now }) c.requires.sound (λ none. false≢true (sym some ∙ ap (λ (bs : List ℕ). length bs == 0) none)) c.requires.stream (parted c).1)
