use Rattle.std.proofs.Common.{◌≡◌, ◌-◌, suc, length, take, ap, ◌∙◌, sym, refl, subst, arith}
use Rattle.std.proofs.lemmas.List.{length-take-le}
use Rattle.held_output.specs.Chunks.{chunk_marks}
use Rattle.held_output.proofs.OnChunks.{IsLast, IsShortened, one_last, shortened-some, shortened-drop, shortened-cut, shortened-sound}
use Rattle.held_output.proofs.join.shorten.Goals as goal

pub index_mut-requires : goal.index_mut-requires
index_mut-requires c = omega (arith, shortened-some _ _ _ _ c.loop-left.invariant c.loop-left-test.true, c.len-last.ensures, c.loop-left.chunks.ok.0)

-- the chunk that is cut back is the last one, and its size is the one that was read
record Cut (c : goal.After-chunks-1) : Type 0 where
  last : IsLast c.loop-left.chunks.items (c.len-last.result - 1) c.index_mut.result.now
  size : c.len-size.result ≡ length c.index_mut.result.now.bytes

cut : (c : goal.After-chunks-1) → Cut c
cut c =
    let some = shortened-some _ _ _ _ c.loop-left.invariant c.loop-left-test.true in
    let n : suc (c.len-last.result - 1) ≡ length c.loop-left.chunks.items = omega (arith, some, c.len-last.ensures, c.loop-left.chunks.ok.0) in
    let read : IsLast c.loop-left.chunks.items (c.len-last.result - 1) c.index.result.now = record { last = n; at = sym c.index.ensures } in
    let lent : IsLast c.loop-left.chunks.items (c.len-last.result - 1) c.index_mut.result.now = record { last = n; at = sym c.index_mut.ensures.value } in
    record { last = lent; size = c.len-size.ensures ∙ ap (λ x. length x.bytes) (one_last _ _ _ _ _ read lent) }

pub returns-then-left-size-clause-bytes : goal.returns-then-left-size-clause-bytes
returns-then-left-size-clause-bytes c =
    let k = cut c in
    shortened-cut _ _ _ _ c.loop-left.invariant _ _ _ k.last (omega (arith, c.if-left-size.true, k.size)) refl (c.truncate.ensures ∙ ap (λ n. take (n - c.loop-left.left) c.index_mut.result.now.bytes) k.size)

pub returns-then-left-size-clause-sound : goal.returns-then-left-size-clause-sound
returns-then-left-size-clause-sound c =
    let k = cut c in
    shortened-sound _ _ _ _ c.loop-left.invariant _ _ _ k.last (omega (arith, c.if-left-size.true, k.size)) refl (c.truncate.ensures ∙ ap (λ n. take (n - c.loop-left.left) c.index_mut.result.now.bytes) k.size)

pub loop-left-smaller : goal.loop-left-smaller
loop-left-smaller c =
    let some = shortened-some _ _ _ _ c.loop-left.invariant c.loop-left-test.true in
    omega (arith, some, ap length c.truncate-in-loop-left.ensures.items, length-take-le (c.len-last.result - 1) c.loop-left.chunks.items (omega (arith, c.len-last.ensures, c.loop-left.chunks.ok.0)), c.len-last.ensures, c.loop-left.chunks.ok.0)

pub loop-left-preserved : goal.loop-left-preserved
loop-left-preserved c =
    let some = shortened-some _ _ _ _ c.loop-left.invariant c.loop-left-test.true in
    let last : IsLast c.loop-left.chunks.items (c.len-last.result - 1) c.index.result.now = record { last = omega (arith, some, c.len-last.ensures, c.loop-left.chunks.ok.0); at = sym c.index.ensures } in
    let less = shortened-drop _ _ _ _ c.loop-left.invariant _ _ last (omega (arith, c.len-size.ensures, c.if-left-size.false)) in
    subst (λ cs. IsShortened (chunk_marks c.args.chunks.now.items) c.args.count (c.loop-left.left - c.len-size.result) cs) (sym c.truncate-in-loop-left.ensures.items)
    (subst (λ n. IsShortened (chunk_marks c.args.chunks.now.items) c.args.count (c.loop-left.left - n) (take (c.len-last.result - 1) c.loop-left.chunks.items)) (sym c.len-size.ensures) less)
