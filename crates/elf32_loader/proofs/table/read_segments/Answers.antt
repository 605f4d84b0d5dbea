use Rattle.std.proofs.Common.{◌≡◌, ℕ, ◌+◌, ◌*◌, ◌<◌, ◌≤◌, List, [], length, get_or, take, ◌⊎◌, inl, inr, ap, ◌∙◌, arith}
use Rattle.std.proofs.Math.ListN.{set, length-set}
use Rattle.std.proofs.lemmas.Bool.{cases_lt}
use Rattle.std.proofs.lemmas.List.{length-take-le, get_or-take, get_or-set_same, get_or-set_other}
use Rattle.std.proofs.lemmas.List.FromFn.{fill_by_all}
use Rattle.guest_model.specs.Segment.{Segment, segment_at, e_phoff, e_phnum}
use Rattle.elf32_loader.proofs.table.read_segments.Goals as goal

one_more : (f : ℕ → Segment) (table : List Segment) (i : ℕ) (s : Segment) → i < length table → s ≡ f i → ((k : ℕ) (d : Segment) → k < i → get_or table k d ≡ f k) → (k : ℕ) (d : Segment) → k < i + 1 → get_or (set table i s) k d ≡ f k
one_more f table i s l e h k d b = by_order (cases_lt k i)
  where
    by_order : (k < i) ⊎ (i ≤ k) → get_or (set table i s) k d ≡ f k
    by_order (inl r) = get_or-set_other table i k s d (λ x. omega arith) ∙ h k d r
    by_order (inr r) = let at : k ≡ i = omega arith in rw at (get_or-set_same table i s d l ∙ e)

pub loop-i-preserved : goal.loop-i-preserved
loop-i-preserved c = record {
  size = length-set c.loop-i.table c.loop-i.i c.read_segment.result ∙ c.loop-i.invariant.size;
  read = one_more (λ k. segment_at c.args.bytes.now (e_phoff c.args.bytes.now + 32 * k)) c.loop-i.table c.loop-i.i c.read_segment.result (omega arith) (c.read_segment.ensures ∙ ap (λ p. segment_at c.args.bytes.now (p + 32 * c.loop-i.i)) c.word_at-start.ensures) c.loop-i.invariant.read;
}

pub returns : goal.returns
returns c =
    let n = e_phnum c.args.bytes.now in
    fill_by_all (λ k. segment_at c.args.bytes.now (e_phoff c.args.bytes.now + 32 * k)) (take n c.loop-i.table) n (segment_at [] 0)
    (length-take-le n c.loop-i.table (omega arith))
    (λ k l. get_or-take n c.loop-i.table k (segment_at [] 0) l ∙ c.loop-i.invariant.read k (segment_at [] 0) (omega arith))
