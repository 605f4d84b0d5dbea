-- Texts that grow line by line
use Rattle.std.proofs.Common.{◌≡◌, ℕ, suc, ◌+◌, ◌-◌, ◌<◌, ◌≤◌, List, [], ◌∷◌, ◌++◌, length, take, map, get_or, flat_map, refl, sym, ap, ap₂, ◌∙◌, append_assoc, append-nil, arith}
use Rattle.std.specs.Prelude.{All}
use Rattle.std.proofs.lemmas.Grind.{flat_map-append}
use Rattle.std.proofs.lemmas.List.{take_more}
use Rattle.guest_model.specs.ByteMap.{ByteMap}
use Rattle.guest_model.specs.Registers.{RegFile, reg}
use Rattle.byte_runs.specs.declared.run.Run.{Run}
use Rattle.byte_runs.specs.declared.run.Runs.{Runs}
use Rattle.byte_runs.specs.Runs.{Shows, IsRunsOf, span_of}
use Rattle.difference_text.specs.Differences.{word_line, register_name, register_line, registers_lines, run_line, most_runs, more_line, memory_lines}
use Rattle.difference_text.specs.Found.{found_line}

registers-more : (f g : RegFile) (r : ℕ) → 1 ≤ r → registers_lines f g (r + 1 - 1) ≡ registers_lines f g (r - 1) ++ register_line f g r
unfolding registers_lines
registers-more f g r low =
    let n = r - 1 in
    let next : r + 1 - 1 ≡ suc n = omega (arith, low) in
    let here : suc n ≡ r = omega (arith, low) in
    ap (registers_lines f g) next ∙ ap (λ i. registers_lines f g n ++ register_line f g i) here

-- the line of register r was added to those before it
pub text-register : (f g : RegFile) (r v w : ℕ) (first old new : List ℕ) → 1 ≤ r → v ≡ reg f r → w ≡ reg g r → old ≡ first ++ registers_lines f g (r - 1) → new ≡ old ++ word_line (register_name r) v w
    → new ≡ first ++ registers_lines f g (r + 1 - 1)
text-register f g r v w first old new low left right before added =
    added ∙ ap₂ (λ a b. old ++ word_line (register_name r) a b) left right ∙ ap (λ xs. xs ++ register_line f g r) before
    ∙ append_assoc first (registers_lines f g (r - 1)) (register_line f g r) ∙ ap (λ xs. first ++ xs) (sym (registers-more f g r low))

-- the line of run i was added to those before it
pub text-run : (rs : List Run) (i : ℕ) (d : Run) (first old new : List ℕ) → i < length rs → old ≡ first ++ flat_map found_line (take i rs) → new ≡ old ++ found_line (get_or rs i d)
    → new ≡ first ++ flat_map found_line (take (i + 1) rs)
text-run rs i d first old new less before added =
    let more : flat_map found_line (take (i + 1) rs) ≡ flat_map found_line (take i rs) ++ found_line (get_or rs i d)
    = ap (flat_map found_line) (take_more rs i d less) ∙ flat_map-append found_line (take i rs) (get_or rs i d ∷ []) ∙ ap (λ xs. flat_map found_line (take i rs) ++ xs) (append-nil (found_line (get_or rs i d))) in
    added ∙ ap (λ xs. xs ++ found_line (get_or rs i d)) before ∙ append_assoc first (flat_map found_line (take i rs)) (found_line (get_or rs i d)) ∙ ap (λ xs. first ++ xs) (sym more)

-- runs that show the bytes of both maps have the lines of their spans
pub found-lines : (m n : ByteMap) (rs : List Run) → All (Shows m n) rs → flat_map found_line rs ≡ flat_map (run_line m n) (map span_of rs)
found-lines m n [] h = refl
found-lines m n (r ∷ rs) h =
    let one : Shows m n r = h 0 r (omega arith) in
    ap₂ (λ x y. x ++ y) (found-line m n r one) (found-lines m n rs (λ k d l. h (suc k) d (omega (arith, l))))
  where
    found-line : (m n : ByteMap) (r : Run) → Shows m n r → found_line r ≡ run_line m n (span_of r)
    found-line m n r one = rw (one.left, one.right) refl

-- the lines of the runs that were found are those of all runs
pub memory-is : (m n : ByteMap) (found : Runs) → IsRunsOf m n most_runs found → flat_map found_line found.runs.items ++ more_line found.more ≡ memory_lines m n
unfolding memory_lines
memory-is m n found h =
    ap₂ (λ xs k. xs ++ more_line k) (found-lines m n found.runs.items h.bytes ∙ ap (flat_map (run_line m n)) h.kept) h.more
