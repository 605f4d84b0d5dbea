use Rattle.std.proofs.Common.{◌≡◌, ℕ, ◌<◌, ◌≤◌, Bool, true, false, ◌&&◌, [], length, ⊎_elim, sym, ap, ◌∙◌, arith}
use Rattle.std.specs.Prelude.{nat_lt}
use Rattle.std.proofs.lemmas.Bool.{cases_lt, and_from, and_left, and_right, lt-ltb, le-ltb}
use Rattle.std.proofs.lemmas.List.{get_or_read}
use Rattle.guest_model.specs.ImageFault.{nth, overlap}
use Rattle.elf32_loader.proofs.OnPlacesInTable.{least-none, least-found}
use Rattle.elf32_loader.proofs.segment_checks.first_overlap.Goals as goal

not_behind : (i k : ℕ) (b : Bool) → (i < k → b ≡ false) → (nat_lt i k && b) ≡ false
not_behind i k b h = ⊎_elim
    (λ (l : i < k). and_right (nat_lt i k) b (h l))
    (λ (l : k ≤ i). and_left (nat_lt i k) b (le-ltb i k l))
    (cases_lt i k)

pub returns-then-overlaps : goal.returns-then-overlaps
returns-then-overlaps c =
    let hs = c.args.segments.now in
    let i = c.args.i in
    let j = c.loop-j.j in
    let inside : j < length hs = omega arith in
    let behind : i < j = omega arith in
    let first = get_or_read hs i c.index-segments-i.result (omega arith) c.index-segments-i.is (nth [] 0) in
    let second = get_or_read hs j c.index-segments-j.result inside c.index-segments-j.is (nth [] 0) in
    let meets : overlap (nth hs i) (nth hs j) ≡ true =
    ap (λ s. overlap s (nth hs j)) (sym first) ∙ ap (λ s. overlap c.index-segments-i.result s) (sym second) ∙ sym c.overlaps.ensures ∙ c.if-overlaps.true in
    sym (least-found (λ k. nat_lt i k && overlap (nth hs i) (nth hs k)) (length hs) j inside
    (and_from (nat_lt i j) (overlap (nth hs i) (nth hs j)) (lt-ltb i j behind) meets)
    (λ k l. not_behind i k (overlap (nth hs i) (nth hs k)) (λ r. c.loop-j.invariant k r l)))

pub returns : goal.returns
returns c =
    let hs = c.args.segments.now in
    let i = c.args.i in
    sym (least-none (λ k. nat_lt i k && overlap (nth hs i) (nth hs k)) (length hs)
    (λ k l. not_behind i k (overlap (nth hs i) (nth hs k)) (λ r. c.loop-j.invariant k r (omega arith))))
