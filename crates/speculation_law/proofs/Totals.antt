-- The path count is what the kept rows leave of the program alone.
use Rattle.std.proofs.Common.{◌≡◌, ℕ, zero, suc, ◌+◌, ◌-◌, ◌≤◌, Bool, true, false, List, [], ◌∷◌, ◌++◌, Option, Some, None, refl, sym, ap, ap₂, ◌∙◌, subst, arith}
use Rattle.speculation.specs.declared.tracks.Kind.TheVariants.{Normal, Fast}
use Rattle.speculation.specs.Machine.{Machine}
use Rattle.speculation.specs.Run.{Point, fresh, go, taken}
use Rattle.speculation.specs.Record.{IsPrefixOf, alone}
use Rattle.speculation.specs.Tracks.{point, boundary, first_from, original, fast_count}
use Rattle.speculation.specs.Verdicts.{Verdict, Kept, Differs, Stopped, Late, compared, unclosed, verdict_of, verdict}
use Rattle.speculation.specs.Ledger.{Row, row_at, round, walk, ledger_from, ledger, originals, saving, savings}
use Rattle.speculation.proofs.Runs.{taken-add, taken-going}
use Rattle.speculation.proofs.Records.{count-alone}
use Rattle.speculation_law.specs.Totals.{FastWithin, RowsWithin, Totalled}
use Rattle.speculation_law.proofs.Least.{first-least}
use Rattle.speculation_law.proofs.Verdicts.{boundary-going}
use Rattle.speculation_law.proofs.Walks.{fresh-point}

-- rows that each test of a round leads to
round-within : {E D : Type 0} (x : Option E) (f : Bool) (o : Option ℕ) (g : ℕ → List (Row D)) (p : List (Row D)) → RowsWithin p → ((n : ℕ) → RowsWithin (g n)) → RowsWithin (round x f o g p)
round-within (Some e) f o g p h k = tt
round-within None false o g p h k = h
round-within None true None g p h k = tt
round-within None true (Some n) g p h k = k n

round-originals : {E D : Type 0} (x : Option E) (f : Bool) (o : Option ℕ) (g : ℕ → List (Row D)) (p : List (Row D)) (count : ℕ)
    → (x ≡ None → originals p ≤ count) → ((n : ℕ) → o ≡ Some n → originals (g n) ≤ count) → originals (round x f o g p) ≤ count
round-originals (Some e) f o g p count h k = omega arith
round-originals None false o g p count h k = h refl
round-originals None true None g p count h k = omega arith
round-originals None true (Some n) g p count h k = k n refl

module _ {S E D : Type 0} (m : Machine S E D) where
  compared-within : (n k : ℕ) (d : Option D) → k ≤ n → FastWithin n (compared k d).fast (compared k d).verdict
  compared-within n k None h = h
  compared-within n k (Some d) h = tt

  unclosed-within : (n k : ℕ) (o : Option E) → FastWithin {D = D} n (unclosed {E = E} {D = D} n k o).fast (unclosed {E = E} {D = D} n k o).verdict
  unclosed-within n k (Some e) = tt
  unclosed-within n k None = tt

  verdict-within_by : (s : S) (n : ℕ) (o : Option ℕ) → first_from (boundary m Fast s) 1 n ≡ o → FastWithin n (verdict_of m s n o).fast (verdict_of m s n o).verdict
  verdict-within_by s n None is = unclosed-within n (fast_count m s n) (point m Fast s n).end
  verdict-within_by s n (Some k) is = (let least = first-least (boundary m Fast s) 1 n k is in
      compared-within n k (m.difference (point m Normal s n).state (point m Fast s k).state) (let high = least.high in omega arith))

  -- a kept fast version took at most as many instructions as its original
  pub verdict-within : (s : S) (n : ℕ) → FastWithin n (verdict m s n).fast (verdict m s n).verdict
  unfolding verdict
  verdict-within s n = verdict-within_by s n (first_from (boundary m Fast s) 1 n) refl

  walk-within : (rounds left : ℕ) (s : S) (number at : ℕ) → RowsWithin (walk m rounds left s number at)
  unfolding walk
  walk-within zero left s number at = tt
  walk-within (suc rounds) zero s number at = tt
  walk-within (suc rounds) (suc l) s number at =
      round-within (go m (fresh s) 1).end (m.at_fast s) (original m s (suc l))
      (λ n. row_at m s number at n ∷ walk m rounds (suc l - n) (go m (fresh s) n).state (suc number) (at + n))
      (walk m rounds l (go m (fresh s) 1).state number (suc at))
      (walk-within rounds l (go m (fresh s) 1).state number (suc at))
      (λ n. (verdict-within s n, walk-within rounds (suc l - n) (go m (fresh s) n).state (suc number) (at + n)))

  taken-behind : (s : S) (a c : ℕ) → (go m (fresh s) a).end ≡ None → taken m (fresh s) (a + c) ≡ a + taken m (fresh (go m (fresh s) a).state) c
  taken-behind s a c going =
      taken-add m (fresh s) a c ∙ ap₂ (λ (x : ℕ) (q : Point S E). x + taken m q c) (taken-going m (fresh s) a going) (fresh-point m (go m (fresh s) a) going)

  walk-originals : (rounds left : ℕ) (s : S) (number at : ℕ) → originals (walk m rounds left s number at) ≤ taken m (fresh s) left
  unfolding walk original
  walk-originals zero left s number at = omega arith
  walk-originals (suc rounds) zero s number at = omega arith
  walk-originals (suc rounds) (suc l) s number at =
      round-originals (go m (fresh s) 1).end (m.at_fast s) (original m s (suc l))
      (λ n. row_at m s number at n ∷ walk m rounds (suc l - n) (go m (fresh s) n).state (suc number) (at + n))
      (walk m rounds l (go m (fresh s) 1).state number (suc at)) (taken m (fresh s) (suc l))
      (λ going. (let rest = walk-originals rounds l (go m (fresh s) 1).state number (suc at) in
      let whole : 1 + l ≡ suc l = omega arith in
      let counted : taken m (fresh s) (suc l) ≡ 1 + taken m (fresh (go m (fresh s) 1).state) l = ap (taken m (fresh s)) (sym whole) ∙ taken-behind s 1 l going in omega arith))
      (λ n is. (let rest = walk-originals rounds (suc l - n) (go m (fresh s) n).state (suc number) (at + n) in
      let least = first-least (boundary m Normal s) 1 (suc l) n is in
      let high = least.high in
      let whole : n + (suc l - n) ≡ suc l = omega arith in
      let counted : taken m (fresh s) (suc l) ≡ n + taken m (fresh (go m (fresh s) n).state) (suc l - n)
      = ap (taken m (fresh s)) (sym whole) ∙ taken-behind s n (suc l - n) (boundary-going m Normal s n least.here) in omega arith))

-- Prefixes

within-front : {D : Type 0} (rows rest : List (Row D)) → RowsWithin (rows ++ rest) → RowsWithin rows
within-front [] rest h = tt
within-front (r ∷ rows) rest h = (h.0, within-front rows rest h.1)

originals-front : {D : Type 0} (rows rest : List (Row D)) → originals rows ≤ originals (rows ++ rest)
originals-front [] rest = omega arith
originals-front (r ∷ rows) rest = (let more = originals-front rows rest in omega arith)

saving-original : {D : Type 0} (original fast : ℕ) (v : Verdict D) → saving original fast v ≤ original
saving-original original fast Kept = omega arith
saving-original original fast (Differs d) = omega arith
saving-original original fast Stopped = omega arith
saving-original original fast Late = omega arith

savings-originals : {D : Type 0} (rows : List (Row D)) → savings rows ≤ originals rows
savings-originals [] = omega arith
savings-originals (r ∷ rows) = (let here = saving-original r.original r.judged.fast r.judged.verdict in let rest = savings-originals rows in omega arith)

module _ {S E D : Type 0} (m : Machine S E D) where
  -- the rows so far of the program alone
  pub totalled : (start : S) (budget : ℕ) (rows : List (Row D)) → IsPrefixOf rows (ledger m start budget) → Totalled (alone m start budget).count rows
  unfolding ledger ledger_from
  totalled start budget rows h =
      let all = walk-originals m budget budget start 0 0 in
      let front = originals-front rows h.0 in
      let same : originals (rows ++ h.0) ≡ originals (walk m budget budget start 0 0) = ap originals h.1 in
      let count : (alone m start budget).count ≡ taken m (fresh start) budget = count-alone m start budget in
      let saved = savings-originals rows in
      record {
        within = within-front rows h.0 (subst (λ rs. RowsWithin rs) (sym h.1) (walk-within m budget budget start 0 0));
        regions = omega arith;
        path = omega arith;
      }
