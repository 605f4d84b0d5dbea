-- Totals that have counted the first rows
use Rattle.std.proofs.Common.{◌≡◌, ℕ, ◌+◌, ◌-◌, ◌≤◌, ◌<◌, List, [], ◌∷◌, cond, length, take, get_or, refl, ap, ◌∙◌, subst, sym, arith}
use Rattle.std.specs.Prelude.{count_by, sum_by}
use Rattle.std.proofs.lemmas.List.{take_all}
use Rattle.std.proofs.lemmas.List.Recursion.{is_sum_by}
use Rattle.std.proofs.lemmas.List.Sums.{sum_by_more, sum_by_more_le}
use Rattle.speculation.specs.Ledger.{saving, savings, originals, path_count}
use Rattle.region_ledger.specs.Ledger.{core_verdict, ledger_rows, totals_of, is_kept, is_differing, is_stopped, is_late}
use Rattle.region_ledger.specs.declared.row.Row.{Row}
use Rattle.region_ledger.specs.declared.verdict.Verdict.{Verdict}
use Rattle.region_ledger.specs.declared.verdict.Verdict.TheVariants.{Kept, Differs, Stopped, Late}
use Rattle.region_ledger.specs.declared.summary.Totals.{Totals}

-- what a row saves
abbrev pub row_saving : Row → ℕ
row_saving r = saving r.original r.fast (core_verdict r.verdict)

-- these totals have counted the first i rows
pub record CountsFirst (rows : List Row) (alone i : ℕ) (t : Totals) : Type 0 where
  pub regions : t.regions ≡ length rows
  pub kept : t.kept ≡ count_by (λ r. is_kept r.verdict) (take i rows)
  pub differs : t.differs ≡ count_by (λ r. is_differing r.verdict) (take i rows)
  pub stopped : t.stopped ≡ count_by (λ r. is_stopped r.verdict) (take i rows)
  pub late : t.late ≡ count_by (λ r. is_late r.verdict) (take i rows)
  pub alone_count : t.alone_count ≡ alone
  pub path : t.path_count + sum_by row_saving (take i rows) ≡ alone

-- savings as a sum, and they are at most the originals
pub savings_sum : (rows : List Row) → savings (ledger_rows rows) ≡ sum_by row_saving rows
savings_sum = is_sum_by (λ rows. savings (ledger_rows rows)) row_saving refl (λ _ _. refl)

pub saving_le : (r : Row) → row_saving r ≤ r.original
saving_le r = elim r.verdict as (λ v. saving r.original r.fast (core_verdict v) ≤ r.original) [ Kept ↦ omega arith | Differs d ↦ omega arith | Stopped ↦ omega arith | Late ↦ omega arith ]

pub savings_le : (rows : List Row) → savings (ledger_rows rows) ≤ originals (ledger_rows rows)
savings_le [] = omega arith
savings_le (r ∷ rs) = omega (arith, saving_le r, savings_le rs)

-- u is t with one row more, of this original and fast count and this verdict
pub record AddsRow (original fast : ℕ) (v : Verdict) (t u : Totals) : Type 0 where
  pub regions : u.regions ≡ t.regions
  pub kept : u.kept ≡ t.kept + cond (is_kept v) 1 0
  pub differs : u.differs ≡ t.differs + cond (is_differing v) 1 0
  pub stopped : u.stopped ≡ t.stopped + cond (is_stopped v) 1 0
  pub late : u.late ≡ t.late + cond (is_late v) 1 0
  pub alone_count : u.alone_count ≡ t.alone_count
  pub path : u.path_count + saving original fast (core_verdict v) ≡ t.path_count

pub adds_kept : (original fast : ℕ) (t : Totals) → original - fast ≤ t.path_count → AddsRow original fast Kept t (record t { kept = t.kept + 1; path_count = t.path_count - (original - fast) })
adds_kept original fast t h = record { regions = refl; kept = refl; differs = omega arith; stopped = omega arith; late = omega arith; alone_count = refl; path = omega arith }

module _ (rows : List Row) (alone i : ℕ) (t : Totals) (d : Row) (so_far : CountsFirst rows alone i t) (more : i < length rows) where
  -- the next row saves no more than is left
  pub saving_fits : originals (ledger_rows rows) ≤ alone → row_saving (get_or rows i d) ≤ t.path_count
  saving_fits inside = omega (arith, sum_by_more_le row_saving rows i d more, savings_le rows, savings_sum rows, so_far.path)

  pub counts_next : (u : Totals) → AddsRow (get_or rows i d).original (get_or rows i d).fast (get_or rows i d).verdict t u → CountsFirst rows alone (i + 1) u
  counts_next u h = record {
    regions = h.regions ∙ so_far.regions;
    kept = omega (arith, sum_by_more (λ r. cond (is_kept r.verdict) 1 0) rows i d more, h.kept, so_far.kept);
    differs = omega (arith, sum_by_more (λ r. cond (is_differing r.verdict) 1 0) rows i d more, h.differs, so_far.differs);
    stopped = omega (arith, sum_by_more (λ r. cond (is_stopped r.verdict) 1 0) rows i d more, h.stopped, so_far.stopped);
    late = omega (arith, sum_by_more (λ r. cond (is_late r.verdict) 1 0) rows i d more, h.late, so_far.late);
    alone_count = h.alone_count ∙ so_far.alone_count;
    path = omega (arith, sum_by_more row_saving rows i d more, h.path, so_far.path);
  }

  -- the same by the verdict that was found
  pub counts_next_by : (u : Totals) (v : Verdict) → (get_or rows i d).verdict ≡ v → AddsRow (get_or rows i d).original (get_or rows i d).fast v t u → CountsFirst rows alone (i + 1) u
  counts_next_by u v is h = counts_next u (subst (λ w. AddsRow (get_or rows i d).original (get_or rows i d).fast w t u) (sym is) h)

  pub kept_fits : originals (ledger_rows rows) ≤ alone → (get_or rows i d).verdict ≡ Kept → (get_or rows i d).original - (get_or rows i d).fast ≤ t.path_count
  kept_fits inside is =
      let same : row_saving (get_or rows i d) ≡ (get_or rows i d).original - (get_or rows i d).fast = ap (λ v. saving (get_or rows i d).original (get_or rows i d).fast (core_verdict v)) is in
      omega (arith, saving_fits inside, same)

-- once all rows are counted, these are the totals
pub counts_all : (rows : List Row) (alone i : ℕ) (t : Totals) → CountsFirst rows alone i t → length rows ≤ i → t ≡ totals_of rows alone
counts_all rows alone i t h all =
    let whole : take i rows ≡ rows = take_all i rows all in
    let path : t.path_count ≡ path_count alone (ledger_rows rows) = omega (arith, h.path, savings_sum rows, ap (λ xs. sum_by row_saving xs) whole) in
    let kept = rw whole at h.kept in
    let differs = rw whole at h.differs in
    let stopped = rw whole at h.stopped in
    let late = rw whole at h.late in
    let regions = h.regions in
    let same = h.alone_count in
    grind arith
