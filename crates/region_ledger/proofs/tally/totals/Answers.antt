use Rattle.std.proofs.Common.{refl, arith}
use Rattle.region_ledger.specs.declared.verdict.Verdict.TheVariants.{Kept}
use Rattle.region_ledger.proofs.OnTotals.{adds_kept, kept_fits, counts_next_by, counts_all}
use Rattle.region_ledger.proofs.tally.totals.Goals as goal
use Rattle.region_ledger.proofs.tally.totals.Goals.{in-Kept, in-Differs, in-Stopped, in-Late}

pub overflow_sub-totals-in-Kept : goal.overflow_sub-totals-in-Kept
overflow_sub-totals-in-Kept c = kept_fits _ _ _ _ _ c.loop-row.invariant c.loop-row-test.true c.requires.inside c.in-Kept.is

pub loop-row-preserved : goal.loop-row-preserved
loop-row-preserved c =
    let next = counts_next_by _ _ _ _ _ c.loop-row.invariant c.loop-row-test.true in
    elim c.match-row.branch [
      | in-Kept w ↦ rw w.totals-is (next _ Kept w.in-Kept.is (adds_kept _ _ _ (kept_fits _ _ _ _ _ c.loop-row.invariant c.loop-row-test.true c.requires.inside w.in-Kept.is)))
      | in-Differs w ↦ rw w.totals-is (next _ _ w.in-Differs.is (record { regions = refl; kept = omega arith; differs = refl; stopped = omega arith; late = omega arith; alone_count = refl; path = omega arith }))
      | in-Stopped w ↦ rw w.totals-is (next _ _ w.in-Stopped.is (record { regions = refl; kept = omega arith; differs = omega arith; stopped = refl; late = omega arith; alone_count = refl; path = omega arith }))
      | in-Late w ↦ rw w.totals-is (next _ _ w.in-Late.is (record { regions = refl; kept = omega arith; differs = omega arith; stopped = omega arith; late = refl; alone_count = refl; path = omega arith }))
    ]

pub returns-clause-counts : goal.returns-clause-counts
returns-clause-counts c = counts_all _ _ _ _ c.loop-row.invariant c.loop-row-test.false
