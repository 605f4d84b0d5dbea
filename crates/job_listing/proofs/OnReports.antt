-- The reports of a batch, one job after the other
use Rattle.std.proofs.Common.{◌≡◌, ℕ, ◌+◌, ◌<◌, List, [], ◌∷◌, ◌++◌, length, drop, get_or, All, refl, sym, ap, ◌∙◌, arith}
use Rattle.std.proofs.lemmas.List.{at_drop_more}
use Rattle.std.proofs.lemmas.List.Elements.{All-nil, All-cons, All-head, All-tail}
use Rattle.job_batch.specs.declared.ends.JobEnd.{JobEnd}
use Rattle.job_listing.specs.declared.report.JobReport.{JobReport}
use Rattle.job_listing.specs.declared.report.JobReport.TheVariants as Reports
use Rattle.job_listing.specs.declared.report.JobStart.{JobStart}
use Rattle.job_listing.specs.declared.report.JobStart.TheVariants as Starts
use Rattle.job_listing.specs.Listing.{runs_in, merged, HasFinish, HasEnd, job_text, texts_from}

-- there are as many reports as jobs
pub length-merged : (jobs : List JobStart) (ends : List JobEnd) → length ends ≡ runs_in jobs → length (merged jobs ends) ≡ length jobs
length-merged [] ends count = refl
length-merged (Starts.TooLong ∷ jobs) ends count = omega (arith, length-merged jobs ends count)
length-merged (Starts.BadImage fault ∷ jobs) ends count = omega (arith, length-merged jobs ends count)
length-merged (Starts.Runs ∷ jobs) [] count = absurd (omega arith)
length-merged (Starts.Runs ∷ jobs) (end ∷ ends) count = omega (arith, length-merged jobs ends (omega arith))

-- reports can be printed where the ends can
pub merged-ends : (jobs : List JobStart) (ends : List JobEnd) → All (λ end. HasFinish end.outcome) ends → All HasEnd (merged jobs ends)
merged-ends [] ends each = All-nil HasEnd
merged-ends (Starts.TooLong ∷ jobs) ends each = All-cons HasEnd Reports.TooLong (merged jobs ends) tt (merged-ends jobs ends each)
merged-ends (Starts.BadImage fault ∷ jobs) ends each = All-cons HasEnd (Reports.BadImage fault) (merged jobs ends) tt (merged-ends jobs ends each)
merged-ends (Starts.Runs ∷ jobs) [] each = All-nil HasEnd
merged-ends (Starts.Runs ∷ jobs) (end ∷ ends) each =
    All-cons HasEnd (Reports.Ran end) (merged jobs ends) (All-head (λ e. HasFinish e.outcome) end ends each) (merged-ends jobs ends (All-tail (λ e. HasFinish e.outcome) end ends each))

-- the texts from the k-th job on
pub texts-next : (jobs : List JobReport) (k : ℕ) (job : JobReport) → k < length jobs → job ≡ get_or jobs k job → texts_from k (drop k jobs) ≡ job_text k job ++ texts_from (k + 1) (drop (k + 1) jobs)
texts-next jobs k job h at = at_drop_more (texts_from k) jobs k job h ∙ ap (λ (j : JobReport). job_text k j ++ texts_from (k + 1) (drop (k + 1) jobs)) (sym at)
