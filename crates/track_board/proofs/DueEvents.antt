-- What is found to be due is the core's due event, and what it does.
use Rattle.std.proofs.Common.{◌≡◌, false, Option, Some, None, refl, sym, ap}
use Rattle.speculation.specs.Verdicts.{is_kept}
use Rattle.speculation.specs.Core.{over}
use Rattle.speculation.specs.Due.{Due as CoreDue, Judgement as CoreJudgement, Finishing, Crossing, Judging, Forking}
use Rattle.guest_model.specs.MachineState.{MachineState}
use Rattle.guest_model.specs.declared.difference.Difference.{Difference}
use Rattle.guest_model.specs.declared.end.End.{End}
use Rattle.region_ledger.specs.Ledger.{core_finished, core_verdict, is_kept as is_kept_verdict}
use Rattle.region_ledger.specs.declared.finished.Finished.{Finished}
use Rattle.region_ledger.specs.declared.verdict.Verdict.{Verdict}
use Rattle.region_ledger.specs.declared.verdict.Verdict.TheVariants.{Kept, Differs, Stopped, Late}
use Rattle.speculation_law.proofs.Dues.{due-finishing}
use Rattle.track_board.specs.declared.due.Due.TheVariants.{Finish, Cross, Judge, Fork}
use Rattle.track_board.specs.declared.due.Judgement.{Judgement}
use Rattle.track_board.specs.Value.{Posted, machine_of, core_of}
use Rattle.track_board.specs.Settles.{IsDue, due_of}
use Rattle.track_board.specs.DueTests.{judged_of}

pub is-finish : (f : Finished) (o : Option (CoreDue MachineState End Difference)) → IsDue (Some (Finish f)) o → o ≡ Some (Finishing (core_finished f))
is-finish f None h = absurd h
is-finish f (Some (Finishing g)) h = ap (λ x. Some (Finishing x)) (sym h)
is-finish f (Some Crossing) h = absurd h
is-finish f (Some (Judging v)) h = absurd h
is-finish f (Some Forking) h = absurd h

pub is-cross : (o : Option (CoreDue MachineState End Difference)) → IsDue (Some Cross) o → o ≡ Some Crossing
is-cross None h = absurd h
is-cross (Some (Finishing g)) h = absurd h
is-cross (Some Crossing) h = refl
is-cross (Some (Judging v)) h = absurd h
is-cross (Some Forking) h = absurd h

-- the core's judgement that was found
pub record IsJudging (j : Judgement) (o : Option (CoreDue MachineState End Difference)) : Type 0 where
  pub judgement : CoreJudgement MachineState Difference
  pub is : o ≡ Some (Judging judgement)
  pub same : judged_of j ≡ judgement.judged

pub is-judge : (j : Judgement) (o : Option (CoreDue MachineState End Difference)) → IsDue (Some (Judge j)) o → IsJudging j o
is-judge j None h = absurd h
is-judge j (Some (Finishing g)) h = absurd h
is-judge j (Some Crossing) h = absurd h
is-judge j (Some (Judging v)) h = record { judgement = v; is = refl; same = h }
is-judge j (Some Forking) h = absurd h

pub is-fork : (o : Option (CoreDue MachineState End Difference)) → IsDue (Some Fork) o → o ≡ Some Forking
is-fork None h = absurd h
is-fork (Some (Finishing g)) h = absurd h
is-fork (Some Crossing) h = absurd h
is-fork (Some (Judging v)) h = absurd h
is-fork (Some Forking) h = refl

pub is-none : (o : Option (CoreDue MachineState End Difference)) → IsDue None o → o ≡ None
is-none None h = refl
is-none (Some d) h = absurd h

pub kept-verdict : (v : Verdict) → is_kept (core_verdict v) ≡ is_kept_verdict v
kept-verdict Kept = refl
kept-verdict (Differs d) = refl
kept-verdict Stopped = refl
kept-verdict Late = refl

-- ---- a board that is about to finish is not over

pub live-finish : (v : Posted) (f : Finished) → IsDue (Some (Finish f)) (due_of v) → over (core_of v) ≡ false
live-finish v f h = (due-finishing (machine_of v) v.settings (core_of v) (core_finished f) (is-finish f (due_of v) h)).live
