-- What the code that tries both versions of a region of the toy machine gives.
use Rattle.std.specs.Prelude.{◌≡◌, ℕ, suc, ◌≤◌, List, Some}
use Rattle.speculation.specs.declared.tracks.Kind.TheVariants.{Fast}
use Rattle.speculation.specs.declared.toy.Instruction.{Instruction}
use Rattle.speculation.specs.declared.toy.State.{State}
use Rattle.speculation.specs.declared.toy.End.{End}
use Rattle.speculation.specs.declared.toy.Difference.{Difference}
use Rattle.speculation.specs.Tracks.{point}
use Rattle.speculation.specs.Verdicts as law
use Rattle.speculation.specs.Toy.{toy}
use Rattle.speculation_law.specs.declared.trial.FastEnd.{FastEnd}
use Rattle.speculation_law.specs.declared.trial.FastEnd.TheVariants.{Closed, Ended, Running}
use Rattle.speculation_law.specs.declared.trial.Verdict.{Verdict}
use Rattle.speculation_law.specs.declared.trial.Verdict.TheVariants.{Kept, Differs, Stopped, Late}
use Rattle.speculation_law.specs.declared.trial.Judged.{Judged}
use Rattle.speculation_law.specs.Facts.{Unstopped, Closes}

-- how the fast version from s fares within n instructions
abbrev pub Fares : List Instruction → State → ℕ → FastEnd → Type 0
Fares program s n (Closed k t) = Closes (toy program) s k × (k ≤ n) × (t ≡ (point (toy program) Fast s k).state)
Fares program s n (Ended k) = Unstopped (toy program) Fast s k × (k ≤ n) × ((e : End) × ((point (toy program) Fast s k).end ≡ Some e))
Fares program s n Running = Unstopped (toy program) Fast s (suc n)

abbrev pub verdict_of : Verdict → law.Verdict Difference
verdict_of Kept = law.Kept
verdict_of (Differs d) = law.Differs d
verdict_of Stopped = law.Stopped
verdict_of Late = law.Late

-- the verdict that the code's value tells
abbrev pub judged_of : Judged → law.Judged Difference
judged_of j = record { verdict = verdict_of j.verdict; fast = j.fast }
