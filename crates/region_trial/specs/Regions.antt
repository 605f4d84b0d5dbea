-- The program from a state on, up to the end of its next region
use Rattle.std.specs.Prelude.{◌≡◌, ℕ, suc, ◌+◌, ◌-◌, ◌≤◌, List, [], ◌∷◌}
use Rattle.speculation.specs.declared.tracks.Kind.TheVariants.{Normal, Fast}
use Rattle.speculation.specs.Run.{fresh, go, taken}
use Rattle.speculation.specs.Ledger.{ledger_from}
use Rattle.guest_model.specs.MachineState.{MachineState}
use Rattle.guest_model.specs.Rv32.{rv32}
use Rattle.track_state.specs.Views.{TrackView, view_of}
use Rattle.track_state.specs.Transitions.{IsAtBoundary}
use Rattle.region_ledger.specs.Ledger.{core_finished, ledger_row}
use Rattle.region_ledger.specs.declared.row.Row.{Row}
use Rattle.region_ledger.specs.declared.finished.Finished.{Finished}
use Rattle.region_trial.specs.declared.region.Step.{Step}
use Rattle.region_trial.specs.declared.region.Step.TheVariants as S
use Rattle.region_trial.specs.Reached.{IsUnderWay, IsClosed}

-- The program stands in state s after `at` instructions, with `left` still in the budget. No region closes any more, and
-- the program finishes so.
pub record Finishes (input : List ℕ) (s : MachineState) (at left : ℕ) (number : ℕ) (f : Finished) : Type 0 where
  pub rows : ledger_from (rv32 input) left s number at ≡ []
  pub finished : core_finished f ≡ record { end = (go (rv32 input) (fresh s) left).end; count = at + taken (rv32 input) (fresh s) left }

-- The fast version of the region that the original `o` closed, run for at most as many instructions
pub record IsTried (input : List ℕ) (o f : TrackView) : Type 0 where
  pub kind : f.kind ≡ Fast
  pub start : f.start ≡ o.start
  pub budget : f.budget ≡ o.budget
  pub way : IsUnderWay input f o.own

-- The next region opens after `before` instructions. Its original `o` closed it, its fast version is `f`, and this is its row.
pub record Passes (input : List ℕ) (s : MachineState) (at left : ℕ) (number : ℕ) (row : Row) (o f : TrackView) (budget : ℕ) : Type 0 where
  pub before : ℕ
  pub opens : row.at ≡ at + before
  pub there : go (rv32 input) (fresh s) before ≡ fresh o.start
  pub original : IsClosed input o
  pub closes : IsAtBoundary Normal o
  pub count : o.own ≡ row.original
  pub within : before + row.original ≤ left
  pub budget_is : o.budget ≡ budget
  pub fast : IsTried input o f
  pub rows : ledger_from (rv32 input) left s number at ≡ ledger_row row ∷ ledger_from (rv32 input) (left - (before + row.original)) o.state (suc number) (row.at + row.original)

abbrev pub Steps : List ℕ → MachineState → (at left number : ℕ) → Step → ℕ → Type 0
Steps input s at left number (S.Region r) budget = Passes input s at left number r.row (view_of r.original) (view_of r.fast) budget
Steps input s at left number (S.Finished f) budget = Finishes input s at left number f
