-- What the law of histories says.
use Rattle.std.specs.Prelude.{◌≡◌, ℕ, List, ◌++◌, Some, None}
use Rattle.speculation.specs.declared.tracks.Kind.TheVariants.{Fast}
use Rattle.speculation.specs.declared.history.Settings.{Settings}
use Rattle.speculation.specs.declared.history.Entry.{Entry}
use Rattle.speculation.specs.Machine.{Machine}
use Rattle.speculation.specs.Run.{fresh, go}
use Rattle.speculation.specs.Record.{alone, output_of, IsPrefixOf}
use Rattle.speculation.specs.Tracks.{point}
use Rattle.speculation.specs.Ledger.{ledger}
use Rattle.speculation.specs.Core.{Core, Finished, opening, verified}
use Rattle.speculation.specs.Events.{core_run}

-- The one premise on a machine: a difference is missed nowhere between a state of the program and one of a fast version
-- that began in a state of the program.
abbrev pub Exact : {S E D : Type 0} → Machine S E D → S → Type 0
Exact m start = (a i k : ℕ) → m.difference (go m (fresh start) a).state (point m Fast (go m (fresh start) i).state k).state ≡ None
    → (go m (fresh start) a).state ≡ (point m Fast (go m (fresh start) i).state k).state

-- a legal history: each entry is allowed in its turn from the opening core on, and they lead to c
abbrev pub IsHistory : {S E D : Type 0} → Machine S E D → Settings → S → List Entry → Core S E D → Type 0
IsHistory m b start entries c = core_run m b (Some (opening start)) entries ≡ Some c

-- What came out, and what may come out now, is a prefix of what the program alone writes within the budget, and the rows
-- are a prefix of the ledger.
pub record IsPartial {S E D : Type 0} (m : Machine S E D) (b : Settings) (start : S) (c : Core S E D) : Type 0 where
  pub output : IsPrefixOf (c.released ++ verified b c) (output_of (alone m start b.budget))
  pub rows : IsPrefixOf c.rows (ledger m start b.budget)

-- The end and the count are those of the program alone, and output and rows are whole.
pub record IsComplete {S E D : Type 0} (m : Machine S E D) (b : Settings) (start : S) (c : Core S E D) (f : Finished E) : Type 0 where
  pub end : f.end ≡ (alone m start b.budget).end
  pub count : f.count ≡ (alone m start b.budget).count
  pub output : c.released ++ verified b c ≡ output_of (alone m start b.budget)
  pub rows : c.rows ≡ ledger m start b.budget
