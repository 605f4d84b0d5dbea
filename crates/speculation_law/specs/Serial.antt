-- What the serial history comes to.
use Rattle.std.specs.Prelude.{◌≡◌, ℕ, [], List, Some}
use Rattle.speculation.specs.declared.history.Settings.{Settings}
use Rattle.speculation.specs.declared.history.Entry.{Entry}
use Rattle.speculation.specs.Machine.{Machine}
use Rattle.speculation.specs.Core.{Core, Finished, opening, verified}
use Rattle.speculation.specs.Events.{core_run}
use Rattle.speculation.specs.Serial.{serial}

-- the core has a finish, and nothing that is verified is left
pub record HasFinished {S E D : Type 0} (b : Settings) (c : Core S E D) : Type 0 where
  pub finished : Finished E
  pub finish : c.finish ≡ Some finished
  pub released : verified b c ≡ []

-- these entries are allowed from c on
abbrev pub IsAllowed : {S E D : Type 0} → Machine S E D → Settings → Core S E D → List Entry → Type 0
IsAllowed {S} {E} {D} m b c xs = (new : Core S E D) × (core_run m b (Some c) xs ≡ Some new)

-- these entries are so many rounds of the serial history
abbrev pub IsSerialSoFar : {S E D : Type 0} → Machine S E D → Settings → S → List Entry → Type 0
IsSerialSoFar m b start entries = (rounds : ℕ) × (entries ≡ serial m b rounds (opening start))
