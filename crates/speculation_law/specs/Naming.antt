-- The names and the bounds of the core of every legal history.
use Rattle.std.specs.Prelude.{◌≡◌, ℕ, ◌+◌, ◌*◌, ◌<◌, ◌≤◌, List, [], ◌∷◌, Some, None, length}
use Rattle.speculation.specs.declared.tracks.Name.{Name}
use Rattle.speculation.specs.declared.tracks.OpenLoan.{OpenLoan}
use Rattle.speculation.specs.declared.history.Settings.{Settings}
use Rattle.speculation.specs.Machine.{Machine}
use Rattle.speculation.specs.Core.{Core, Track, Part, Open, Closed, Region, find_loan, find_track}
use Rattle.speculation.specs.Effects.{between_steps}
use Rattle.speculation_law.specs.Sound.{Good}

-- the regions' numbers rise from above `low` to at most `high`
abbrev pub Rising : {S : Type 0} → ℕ → ℕ → List (Region S) → Type 0
Rising low high [] = low ≤ high
Rising low high (r ∷ rs) = (low < r.number) × Rising r.number high rs

-- no two loans have one name
abbrev pub Distinct : List OpenLoan → Type 0
Distinct [] = Unit {0}
Distinct (l ∷ ls) = (find_loan l.name ls ≡ None) × Distinct ls

-- a live track has this name
abbrev pub IsLive : {S E D : Type 0} → Core S E D → Name → Type 0
IsLive {S} c n = (t : Track S) × (find_track c n ≡ Some t)

-- Live tracks have different names of the present generation, and loans have different names. A loan that was not dropped
-- names a live track, and one that was dropped has a name of an earlier generation.
pub record Named {S E D : Type 0} (c : Core S E D) : Type 0 where
  pub rising : Rising 0 c.last c.regions
  pub distinct : Distinct c.loans
  pub live : (n : Name) (l : OpenLoan) → find_loan n c.loans ≡ Some l → l.dropped ≡ None → IsLive c n
  pub dropped : (n : Name) (l : OpenLoan) (row : ℕ) → find_loan n c.loans ≡ Some l → l.dropped ≡ Some row → (n.generation < c.generation) × (row < length c.rows)

-- the fast version's count is at most this
abbrev pub PartWithin : {S : Type 0} → ℕ → Part S → Type 0
PartWithin budget Open = Unit {0}
PartWithin budget (Closed k t) = k ≤ budget

-- the counts of these regions' tracks and segments are at most this
abbrev pub RegionsWithin : {S : Type 0} → ℕ → List (Region S) → Type 0
RegionsWithin budget [] = Unit {0}
RegionsWithin budget (r ∷ rs) = record {
  normal : r.normal.own ≤ budget;
  part : PartWithin budget r.part;
  segment : between_steps r.segment ≤ budget;
  rest : RegionsWithin budget rs;
}

-- what bounds the numbers of the core
pub record Bounded {S E D : Type 0} (b : Settings) (c : Core S E D) : Type 0 where
  pub regions : RegionsWithin b.budget c.regions
  pub lead : c.lead.own ≤ b.budget
  pub base : c.base ≤ 2 * b.budget
  pub rows : length c.rows ≤ c.base
  pub generation : c.generation ≤ length c.rows
  pub open_regions : length c.regions ≤ b.tracks
  pub last : c.last ≤ length c.rows + length c.regions

-- all that holds of the core of every legal history
pub record Sound {S E D : Type 0} (m : Machine S E D) (b : Settings) (start : S) (c : Core S E D) : Type 0 where
  pub good : Good m b start c
  pub named : Named c
  pub bounded : Bounded b c
