-- The rule of the lock's table.
-- Word 0 is the next ticket, word 1 the ticket that is served, word 2 the number of entries, each modulo 2^64. Slot 0 is the value.
-- Inside the rule tickets are counted without wrapping. The seat number of a view is its index.
use Rattle.std.specs.Prelude.{◌≡◌, ℕ, zero, suc, ◌+◌, ◌%◌, ◌<◌, ◌≤◌, ◌⊎◌, List, [], ◌∷◌, length, Option, Some}
use mathlib.Core.Option.{none, some}
use mathlib.Core.Option as maybe
use lib.ListN.{get_elem?}
use Rattle.atomic_table.specs.Table.{State}
use Rattle.board_lock.specs.declared.known.Known.{Known}
use Rattle.board_lock.specs.declared.known.Stage.{Stage}
use Rattle.board_lock.specs.declared.known.Stage.TheVariants.{Idle, Waits, Holds}
use Rattle.board_lock.specs.Entries.{Extends, Unborn}

-- 1 where a view has a ticket
abbrev pub weight : Stage → ℕ
weight Idle = 0
weight (Waits n) = 1
weight (Holds n) = 1

-- f of each, added up
abbrev pub total : {A : Type 0} → (A → ℕ) → List A → ℕ
total f [] = 0
total f (x ∷ xs) = f x + total f xs

abbrev pub tickets : {F I : Type 0} → List (Known F I) → ℕ
tickets vs = total (λ v. weight v.stage) vs

-- the first view has the seat numbers from the number of views on, and no other has any
abbrev pub stock_of : ℕ → ℕ → ℕ
stock_of count zero = count
stock_of count (suc j) = 18446744073709551615

-- the view of the first pass
abbrev pub starting : {F I : Type 0} → F → List I → Known F I
starting f entries = record { fixed = f; seen = entries; seat = 0; stock = 1; stage = Idle }

module _ {I T : Type 0} (served drawn : ℕ) (owner : ℕ → ℕ) (known : List I) (homes : List (maybe.Option (Option T))) (j : ℕ) where
  -- the tickets from `served` up to `drawn` are out, each with its owner; who is served and holds the value has seen all that is known
  abbrev pub Stands : Stage → List I → Type 0
  Stands Idle seen = Unit {0}
  Stands (Waits n) seen = (owner n ≡ j) × (served ≤ n) × (n < drawn)
  Stands (Holds n) seen = (owner n ≡ j) × (n ≡ served) × (served < drawn) × (homes ≡ none ∷ []) × (known ≡ seen)

  -- what the rule says of the view at j
  pub record Fits {F : Type 0} (belongs : List I → I → Option ℕ) (f : F) (count : ℕ) (v : Known F I) : Type 0 where
    pub seat : v.seat ≡ j
    pub stock : v.stock ≡ stock_of count j
    pub fixed_part : v.fixed ≡ f
    pub list : Extends belongs j v.seen known
    pub stage : Stands v.stage v.seen

-- the value is out with the view at `at`, which is served
abbrev pub IsOut : {F I T : Type 0} → ℕ → ℕ → List (Known F I) → List (maybe.Option (Option T)) → Type 0
IsOut {F} {I} served at views homes = (homes ≡ none ∷ []) × ((v : Known F I) × (get_elem? views at ≡ some v) × (v.stage ≡ Holds served))

module _ {F I T : Type 0} (fixed : T → F) (entries : T → List I) where
  -- the value is at home, with the known entries
  abbrev pub AtHome : F → List I → List (maybe.Option (Option T)) → Type 0
  AtHome f known homes = (x : T) × (homes ≡ some (Some x) ∷ []) × (fixed x ≡ f) × (entries x ≡ known)

  pub record Ruled (belongs : List I → I → Option ℕ) (f : F) (s : State (Option T) (Known F I)) : Type 0 where
    pub served : ℕ
    pub drawn : ℕ
    pub owner : ℕ → ℕ
    pub known : List I
    pub words : s.words ≡ drawn % 18446744073709551616 ∷ served % 18446744073709551616 ∷ length known % 18446744073709551616 ∷ []
    pub counted : served + tickets s.views ≡ drawn
    pub few : length s.views < 18446744073709551616
    pub place : AtHome f known s.homes ⊎ IsOut served (owner served) s.views s.homes
    pub each : (j : ℕ) (v : Known F I) → get_elem? s.views j ≡ some v → Fits served drawn owner known s.homes j belongs f (length s.views) v
    pub unborn : Unborn belongs (length s.views) known
