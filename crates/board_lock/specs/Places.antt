-- The view of a seat in no turn and in a turn.
use Rattle.std.specs.Prelude.{◌≡◌, ℕ, ◌%◌, List, [], ◌∷◌, Option, None}
use Rattle.atomic_table.specs.Table.{Me}
use Rattle.atomic_table.specs.Seated.{TableId}
use Rattle.atomic_table.specs.declared.shared.Seat.{Seat}
use Rattle.board_lock.specs.declared.known.Known.{Known}
use Rattle.board_lock.specs.declared.known.Stage.TheVariants.{Idle, Waits, Holds}
use Rattle.board_lock.specs.Steps.{staged}

-- a table of a lock has three words and one slot
abbrev pub IsLockTable : TableId → Type 0
IsLockTable t = (t.words ≡ 3) × (t.slots ≡ 1)

module _ {T I F : Type 0} where
  -- one seat, at two moments
  abbrev pub IsSameSeat : Seat (Option T) (Known F I) → Seat (Option T) (Known F I) → Type 0
  IsSameSeat s t = (t.table_id ≡ s.table_id) × (t.id ≡ s.id)

  -- in no turn
  abbrev pub IsAtRest : Me (Option T) (Known F I) → Type 0
  IsAtRest m = (m.0.stage ≡ Idle) × (m.1 ≡ [])

  -- with the turn
  abbrev pub IsInTurn : Me (Option T) (Known F I) → Type 0
  IsInTurn m = (n : ℕ) × (m.0.stage ≡ Holds n)

  -- with this ticket, modulo 2^64, and the entries of v
  abbrev pub HasTicket : Known F I → ℕ → Me (Option T) (Known F I) → Type 0
  HasTicket v n m = (t : ℕ) × (n ≡ t % 18446744073709551616) × (m ≡ (staged v v.seen (Waits t), []))

  -- with the turn, after these entries were seen, and the value taken out of its slot
  abbrev pub HasTurn : Known F I → List I → Me (Option T) (Known F I) → Type 0
  HasTurn v log m = (n : ℕ) × (m ≡ (staged v log (Holds n), (0, None) ∷ []))
