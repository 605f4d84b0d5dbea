-- What each step tells the pass that makes it: of the view and slots before, the number found, and the view and slots after.
use Rattle.std.specs.Prelude.{◌≡◌, ◌≢◌, ℕ, ◌+◌, ◌%◌, List, [], ◌∷◌, ◌++◌, Option, Some}
use Rattle.atomic_table.specs.Table.{Me}
use Rattle.board_lock.specs.declared.known.Known.{Known}
use Rattle.board_lock.specs.declared.known.Stage.{Stage}
use Rattle.board_lock.specs.declared.known.Stage.TheVariants.{Idle, Waits, Holds}
use Rattle.board_lock.specs.Entries.{Continues}

module _ {F I : Type 0} where
  -- the view with these entries seen, at this stage
  abbrev pub staged : Known F I → List I → Stage → Known F I
  staged v seen stage = record { fixed = v.fixed; seen = seen; seat = v.seat; stock = v.stock; stage = stage }

  -- what is left of a view that gives a seat number, and the view with that number
  abbrev pub giver : Known F I → Known F I
  giver v = record { fixed = v.fixed; seen = v.seen; seat = v.seat; stock = v.stock + 1; stage = v.stage }

  abbrev pub given : Known F I → Known F I
  given v = record { fixed = v.fixed; seen = v.seen; seat = v.stock; stock = 18446744073709551615; stage = Idle }

  -- the next of these entries has come to what was seen
  abbrev pub OneMore : {T : Type 0} → List I → Me (Option T) (Known F I) → Me (Option T) (Known F I) → Type 0
  OneMore log m m' = (e : I) × (rest : List I) × (log ≡ m.0.seen ++ e ∷ rest) × (m' ≡ (staged m.0 (m.0.seen ++ e ∷ []) m.0.stage, m.1))

  -- a ticket was drawn
  abbrev pub drew : {T : Type 0} → Me (Option T) (Known F I) → ℕ → Me (Option T) (Known F I) → Type 0
  drew m n m' = (t : ℕ) × (n ≡ t % 18446744073709551616) × (m' ≡ (staged m.0 m.0.seen (Waits t), []))

  -- the ticket and the slot were given back
  abbrev pub passed : {T : Type 0} → Me (Option T) (Known F I) → Me (Option T) (Known F I) → Type 0
  passed m m' = m' ≡ (staged m.0 m.0.seen Idle, [])

module _ {F I T : Type 0} (fixed : T → F) (entries : T → List I) (belongs : List I → I → Option ℕ) where
  -- the value continues what the view has
  abbrev pub Resumes : Known F I → T → Type 0
  Resumes v x = Continues fixed entries belongs v.fixed v.seen v.seat v.stock x

  -- where the number is the ticket, the slot came with the value; else nothing changed
  abbrev pub looked : Me (Option T) (Known F I) → ℕ → Me (Option T) (Known F I) → Type 0
  looked m n m' = (t : ℕ) → m.0.stage ≡ Waits t
      → (n ≡ t % 18446744073709551616 → (x : T) × Resumes m.0 x × (m' ≡ (staged m.0 (entries x) (Holds t), (0, Some x) ∷ [])))
      × (n ≢ t % 18446744073709551616 → m' ≡ m)
