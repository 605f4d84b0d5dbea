-- A pass as contracts see it.
use Rattle.std.specs.Prelude.{◌≡◌, ℕ, ◌+◌, Bool, true, false, List, [], ◌∷◌, Option, None}
use Rattle.atomic_table.specs.Seated.{TableId}
use Rattle.board_lock.specs.declared.known.Stage.{Stage}
use Rattle.board_lock.specs.declared.known.Stage.TheVariants.{Idle, Waits, Holds}
use Rattle.board_lock.specs.Entries.{Appends, Continues}

-- the lock, its fixed part, the entries seen, the seat number, the least number of the stock, and whether it has the turn
-- the stock goes up to 2^64 - 2, so at 2^64 - 1 it is empty
pub record Held (F I : Type 0) : Type 0 where
  pub lock : TableId
  pub fixed : F
  pub seen : List I
  pub seat : ℕ
  pub stock : ℕ
  pub in_turn : Bool

abbrev pub has_turn : Stage → Bool
has_turn Idle = false
has_turn (Waits n) = false
has_turn (Holds n) = true

-- between two calls no pass waits, and a pass that has the turn has an empty slot
abbrev pub Poised : {T : Type 0} → Stage → List (ℕ × Option T) → Type 0
Poised Idle slots = slots ≡ []
Poised (Waits n) slots = ⊥
Poised (Holds n) slots = slots ≡ (0, None) ∷ []

module _ {F I T : Type 0} (fixed : T → F) (entries : T → List I) (belongs : List I → I → Option ℕ) where
  -- the value's entries extend the pass
  abbrev pub ExtendsPass : Held F I → T → Type 0
  ExtendsPass p x = Continues fixed entries belongs p.fixed p.seen p.seat p.stock x

  -- the value has the pass's fixed part, and entries of its own seat, or of none, behind what it has seen
  pub record MayLeave (p : Held F I) (x : T) : Type 0 where
    pub fixed_part : fixed x ≡ p.fixed
    pub appends : Appends belongs p.seat p.seen (entries x)

module _ {F I T : Type 0} (fixed : T → F) (entries : T → List I) where
  -- the first pass of a lock that was made with this value
  abbrev pub first_pass : TableId → T → Held F I
  first_pass lock x = record { lock = lock; fixed = fixed x; seen = entries x; seat = 0; stock = 1; in_turn = false }

module _ {F I : Type 0} where
  -- what is left of a pass that gives a seat number, and the pass with that number
  abbrev pub giver_of : Held F I → Held F I
  giver_of p = record p { stock = p.stock + 1 }

  abbrev pub given_by : Held F I → Held F I
  given_by p = record p { seat = p.stock; stock = 18446744073709551615; in_turn = false }
